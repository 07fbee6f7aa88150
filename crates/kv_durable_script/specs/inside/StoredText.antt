-- The text for what a version stores.
use Rattle.std.specs.Prelude.{◌≡◌, ℕ, Bool, List}
use Rattle.kv_model.specs.Acts.{Act, Write}
use Rattle.kv_store.specs.Standing.{StandsFor}
use Rattle.kv_store.specs.Stored.{Stored}
use Rattle.kv_durable_script.specs.Dumps.{lines_text}
use Rattle.kv_durable_script.specs.Stored.{storing_lines, stored_text}

-- the text is the commands for some writes; and whatever acts the version stands for, it is that for what is stored behind them
pub record IsStoredText (version : Stored) (text : List ℕ) : Type 0 where
  pub writes : List Write
  pub sealed : Bool
  pub commands : text ≡ lines_text (storing_lines writes sealed)
  pub of_acts : (acts : List Act) → StandsFor acts version → text ≡ stored_text version.config.history acts
