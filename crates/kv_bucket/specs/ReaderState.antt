-- What a contract sees of a reader, and what its calls leave of it.
use Rattle.std.specs.Prelude.{◌≡◌, List, ◌⊎◌}
use Rattle.kv_keys.specs.declared.error.KvError.{KvError}
use Rattle.kv_keys.specs.declared.error.KvError.TheVariants.{NoReader, OutOfMemory}
use Rattle.kv_model.specs.Acts.{Act}
use Rattle.kv_model.specs.Configuration.{Configuration}

-- the configuration of its bucket, the acts that it has seen, and those that it was told of
pub record ReaderState : Type 0 where
  pub config : Configuration
  pub seen : List Act
  pub told : List Act

-- the configuration stays, and is this one
abbrev pub StaysUnder : Configuration → ReaderState → ReaderState → Type 0
StaysUnder config before after = (after.config ≡ before.config) × (after.config ≡ config)

-- why nothing was read: nowhere was it let enter, or memory was refused
abbrev pub IsUnread : KvError → Type 0
IsUnread error = (error ≡ NoReader) ⊎ (error ≡ OutOfMemory)
