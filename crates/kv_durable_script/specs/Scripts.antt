-- The script of a file.
use Rattle.std.specs.Prelude.{◌≡◌, ◌⊎◌, ℕ, Bool, true, List, [], ◌++◌}
use Rattle.std.specs.Option.{option_map_or}
use Rattle.kv_model.specs.Acts.{Write}
use Rattle.kv_model.specs.Configuration.{Configuration}
use Rattle.kv_journal.specs.Entries.{AreLawful, Entry, acts_of}
use Rattle.kv_durable.specs.Bases.{Base, IsBaseOf}
use Rattle.kv_durable.specs.Files.{Reads}
use Rattle.kv_durable.specs.Openings.{TellsBase}
use Rattle.kv_durable_script.specs.Dumps.{dump_text, lines_text}
use Rattle.kv_durable_script.specs.Stored.{storing_lines, stored_text}

-- that of a file with this base and these entries: their commands; behind a checkpoint those for what its bucket stores
abbrev pub script_of : Base → List Entry → List ℕ
script_of base entries = option_map_or (λ acts. stored_text base.config.history (acts ++ acts_of entries)) base.replaced (dump_text entries)

-- The text is the script of a file with these bytes: whatever base the file goes on from, the bytes are read on it as these
-- entries and a rest, and the text is the script of that base and these entries. Behind a checkpoint it is the commands for some
-- writes, even if no bucket has that.
pub record IsScript (config : Configuration) (bytes text : List ℕ) : Type 0 where
  pub payloads : List (List ℕ)
  pub checkpointed : Bool
  pub seed : ℕ
  pub entries : List Entry
  pub rest : List ℕ
  pub tells : TellsBase config bytes payloads checkpointed
  pub reads : (base : Base) → IsBaseOf config payloads base → Reads base bytes seed entries rest
  pub script : (base : Base) → IsBaseOf config payloads base → text ≡ script_of base entries
  pub commands : checkpointed ≡ true → (ws : List Write) × (sealed : Bool) × (text ≡ lines_text (storing_lines ws sealed))

-- a text that can be the script of a file of this configuration: the commands of entries that can stand in one, or those for some
-- writes
abbrev pub CanBeScript : Configuration → List ℕ → Type 0
CanBeScript config text =
    ((entries : List Entry) × AreLawful config [] entries × (text ≡ dump_text entries))
    ⊎ ((ws : List Write) × (sealed : Bool) × (text ≡ lines_text (storing_lines ws sealed)))
