-- One entry that is done again.
use Rattle.std.specs.Prelude.{◌≡◌, ℕ, List, [], ◌∷◌, ◌++◌}
use Rattle.kv_model.specs.Acceptance.{IsAccepted}
use Rattle.kv_model.specs.Acts.{Act}
use Rattle.kv_store.specs.Standing.{StandsFor}
use Rattle.kv_store.specs.Stored.{Stored}
use Rattle.kv_journal.specs.Records.{Content, act_record, record_of}
use Rattle.kv_journal.specs.Entries.{Entry, payload_of, acts_in, IsLawfulContent, IsLawfulEntry}

-- this content has the record and can be told there, the new version has its acts behind those of the old one, and nothing
-- else that can be told there has this record
pub record Redoes (bytes : List ℕ) (content : Content) (old new : Stored) : Type 0 where
  pub has : record_of content ≡ bytes
  pub on : (acts : List Act) → StandsFor acts old → StandsFor (acts ++ acts_in content) new
  pub lawful : (acts : List Act) → StandsFor acts old → IsLawfulContent old.config acts content
  pub only : (acts : List Act) → StandsFor acts old → (other : Content) → record_of other ≡ bytes → IsLawfulContent old.config acts other → other ≡ content

-- the same of a single act and its record
pub record RedoesAct (bytes : List ℕ) (act : Act) (old new : Stored) : Type 0 where
  pub has : act_record act ≡ bytes
  pub on : (acts : List Act) → StandsFor acts old → StandsFor (acts ++ act ∷ []) new
  pub lawful : (acts : List Act) → StandsFor acts old → IsAccepted old.config acts act
  pub only : (acts : List Act) → StandsFor acts old → (other : Act) → act_record other ≡ bytes → IsAccepted old.config acts other → other ≡ act

-- the same of an entry and its payload
pub record RedoesEntry (payload : List ℕ) (entry : Entry) (old new : Stored) : Type 0 where
  pub has : payload_of entry ≡ payload
  pub on : (acts : List Act) → StandsFor acts old → StandsFor (acts ++ acts_in entry.content) new
  pub lawful : (acts : List Act) → StandsFor acts old → IsLawfulEntry old.config acts entry
  pub only : (acts : List Act) → StandsFor acts old → (other : Entry) → payload_of other ≡ payload → IsLawfulEntry old.config acts other → other ≡ entry
