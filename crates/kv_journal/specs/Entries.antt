-- Entries of a journal: each is the payload of one frame.
use Rattle.std.specs.Prelude.{◌≡◌, ℕ, ◌<◌, ◌^◌, ⊤, List, [], ◌∷◌, ◌++◌, length, map}
use Rattle.std.specs.Int.{w32, to_be_bytes}
use Rattle.kv_model.specs.Acceptance.{IsAccepted, LawfulFrom}
use Rattle.kv_model.specs.Acts.{Act, writes_of}
use Rattle.kv_model.specs.Configuration.{Configuration}
use Rattle.kv_journal.specs.Records.{Content, did, did_all, closed, record_of}

-- an entry: how many bytes before its frame were not yet known to be on the disk when it was added, and what it tells
pub record Entry : Type 0 where
  pub loose : ℕ
  pub content : Content

abbrev pub payload_of : Entry → List ℕ
payload_of entry = to_be_bytes w32 entry.loose ++ record_of entry.content

abbrev pub payloads_of : List Entry → List (List ℕ)
payloads_of entries = map payload_of entries

-- the acts among what is told, in order
abbrev pub acts_in : Content → List Act
acts_in (did act) = act ∷ []
acts_in (did_all acts) = acts
acts_in (closed last) = []

abbrev pub acts_of : List Entry → List Act
acts_of [] = []
acts_of (entry ∷ entries) = acts_in entry.content ++ acts_of entries

-- what can be told behind these acts: an act that is accepted behind them, several that are, one behind the other, or that
-- they were all
abbrev pub IsLawfulContent : Configuration → List Act → Content → Type 0
IsLawfulContent config before (did act) = IsAccepted config before act
IsLawfulContent config before (did_all acts) = LawfulFrom config before acts
IsLawfulContent config before (closed last) = last ≡ length (writes_of before)

abbrev pub IsLawfulEntry : Configuration → List Act → Entry → Type 0
IsLawfulEntry config before entry = (entry.loose < 2 ^ 32) × IsLawfulContent config before entry.content

-- each entry is one that can be added behind those before it
abbrev pub AreLawful : Configuration → List Act → List Entry → Type 0
AreLawful config before [] = ⊤
AreLawful config before (entry ∷ entries) = IsLawfulEntry config before entry × AreLawful config (before ++ acts_in entry.content) entries
