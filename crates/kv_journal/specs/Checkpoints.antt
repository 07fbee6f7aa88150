-- Checkpoints: what a version stores, in place of the acts that led to it.
use Rattle.std.specs.Prelude.{ℕ, Bool, if◌then◌else◌, List, [], ◌∷◌, ◌++◌, length, map}
use Rattle.std.specs.Int.{w32, w64, to_be_bytes}
use Rattle.kv_model.specs.Acts.{Act, Write, floor_of, is_sealed, writes_of}
use Rattle.kv_model.specs.Compaction.{stored_writes}
use Rattle.kv_model.specs.Configuration.{Configuration}
use Rattle.kv_model.specs.Retained.{retained}
use Rattle.kv_journal.specs.Records.{write_record}

-- the stored writes in the order of their revisions, the last revision, how many entries are retained, the floor, and
-- whether writes have ended
pub record Checkpoint : Type 0 where
  pub writes : List Write
  pub last : ℕ
  pub values : ℕ
  pub floor : ℕ
  pub sealed : Bool

-- that of a bucket behind these acts
abbrev pub checkpoint_of : Configuration → List Act → Checkpoint
checkpoint_of config acts = record {
  writes = stored_writes config.history acts;
  last = length (writes_of acts);
  values = length (retained config.history acts);
  floor = floor_of acts;
  sealed = is_sealed acts;
}

-- the record of a stored write: its kind, its revision, and the record that the write had
abbrev pub stored_record : Write → List ℕ
stored_record w = 7 ∷ (to_be_bytes w32 w.revision ++ write_record w.op w.key w.value)

-- the record behind them: the numbers, and one byte that is 1 where writes have ended
abbrev pub numbers_bytes : (last values floor : ℕ) → Bool → List ℕ
numbers_bytes last values floor sealed =
    to_be_bytes w64 last ++ (to_be_bytes w64 values ++ (to_be_bytes w64 floor ++ (if sealed then 1 else 0) ∷ []))

abbrev pub numbers_record : (last values floor : ℕ) → Bool → List ℕ
numbers_record last values floor sealed = 8 ∷ numbers_bytes last values floor sealed

-- a payload before which nothing is loose: a checkpoint comes onto the disk as a whole
abbrev pub settled_payload : List ℕ → List ℕ
settled_payload bytes = to_be_bytes w32 0 ++ bytes

abbrev pub stored_payload : Write → List ℕ
stored_payload w = settled_payload (stored_record w)

abbrev pub numbers_payload : Checkpoint → List ℕ
numbers_payload c = settled_payload (numbers_record c.last c.values c.floor c.sealed)

-- the payloads of its frames
abbrev pub checkpoint_payloads : Checkpoint → List (List ℕ)
checkpoint_payloads c = map stored_payload c.writes ++ numbers_payload c ∷ []
