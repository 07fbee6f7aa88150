-- Records: what stands in a journal for an act, or for a clean end.
use Rattle.std.specs.Prelude.{◌≡◌, ℕ, true, false, ⊤, List, [], ◌∷◌, ◌++◌, length}
use Rattle.std.specs.Int.{w32, w64, to_be_bytes}
use Rattle.kv_keys.specs.Grammar.{is_key}
use Rattle.kv_model.specs.Acts.{Act, Wrote, Seal, Compact, is_put}
use Rattle.kv_model.specs.Requests.{Asked, key_of, op_of, value_of}
use Rattle.kv_model.specs.declared.write.Op.{Op}
use Rattle.kv_model.specs.declared.write.Op.TheVariants.{Put, Delete, Purge}

-- what a record tells: an act, several acts at once, or that the journal was closed when so many writes had been accepted
pub data Content : Type 0 where
  did : (act : Act) → Content
  did_all : (acts : List Act) → Content
  closed : (last : ℕ) → Content

-- the first byte of the record of a write
abbrev pub kind_of : Op → ℕ
kind_of Put = 1
kind_of Delete = 2
kind_of Purge = 3

-- the record of a write: its kind, the length of the key in one byte, the key, and the value, which is all the rest
abbrev pub write_record : Op → (key value : List ℕ) → List ℕ
write_record op key value = kind_of op ∷ length key ∷ (key ++ value)

-- The record of an act. The revision of a write is not in it: it is one more than the number of writes before it.
abbrev pub act_record : Act → List ℕ
act_record (Wrote w) = write_record w.op w.key w.value
act_record Seal = 4 ∷ []
act_record (Compact floor) = 5 ∷ to_be_bytes w64 floor

-- the records of acts, each behind its length
abbrev pub act_records : List Act → List ℕ
act_records [] = []
act_records (act ∷ acts) = to_be_bytes w32 (length (act_record act)) ++ (act_record act ++ act_records acts)

abbrev pub record_of : Content → List ℕ
record_of (did act) = act_record act
record_of (did_all acts) = 10 ∷ act_records acts
record_of (closed last) = 9 ∷ to_be_bytes w64 last

-- what each accepted act is: a write is of a key, and a marker has no value
abbrev pub IsRecordableAct : Act → Type 0
IsRecordableAct (Wrote w) = (is_key w.key ≡ true) × (is_put w.op ≡ false → w.value ≡ [])
IsRecordableAct Seal = ⊤
IsRecordableAct (Compact floor) = ⊤

-- the record of the write that is accepted as this asks for, and those of several
abbrev pub asked_record : Asked → List ℕ
asked_record asked = write_record (op_of asked) (key_of asked) (value_of asked)

abbrev pub asked_records : List Asked → List ℕ
asked_records [] = []
asked_records (asked ∷ more) = to_be_bytes w32 (length (asked_record asked)) ++ (asked_record asked ++ asked_records more)

-- what is told by a record of its own; several acts are told by theirs, one by one
abbrev pub IsRecordable : Content → Type 0
IsRecordable (did act) = IsRecordableAct act
IsRecordable (did_all acts) = ⊥
IsRecordable (closed last) = ⊤
