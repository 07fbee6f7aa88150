-- What a bucket answers, without where it lies in memory.
use Rattle.std.specs.Prelude.{ℕ, List, Option, Some, None}
use Rattle.kv_keys.specs.declared.error.KvError.{KvError}
use Rattle.kv_model.specs.declared.status.Status.{Status}
use Rattle.kv_model.specs.Given.{Entry, Item, AnEntry, EndMarker}

pub data Answer : Type 0 where
  Revision : (revision : ℕ) → Answer
  Sealed : Answer
  AnsweredEntry : (entry : Entry) → Answer
  Entries : (entries : List Entry) → Answer
  Keys : (keys : List (List ℕ)) → Answer
  Numbers : (status : Status) → (watches : ℕ) → Answer
  Watching : (number : ℕ) → Answer
  Marker : Answer
  Empty : Answer
  Ended : (handed : ℕ) → Answer
  Compacted : (floor : ℕ) → Answer
  Refused : (error : KvError) → Answer

-- the answer to a take: the next item, or Empty where there is none
abbrev pub answer_item : Option Item → Answer
answer_item None = Empty
answer_item (Some (AnEntry entry)) = AnsweredEntry entry
answer_item (Some EndMarker) = Marker
