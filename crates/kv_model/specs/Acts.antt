-- What a bucket has accepted, in order: every other definition is over this one list.
use Rattle.std.specs.Prelude.{◌≡◌, ℕ, ◌++◌, Bool, true, false, List, [], ◌∷◌, Option, Some, None, unwrap_or, if◌then◌else◌}
use Rattle.std.specs.List.{filter_map, list_any, last_or}
use Rattle.kv_model.specs.declared.write.Op.{Op}
use Rattle.kv_model.specs.declared.write.Op.TheVariants.{Put, Delete, Purge}

-- an accepted write: its key, what it does, its value (empty for a marker), and its revision
pub record Write : Type 0 where
  pub key : List ℕ
  pub op : Op
  pub value : List ℕ
  pub revision : ℕ

-- an act is an accepted write, a seal, or a compaction to a floor
pub data Act : Type 0 where
  Wrote : (write : Write) → Act
  Seal : Act
  Compact : (floor : ℕ) → Act

-- a put gives a value; a delete and a purge write a marker, which has none
abbrev pub is_put : Op → Bool
is_put Put = true
is_put Delete = false
is_put Purge = false

abbrev pub is_purge : Op → Bool
is_purge Put = false
is_purge Delete = false
is_purge Purge = true

abbrev pub write_of : Act → Option Write
write_of (Wrote w) = Some w
write_of Seal = None
write_of (Compact floor) = None

abbrev pub is_seal : Act → Bool
is_seal (Wrote w) = false
is_seal Seal = true
is_seal (Compact floor) = false

-- the floor that an act sets: a compaction sets one, and no other act does
abbrev pub floor_in : Act → Option ℕ
floor_in (Wrote w) = None
floor_in Seal = None
floor_in (Compact floor) = Some floor

abbrev pub is_compaction : Act → Bool
is_compaction (Wrote w) = false
is_compaction Seal = false
is_compaction (Compact floor) = true

-- the writes among the acts, in order
abbrev pub writes_of : List Act → List Write
writes_of acts = filter_map write_of acts

-- the floor of the last compaction, 0 where there is none
abbrev pub floor_of : List Act → ℕ
floor_of acts = unwrap_or (last_or None (filter_map floor_in acts)) 0

-- the acts when the last compaction was made, up to it and with it; none where there is none
abbrev pub when_compacted : List Act → List Act
when_compacted [] = []
when_compacted (act ∷ acts) = if list_any is_compaction (act ∷ acts) then act ∷ when_compacted acts else []

-- a bucket is sealed where its acts hold a seal
abbrev pub is_sealed : List Act → Bool
is_sealed acts = list_any is_seal acts

-- the second list begins with the first
abbrev pub IsPrefix : {X : Type 0} → List X → List X → Type 0
IsPrefix {X} xs ys = (rest : List X) × (xs ++ rest ≡ ys)
