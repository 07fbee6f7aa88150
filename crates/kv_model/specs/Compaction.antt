-- Which writes are stored, and to which floors a bucket can be compacted.
use Rattle.std.specs.Prelude.{ℕ, Bool, ◌||◌, nat_lt, ◌==◌, List, length, filter}
use Rattle.kv_model.specs.Acts.{Act, Write, writes_of, floor_of, when_compacted}
use Rattle.kv_model.specs.Retained.{is_kept}

-- a write is stored where it is above the floor, or was kept when the last compaction was made
abbrev pub is_stored : ℕ → List Act → Write → Bool
is_stored h acts w = nat_lt (floor_of acts) w.revision || is_kept h (when_compacted acts) w

-- the stored writes: the accepted ones above the floor, and of those at or below it the ones that were retained when
-- the last compaction was made
abbrev pub stored_writes : ℕ → List Act → List Write
stored_writes h acts = filter (is_stored h acts) (writes_of acts)

-- a floor is bad where it is 0, above the last revision, or below the floor so far
abbrev pub is_bad_floor : ℕ → List Act → Bool
is_bad_floor floor acts = floor == 0 || (nat_lt (length (writes_of acts)) floor || nat_lt floor (floor_of acts))
