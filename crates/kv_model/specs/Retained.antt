-- Which writes are kept of each key. Each definition is over the acts.
use Rattle.std.specs.Prelude.{ℕ, ◌-◌, Bool, false, ◌&&◌, not, nat_le, List, [], ◌∷◌, ◌++◌, Option, None, length, drop, map, filter, if◌then◌else◌, ◌==◌}
use Rattle.std.specs.List.{last_or, list_any}
use Rattle.std.specs.Option.{option_map_or}
use Rattle.std.specs.Str.{bytes_eq}
use Rattle.kv_model.specs.Acts.{Act, Wrote, Seal, Compact, Write, is_put, is_purge, writes_of}

-- a compaction clears a key whose last write is a marker at or below its floor
abbrev pub is_cleared : ℕ → List Write → Bool
is_cleared floor ws = option_map_or (λ w. not (is_put w.op) && nat_le w.revision floor) (last_or None ws) false

-- the writes of a key behind one more act: a write of the key comes behind them, and a compaction that clears the key
-- leaves none
abbrev pub writes_after : List ℕ → List Write → Act → List Write
writes_after key ws (Wrote w) = if bytes_eq w.key key then ws ++ w ∷ [] else ws
writes_after key ws Seal = ws
writes_after key ws (Compact floor) = if is_cleared floor ws then [] else ws

-- the same behind any number of acts, one after the other
abbrev pub writes_from : List ℕ → List Write → List Act → List Write
writes_from key ws [] = ws
writes_from key ws (act ∷ acts) = writes_from key (writes_after key ws act) acts

-- the writes of a key, in order, behind the last compaction that cleared it: a cleared key is as one that was never
-- written
abbrev pub writes_of_key : List ℕ → List Act → List Write
writes_of_key key acts = writes_from key [] acts

-- the last write of a key
abbrev pub last_write : List ℕ → List Act → Option Write
last_write key acts = last_or None (writes_of_key key acts)

-- the last revision of a key: that of its last write, 0 where it was never written, or was cleared and not written
-- since
abbrev pub last_revision : List ℕ → List Act → ℕ
last_revision key acts = option_map_or (λ w. w.revision) (last_write key acts) 0

-- of the writes of one key, those from the last purge on, or all where there is none
abbrev pub since_purge : List Write → List Write
since_purge [] = []
since_purge (w ∷ ws) = if list_any (λ v. is_purge v.op) ws then since_purge ws else w ∷ ws

-- the last n elements, or all where there are fewer
abbrev pub last_n : {X : Type 0} → ℕ → List X → List X
last_n n xs = drop (length xs - n) xs

-- the kept writes of a key: from its last purge on, and of these the last h
abbrev pub kept : ℕ → List ℕ → List Act → List Write
kept h key acts = last_n h (since_purge (writes_of_key key acts))

abbrev pub revisions : List Write → List ℕ
revisions ws = map (λ w. w.revision) ws

-- a write is kept where its revision is among those that are kept of its key
abbrev pub is_kept : ℕ → List Act → Write → Bool
is_kept h acts w = list_any (λ r. r == w.revision) (revisions (kept h w.key acts))

-- a write is the latest of its key where its revision is the key's last
abbrev pub is_latest : List Act → Write → Bool
is_latest acts w = option_map_or (λ v. v.revision == w.revision) (last_write w.key acts) false

-- the retained writes: those that are kept of any key, in order
abbrev pub retained : ℕ → List Act → List Write
retained h acts = filter (is_kept h acts) (writes_of acts)

-- the latest write of each key, in order
abbrev pub latest : List Act → List Write
latest acts = filter (is_latest acts) (writes_of acts)
