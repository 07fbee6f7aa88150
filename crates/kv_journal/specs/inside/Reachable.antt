-- Which writes and numbers are those of a bucket's checkpoint: what the stored writes, the last revision and the floor show of the acts that led to them.
use Rattle.std.specs.Prelude.{◌≡◌, ℕ, ◌+◌, ◌-◌, ◌<◌, ◌≤◌, Bool, true, false, List, [], ◌∷◌, ◌++◌, Some, None, length, filter, nat_lt, ◌==◌}
use Rattle.std.specs.List.{Contains, last_or, list_any}
use Rattle.std.specs.Option.{option_map_or}
use Rattle.kv_keys.specs.Grammar.{is_key}
use Rattle.kv_model.specs.Acts.{Write, is_put}
use Rattle.kv_model.specs.Configuration.{Configuration}
use Rattle.kv_model.specs.Retained.{is_cleared, last_n, revisions, since_purge}
use Rattle.kv_journal.specs.Restored.{those_of}

-- of these writes of a key those from the last purge on, and of these the last h
abbrev pub kept_among : ℕ → List ℕ → List Write → List Write
kept_among h key ws = last_n h (since_purge (those_of key ws))

-- a write is kept among these where its revision is among those that are kept of its key
abbrev pub is_kept_among : ℕ → List Write → Write → Bool
is_kept_among h ws w = list_any (λ r. r == w.revision) (revisions (kept_among h w.key ws))

-- each revision is above this one and above those before it, and none is above the last
abbrev pub RiseWithin : ℕ → ℕ → List Write → Type 0
RiseWithin low last [] = low ≤ last
RiseWithin low last (w ∷ ws) = (low < w.revision) × RiseWithin w.revision last ws

-- the revision of the last of these writes, 0 where there is none
abbrev pub last_among : List Write → ℕ
last_among ws = option_map_or (λ w. w.revision) (last_or None ws) 0

-- some request has this write
pub record IsWritable (config : Configuration) (w : Write) : Type 0 where
  pub is : is_key w.key ≡ true
  pub short : length w.value ≤ config.value_limit
  pub marker : is_put w.op ≡ false → w.value ≡ []

-- the previous write of this one's key is a marker at or below the floor
abbrev pub Follows : ℕ → List Write → Write → Write → Type 0
Follows floor before marker w = (last_or None (those_of w.key before) ≡ Some marker) × (is_put marker.op ≡ false) × (marker.revision ≤ floor)

-- so many writes are stored when a write is made whose key's last one is a marker that stays: no floor has reached the marker, so each write from it on is stored, and
-- those before it that stay
abbrev pub least_stored : List Write → Write → Write → ℕ
least_stored before marker w = (w.revision - marker.revision) + length (filter (λ v. nat_lt v.revision marker.revision) before)

-- the last compaction can have been made when this was the last revision: no key was cleared by it that has a write that stays, each write at or below the floor that stays was kept
-- then, and whenever a write was made there was room for it
pub record IsCompactedAt (config : Configuration) (ws : List Write) (floor time : ℕ) : Type 0 where
  pub late : floor ≤ time
  pub followed : (before after : List Write) (w marker : Write) → ws ≡ before ++ w ∷ after → Follows floor before marker w → (w.revision ≤ time) × (least_stored before marker w < config.write_limit)
  pub spared : (key : List ℕ) → is_cleared floor (those_of key ws) ≡ false
  pub kept : (before after : List Write) (w : Write) → ws ≡ before ++ after → last_among before ≤ time → Contains before w → w.revision ≤ floor → is_kept_among config.history before w ≡ true

-- these can be the stored writes of a bucket with this last revision, so many retained entries and this floor
pub record IsReachable (config : Configuration) (ws : List Write) (last count floor : ℕ) : Type 0 where
  pub rise : RiseWithin 0 last ws
  pub limit : last ≤ config.revision_limit
  pub writable : (w : Write) → Contains ws w → IsWritable config w
  pub above : length (filter (λ w. nat_lt floor w.revision) ws) + floor ≡ last
  pub few : length ws ≤ config.write_limit
  pub room : last_among ws < last → length ws < config.write_limit
  pub retained : length (filter (is_kept_among config.history ws) ws) ≡ count
  pub time : ℕ
  pub by : time ≤ last
  pub compacted : IsCompactedAt config ws floor time
