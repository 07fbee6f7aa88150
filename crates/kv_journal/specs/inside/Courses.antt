-- What writes that are put back show of the acts that left them.
use Rattle.std.specs.Prelude.{◌≡◌, ℕ, ◌<◌, ◌≤◌, Bool, true, false, ◌&&◌, ◌||◌, List, [], ◌∷◌, ◌++◌, length, nat_le}
use Rattle.std.specs.List.{Contains}
use Rattle.kv_model.specs.Acts.{Write, is_purge}
use Rattle.kv_model.specs.declared.write.Op.{Op}
use Rattle.kv_model.specs.Configuration.{Configuration}
use Rattle.kv_model.specs.Retained.{revisions}
use Rattle.kv_journal.specs.Restored.{HasPutBack}
use Rattle.kv_journal.specs.declared.course.Course.{Course}
use Rattle.kv_journal.specs.inside.Reachable.{Follows, IsWritable, RiseWithin, is_kept_among, last_among, least_stored}

-- each of these writes at or below the floor is kept among them
abbrev pub AreKept : ℕ → ℕ → List Write → Type 0
AreKept h floor ws = (x : Write) → Contains ws x → x.revision ≤ floor → is_kept_among h ws x ≡ true

-- where a key has these kept revisions, a write of it leaves one at or below the floor kept no more: the first, where it is a purge or as many are kept as can be
abbrev pub loses : ℕ → ℕ → Op → List ℕ → Bool
loses h floor op [] = false
loses h floor op (first ∷ kept) = nat_le first floor && (is_purge op || nat_le h (length (first ∷ kept)))

-- the last compaction was made before one of these writes: it is above the floor, and behind it one at or below the floor is kept no more; no write from it on follows a marker at or below
-- the floor
pub record IsPast (h floor : ℕ) (ws : List Write) : Type 0 where
  pub front : List Write
  pub by : Write
  pub back : List Write
  pub all : ws ≡ front ++ by ∷ back
  pub late : floor < by.revision
  pub kept : AreKept h floor front
  pub lost : AreKept h floor (front ++ by ∷ []) → ⊥
  pub none : (before after : List Write) (w marker : Write) → ws ≡ before ++ w ∷ after → Follows floor before marker w → w.revision < by.revision

-- what is known of the next write where acts may lead to these writes and it: there was room for it if it follows a marker at or below the floor, and whether the last compaction is past then
pub record GoesOn (config : Configuration) (floor : ℕ) (ws : List Write) (w : Write) (past : Bool) : Type 0 where
  pub room : (marker : Write) → Follows floor ws marker w → least_stored ws marker w < config.write_limit
  pub kept : past ≡ false → AreKept config.history floor (ws ++ w ∷ [])
  pub past_by : past ≡ true → IsPast config.history floor (ws ++ w ∷ [])

-- these writes are put back, each is one that some request has, and there was room for it
pub record IsCourse (ws : List Write) (course : Course) : Type 0 where
  pub put : HasPutBack ws course.version
  pub revisions_of : course.revisions.items ≡ revisions ws
  pub same : course.version.config ≡ course.config.now
  pub some : 0 < course.config.now.history
  pub last : course.version.last ≡ last_among ws
  pub rise : RiseWithin 0 (last_among ws) ws
  pub limit : last_among ws ≤ course.config.now.revision_limit
  pub writable : (w : Write) → Contains ws w → IsWritable course.config.now w
  pub followed : (before after : List Write) (w marker : Write) → ws ≡ before ++ w ∷ after → Follows course.floor before marker w → least_stored before marker w < course.config.now.write_limit
  pub kept : course.past ≡ false → AreKept course.config.now.history course.floor ws
  pub past_by : course.past ≡ true → IsPast course.config.now.history course.floor ws
