-- What putting back a stored write changes of what is stored.
use Rattle.std.specs.Prelude.{◌≡◌, ℕ, ◌==◌, List, Some, if◌then◌else◌}
use Rattle.std.specs.Str.{bytes_eq}
use Rattle.kv_model.specs.Acts.{Write}
use Rattle.kv_store.specs.Stored.{Stored, kept_at, last_at, write_at}
use Rattle.kv_store.specs.inside.Next.{kept_after}

-- the new version has this write beside those of the old one, the next kept revisions of its key, and of each other key
-- the same; it is the last write of its key, and the last of all
pub record PutsBack (w : Write) (old new : Stored) : Type 0 where
  pub config : new.config ≡ old.config
  pub last : new.last ≡ w.revision
  pub written : (revision : ℕ) → write_at revision new ≡ (if w.revision == revision then Some w else
      write_at revision old)
  pub kept : (key : List ℕ) → kept_at key new ≡ (if bytes_eq w.key key then Some (kept_after w old) else
      kept_at key old)
  pub last_of : (key : List ℕ) → last_at key new ≡ (if bytes_eq w.key key then Some w else last_at key old)
