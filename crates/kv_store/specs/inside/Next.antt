-- What one more write changes of what is stored.
use Rattle.std.specs.Prelude.{◌≡◌, ℕ, ◌+◌, ◌-◌, ◌==◌, List, [], ◌∷◌, ◌++◌, Some, length, unwrap_or, if◌then◌else◌}
use Rattle.std.specs.Str.{bytes_eq}
use Rattle.kv_model.specs.declared.write.Op.{Op}
use Rattle.kv_model.specs.Acts.{Write, is_purge}
use Rattle.kv_model.specs.Retained.{last_n}
use Rattle.kv_store.specs.Stored.{Stored, kept_at, last_at, write_at}

-- the kept revisions of a key after one more write of it: that one behind those before it, none of them where it is a
-- purge, and of all these the last h
abbrev pub next_kept : ℕ → Op → ℕ → List ℕ → List ℕ
next_kept h op revision before = last_n h ((if is_purge op then [] else before) ++ revision ∷ [])

-- the kept revisions of a key, of which there may be none
abbrev pub kept_before : List ℕ → Stored → List ℕ
kept_before key version = unwrap_or (kept_at key version) []

-- the kept revisions of a write's key once it is written
abbrev pub kept_after : Write → Stored → List ℕ
kept_after w version = next_kept version.config.history w.op w.revision (kept_before w.key version)

-- how many entries there are once it is written: those that are kept of its key then in place of those that were
abbrev pub values_after : Write → Stored → ℕ
values_after w version = (version.values + length (kept_after w version)) - length (kept_before w.key version)

-- the new version has this write beside those of the old one, the next kept revisions of its key, and of each other key
-- the same; and it is the last write of its key
pub record HasOneMore (w : Write) (old new : Stored) : Type 0 where
  pub config : new.config ≡ old.config
  pub last : new.last ≡ old.last + 1
  pub written : (revision : ℕ) → write_at revision new ≡ (if w.revision == revision then Some w else
      write_at revision old)
  pub kept : (key : List ℕ) → kept_at key new ≡ (if bytes_eq w.key key then Some (kept_after w old) else
      kept_at key old)
  pub last_of : (key : List ℕ) → last_at key new ≡ (if bytes_eq w.key key then Some w else last_at key old)
  pub values : new.values ≡ values_after w old
  pub floor : new.floor ≡ old.floor
  pub sealed : new.sealed ≡ old.sealed
