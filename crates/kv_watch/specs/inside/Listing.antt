-- The slow way to what is kept of a key: its revisions since the last purge, write by write.
use Rattle.std.specs.Prelude.{ℕ, List, [], ◌∷◌, ◌++◌, if◌then◌else◌}
use Rattle.std.specs.Str.{bytes_eq}
use Rattle.kv_model.specs.Acts.{Write, is_purge}

-- the revisions since the last purge of a key, after one more write: a purge drops those before it, and a write of
-- another key changes nothing
abbrev pub revisions_after : List ℕ → List ℕ → Write → List ℕ
revisions_after before key w = if bytes_eq w.key key then (if is_purge w.op then [] else before) ++ w.revision
    ∷ [] else before
