-- What reads answer: selections of the acts.
use Rattle.std.specs.Prelude.{ℕ, Bool, ◌&&◌, List, [], ◌∷◌, Option, Some, None, length, map, filter, find, ◌==◌, if◌then◌else◌}
use Rattle.std.specs.Option.{option_and_then}
use Rattle.kv_model.specs.declared.status.Status.{Status}
use Rattle.kv_model.specs.Acts.{Write, Act, writes_of, is_put, is_sealed}
use Rattle.kv_model.specs.Compaction.{stored_writes}
use Rattle.kv_model.specs.Retained.{last_write, kept, latest, retained}

-- a write where it is a put
abbrev pub if_put : Write → Option Write
if_put w = if is_put w.op then Some w else None

-- get: the last write of the key, where it is a put
abbrev pub get_of : List ℕ → List Act → Option Write
get_of key acts = option_and_then if_put (last_write key acts)

-- get at a revision: of the kept writes of the key the one with this revision, where it is a put
abbrev pub get_at_of : ℕ → List ℕ → ℕ → List Act → Option Write
get_at_of h key revision acts = option_and_then if_put (find (λ w. w.revision == revision) (kept h key acts))

abbrev pub unless_empty : {X : Type 0} → List X → Option (List X)
unless_empty [] = None
unless_empty (x ∷ xs) = Some (x ∷ xs)

-- history: the kept writes of the key, where there are any
abbrev pub history_of : ℕ → List ℕ → List Act → Option (List Write)
history_of h key acts = unless_empty (kept h key acts)

-- keys: those that are wanted and whose latest write is a put, each once, in the order of those writes
abbrev pub keys_of : (List ℕ → Bool) → List Act → List (List ℕ)
keys_of wants acts = map (λ w. w.key) (filter (λ w. wants w.key && is_put w.op) (latest acts))

-- status: the history, the last revision, sealed or not, and the numbers of stored and of retained writes
abbrev pub status_of : ℕ → List Act → Status
status_of h acts = record {
  history = h;
  last = length (writes_of acts);
  sealed = is_sealed acts;
  stored = length (stored_writes h acts);
  values = length (retained h acts);
}

-- write at a revision: the stored write with this revision, if any
abbrev pub write_at_of : ℕ → ℕ → List Act → Option Write
write_at_of h revision acts = find (λ w. w.revision == revision) (stored_writes h acts)
