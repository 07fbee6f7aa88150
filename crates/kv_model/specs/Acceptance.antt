-- Which requests are accepted, and which lists of acts there can be.
use Rattle.std.specs.Prelude.{◌≡◌, ℕ, ◌+◌, Bool, true, false, ◌||◌, List, [], ◌∷◌, ◌++◌, Option, Some, None, Result, Ok, Err, ⊤, length, nat_lt, nat_le, ◌==◌, if◌then◌else◌}
use Rattle.std.specs.Option.{option_map_or}
use Rattle.kv_keys.specs.Grammar.{is_key}
use Rattle.kv_keys.specs.declared.error.KvError.{KvError}
use Rattle.kv_keys.specs.declared.error.KvError.TheVariants.{ValueTooLarge, Sealed, JournalFull, KeyExists, WrongLastRevision}
use Rattle.kv_model.specs.Acts.{Act, Wrote, Seal, Compact, Write, writes_of, is_sealed, is_put}
use Rattle.kv_model.specs.Compaction.{stored_writes, is_bad_floor}
use Rattle.kv_model.specs.Configuration.{Configuration}
use Rattle.kv_model.specs.Requests.{Asked, put, create, update, delete, purge, key_of, value_of, write_for}
use Rattle.kv_model.specs.Retained.{last_write, last_revision}

-- a key has a value where its last write is a put
abbrev pub has_value : List ℕ → List Act → Bool
has_value key acts = option_map_or (λ w. is_put w.op) (last_write key acts) false

-- a journal is full where its stored writes fill the store, or the accepted ones used up its revisions
abbrev pub is_full : Configuration → List Act → Bool
is_full config acts =
    nat_le config.write_limit (length (stored_writes config.history acts)) || nat_le config.revision_limit
    (length (writes_of acts))

-- a revision that is asked for has to be the key's last
abbrev pub unless_last : ℕ → List ℕ → List Act → Option KvError
unless_last revision key acts = if revision == last_revision key acts then None else
    Some (WrongLastRevision (last_revision key acts))

abbrev pub unless_last_or_none : Option ℕ → List ℕ → List Act → Option KvError
unless_last_or_none None key acts = None
unless_last_or_none (Some revision) key acts = unless_last revision key acts

-- why the key does not allow it, if it doesn't: a create asks that it has no value, an update that this is its last
-- revision, and so do a delete and a purge with a revision
abbrev pub objection : Asked → List Act → Option KvError
objection (put key value) acts = None
objection (create key value) acts = if has_value key acts then Some KeyExists else None
objection (update key value last) acts = unless_last last key acts
objection (delete key last) acts = unless_last_or_none last key acts
objection (purge key last) acts = unless_last_or_none last key acts

-- the write that is appended: its revision is one more than the number of writes before it
abbrev pub next_write : Asked → List Act → Write
next_write asked acts = write_for asked (length (writes_of acts) + 1)

abbrev pub unless : Option KvError → Write → Result Write KvError
unless None w = Ok w
unless (Some error) w = Err error

-- the write that is accepted after these acts, or the first reason that there is none
abbrev pub accept : Configuration → Asked → List Act → Result Write KvError
accept config asked acts =
    if nat_lt config.value_limit (length (value_of asked)) then Err ValueTooLarge
    else (if is_sealed acts then Err Sealed
    else (if is_full config acts then Err JournalFull
    else unless (objection asked acts) (next_write asked acts)))

-- a write is accepted where some request for a key is; a seal always is; a compaction is where its floor is not bad
abbrev pub IsAccepted : Configuration → List Act → Act → Type 0
IsAccepted config before (Wrote w) = (asked : Asked) ×
    ((is_key (key_of asked) ≡ true) × (accept config asked before ≡ Ok w))
IsAccepted config before Seal = ⊤
IsAccepted config before (Compact floor) = is_bad_floor floor before ≡ false

-- each act is one that is accepted after those before it
abbrev pub LawfulFrom : Configuration → List Act → List Act → Type 0
LawfulFrom config before [] = ⊤
LawfulFrom config before (act ∷ acts) = IsAccepted config before act × LawfulFrom config (before ++ act ∷ []) acts

abbrev pub IsLawful : Configuration → List Act → Type 0
IsLawful config acts = LawfulFrom config [] acts
