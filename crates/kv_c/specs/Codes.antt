-- The number that a call answers: 0, or that of its refusal.
use Rattle.std.specs.Prelude.{◌≡◌, ◌⊎◌, ⊤, ◌≤◌, ℕ, Bool, true, ◌&&◌, ◌==◌, List, Option, Some, None, Result, Ok, Err, [], ◌∷◌, ◌++◌, codes, length, nat_le, nat_lt, slice_get, take, if◌then◌else◌}
use Rattle.std.specs.List.{flat_map}
use Rattle.std.specs.Option.{ok_or}
use Rattle.kv_durable.specs.declared.error.DurableError.{DurableError}
use Rattle.kv_durable.specs.declared.error.DurableError.TheVariants as durables
use Rattle.kv_keys.specs.Grammar.{is_key, are_filters, parts}
use Rattle.kv_keys.specs.Refusals.{code_of}
use Rattle.kv_keys.specs.declared.error.KvError.{KvError}
use Rattle.kv_keys.specs.declared.error.KvError.TheVariants.{BadKey, BadFilter, KeyNotFound}
use Rattle.kv_model.specs.Acceptance.{accept}
use Rattle.kv_model.specs.Acts.{Write}
use Rattle.kv_model.specs.Answers.{Answer, AnsweredEntry, Refused}
use Rattle.kv_model.specs.Given.{Entry}
use Rattle.kv_model.specs.Requests.{Asked, key_of}
use Rattle.kv_model.specs.State.{State, next_number}

-- that of an outcome: of the refusal, or of what was found
abbrev pub code_by : {X : Type 0} → (X → ℕ) → Result X KvError → ℕ
code_by {X} code (Ok x) = code x
code_by {X} code (Err e) = code_of e

-- the names of C's own codes
abbrev pub own_name : ℕ → Option (List ℕ)
own_name code =
    if code == 22 then Some (codes "FileFault")
    else if code == 23 then Some (codes "FileDamaged")
    else if code == 24 then Some (codes "FileBusy")
    else if code == 25 then Some (codes "OtherBucket")
    else if code == 32 then Some (codes "Closed")
    else if code == 33 then Some (codes "TooLittleRoom")
    else if code == 34 then Some (codes "OpenAlready")
    else if code == 35 then Some (codes "NoSuchStart")
    else if code == 36 then Some (codes "OlderView")
    else if code == 37 then Some (codes "NoSuchCode")
    else None

-- 0 for whatever was found
abbrev pub accepted : {X : Type 0} → X → ℕ
accepted {X} x = 0

-- 33 where there is too little room
abbrev pub room_code : Bool → ℕ
room_code fits = if fits then 0 else 33

abbrev pub fits : List ℕ → List ℕ → Bool
fits bytes room = nat_le (length bytes) (length room)

-- a name is copied to the room, where there is enough of it; how many bytes it has is told
abbrev pub IsNamed : List ℕ → List ℕ → ℕ → ℕ → List ℕ → Type 0
IsNamed name room code size copied = (code ≡ room_code (fits name room)) × (size ≡ length name) ×
    (code ≡ 0 → take size copied ≡ name)

-- that of a write whose value is copied
abbrev pub value_code : List ℕ → Write → ℕ
value_code room w = room_code (fits w.value room)

abbrev pub found_code : List ℕ → Option Write → ℕ
found_code room None = 0
found_code room (Some w) = value_code room w

-- a call that names a key or filters is refused first where it is none
abbrev pub with_key : {X : Type 0} → List ℕ → Result X KvError → Result X KvError
with_key {X} key outcome = if is_key key then outcome else Err BadKey

abbrev pub with_filters : {X : Type 0} → List ℕ → Result X KvError → Result X KvError
with_filters {X} text outcome = if are_filters (parts text) then outcome else Err BadFilter

-- the outcome of a write that is asked for
unfoldable pub outcome : Asked → State → Result Write KvError
outcome what state = with_key (key_of what) (accept state.config what state.acts)

-- that of a write to a bucket whose file has failed
abbrev pub stopped_code : Asked → ℕ
stopped_code what = if is_key (key_of what) then 22 else 4

-- it is a refusal by the file, and not by the rules or for want of memory
abbrev pub IsOfFile : DurableError → Type 0
IsOfFile (durables.Refused e) = ⊥
IsOfFile e = ⊤

-- that of the opening of a file under a configuration: of its refusal, where it is refused; else that it waits for the shell, or
-- one of those of files
abbrev pub IsOpeningCode : {X : Type 0} → ℕ → Result X KvError → Type 0
IsOpeningCode {X} code (Err e) = code ≡ code_of e
IsOpeningCode {X} code (Ok x) = (code ≡ 38) ⊎ ((22 ≤ code) × (code ≤ 25))

-- that of a read of the value of a key, where this is found
abbrev pub read_code : List ℕ → List ℕ → Option Write → ℕ
read_code key room found = code_by (value_code room) (with_key key (ok_or found KeyNotFound))

-- that of a read of the entry of an index
abbrev pub history_code : List ℕ → ℕ → List ℕ → Option (List Write) → ℕ
history_code key index room found = code_by (λ ws. found_code room (slice_get ws index))
    (with_key key (ok_or found KeyNotFound))

-- keys as they are written: each with a zero byte behind it, which no key has
abbrev pub listed : List (List ℕ) → List ℕ
listed keys = flat_map (λ key. key ++ 0 ∷ []) keys

-- that of a read of keys
abbrev pub keys_code : List ℕ → List ℕ → List (List ℕ) → ℕ
keys_code filters room keys = if are_filters (parts filters) then room_code (fits (listed keys) room) else 5

-- there is enough room for an entry: for its key, and for its value if it shows one
abbrev pub value_fits : Option (List ℕ) → List ℕ → Bool
value_fits None room = true
value_fits (Some value) room = fits value room

abbrev pub entry_fits : Entry → List ℕ → List ℕ → Bool
entry_fits entry keys values = fits entry.key keys && value_fits entry.value values

abbrev pub answer_fits : List ℕ → List ℕ → Answer → Bool
answer_fits keys values (AnsweredEntry entry) = entry_fits entry keys values
answer_fits keys values answer = true

-- that of an answer of the model, where entries are copied
abbrev pub taken_code : List ℕ → List ℕ → Answer → ℕ
taken_code keys values (Refused e) = code_of e
taken_code keys values answer = room_code (answer_fits keys values answer)

-- that of an answer that has nothing to copy
abbrev pub answer_code : Answer → ℕ
answer_code (Refused e) = code_of e
answer_code answer = 0

-- that of a watch that is asked for
abbrev pub watch_code : List ℕ → State → ℕ
watch_code filters state = code_by accepted (with_filters filters (next_number state))

-- that of a feed that is asked for
abbrev pub feed_code : ℕ → List ℕ → ℕ
feed_code start filters = if nat_lt 3 start then 35 else (if are_filters (parts filters) then 0 else 5)
