-- Want of memory is no answer of the model.
use Rattle.std.proofs.Common.{◌≡◌, ℕ, ◌+◌, Bool, true, false, cond, ◌==◌, List, Option, Some, None, Result, Ok, Err, length}
use Rattle.std.specs.Prelude.{nat_lt}
use Rattle.kv_keys.specs.declared.error.KvError.{KvError}
use Rattle.kv_keys.specs.declared.error.KvError.TheVariants.{OutOfMemory, ValueTooLarge, Sealed, JournalFull, KeyExists, WrongLastRevision, KeyNotFound, NoSuchWatch, TooManyWatches, BadFloor}
use Rattle.kv_model.specs.Acceptance.{accept, has_value, is_full, unless_last, unless_last_or_none, objection, next_write, unless}
use Rattle.kv_model.specs.Acts.{Act, Write, is_sealed}
use Rattle.kv_model.specs.Compaction.{is_bad_floor}
use Rattle.kv_model.specs.Configuration.{Configuration}
use Rattle.kv_model.specs.Reads.{get_of, get_at_of, history_of}
use Rattle.kv_model.specs.Requests.{Asked, put, create, update, delete, purge, asked, value_of}
use Rattle.kv_model.specs.Retained.{last_revision}
use Rattle.kv_model.specs.Given.{Item, AnEntry, EndMarker}
use Rattle.kv_model.specs.declared.call.Call.{Call}
use Rattle.kv_model.specs.declared.call.Call.TheVariants as ask
use Rattle.kv_model.specs.Answers.{Answer, Watching, Refused, answer_item}
use Rattle.kv_model.specs.State.{State, next_of, open_at, has_room, or_refused, first_behind, unless_behind, may_compact, answer_write, answer_compact, answer_to}

past : (b : Bool) (e : KvError) (rest : Result Write KvError) → (e ≡ OutOfMemory → ⊥) → cond b (Err e) rest ≡ Err OutOfMemory → rest ≡ Err OutOfMemory
past true e rest ne h = let same : e ≡ OutOfMemory = cc in absurd (ne same)
past false e rest ne h = h

last_no : (revision : ℕ) (key : List ℕ) (acts : List Act) → unless_last revision key acts ≡ Some OutOfMemory → ⊥
last_no revision key acts h = by_test (revision == last_revision key acts) h
  where
    by_test : (b : Bool) → cond b None (Some (WrongLastRevision (last_revision key acts))) ≡ Some OutOfMemory → ⊥
    by_test true h = cc
    by_test false h = cc

last_or_none_no : (revision : Option ℕ) (key : List ℕ) (acts : List Act) → unless_last_or_none revision key acts ≡ Some OutOfMemory → ⊥
last_or_none_no None key acts h = cc
last_or_none_no (Some revision) key acts h = last_no revision key acts h

objection_no : (asked : Asked) (acts : List Act) → objection asked acts ≡ Some OutOfMemory → ⊥
objection_no (put key value) acts h = cc
objection_no (create key value) acts h = by_test (has_value key acts) h
  where
    by_test : (b : Bool) → cond b (Some KeyExists) None ≡ Some OutOfMemory → ⊥
    by_test true h = cc
    by_test false h = cc
objection_no (update key value last) acts h = last_no last key acts h
objection_no (delete key last) acts h = last_or_none_no last key acts h
objection_no (purge key last) acts h = last_or_none_no last key acts h

unless_no : (o : Option KvError) (w : Write) → unless o w ≡ Err OutOfMemory → o ≡ Some OutOfMemory
unless_no None w h = cc
unless_no (Some e) w h = cc

pub accept_no : (config : Configuration) (asked : Asked) (acts : List Act) → accept config asked acts ≡ Err OutOfMemory → ⊥
accept_no config asked acts h =
    let w₃ = unless (objection asked acts) (next_write asked acts) in
    let w₂ = cond (is_full config acts) (Err JournalFull) w₃ in
    let w₁ = cond (is_sealed acts) (Err Sealed) w₂ in
    objection_no asked acts (unless_no (objection asked acts) (next_write asked acts)
    (past (is_full config acts) JournalFull w₃ (λ e. cc) (past (is_sealed acts) Sealed w₂ (λ e. cc) (past (nat_lt config.value_limit (length (value_of asked))) ValueTooLarge w₁ (λ e. cc) h))))

write_no : (result : Result Write KvError) → (result ≡ Err OutOfMemory → ⊥) → answer_write result ≡ Refused OutOfMemory → ⊥
write_no (Ok w) never h = cc
write_no (Err e) never h = let same : Err e ≡ Err OutOfMemory = cc in never same

or_no : {X : Type 0} (e : KvError) (answer : X → Answer) (o : Option X) → (e ≡ OutOfMemory → ⊥) → ((x : X) → answer x ≡ Refused OutOfMemory → ⊥) → or_refused e answer o ≡ Refused OutOfMemory → ⊥
or_no e answer None ne never h = let same : e ≡ OutOfMemory = cc in ne same
or_no e answer (Some x) ne never h = never x h

item_no : (item : Option Item) → answer_item item ≡ Refused OutOfMemory → ⊥
item_no None h = cc
item_no (Some (AnEntry entry)) h = cc
item_no (Some EndMarker) h = cc

-- a compaction is refused for its floor or for a watch
behind_no : (floor : ℕ) (o : Option ℕ) → unless_behind floor o ≡ Err OutOfMemory → ⊥
behind_no floor None h = cc
behind_no floor (Some number) h = cc

compact_no : (floor : ℕ) (s : State) → may_compact floor s ≡ Err OutOfMemory → ⊥
compact_no floor s h = by_test (is_bad_floor floor s.acts) h
  where
    by_test : (b : Bool) → cond b (Err BadFloor) (unless_behind floor (first_behind 1 floor s.config.history s.acts s.watches)) ≡ Err OutOfMemory → ⊥
    by_test true h = cc
    by_test false h = behind_no floor (first_behind 1 floor s.config.history s.acts s.watches) h

compacted_no : (result : Result ℕ KvError) → (result ≡ Err OutOfMemory → ⊥) → answer_compact result ≡ Refused OutOfMemory → ⊥
compacted_no (Ok floor) never h = cc
compacted_no (Err e) never h = let same : Err e ≡ Err OutOfMemory = cc in never same

pub no_memory : (s : State) (call : Call) → answer_to s call ≡ Refused OutOfMemory → ⊥
no_memory s (ask.Write request) h = write_no (accept s.config (asked request) s.acts) (accept_no s.config (asked request) s.acts) h
no_memory s ask.Seal h = cc
no_memory s (ask.Get key) h = or_no KeyNotFound _ (get_of key s.acts) (λ e. cc) (λ w e. cc) h
no_memory s (ask.GetAt key revision) h = or_no KeyNotFound _ (get_at_of s.config.history key revision s.acts) (λ e. cc) (λ w e. cc) h
no_memory s (ask.History key) h = or_no KeyNotFound _ (history_of s.config.history key s.acts) (λ e. cc) (λ w e. cc) h
no_memory s (ask.Keys filters) h = cc
no_memory s ask.Status h = cc
no_memory s (ask.Watch filters options) h = by_room (has_room s) h
  where
    by_room : (b : Bool) → cond b (Watching (length s.watches + 1)) (Refused TooManyWatches) ≡ Refused OutOfMemory → ⊥
    by_room true h = cc
    by_room false h = cc
no_memory s (ask.Take number) h = or_no NoSuchWatch (λ w. answer_item (next_of s.config.history s.acts w)) (open_at number s) (λ e. cc) (λ w e. item_no (next_of s.config.history s.acts w) e) h
no_memory s (ask.Stop number) h = or_no NoSuchWatch _ (open_at number s) (λ e. cc) (λ w e. cc) h
no_memory s (ask.Compact floor) h = compacted_no (may_compact floor s) (compact_no floor s) h
