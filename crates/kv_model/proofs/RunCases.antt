-- The model at small runs of calls, by computation.
use Rattle.std.proofs.Common.{◌≡◌, ℕ, true, false, List, [], ◌∷◌, None, filter, refl}
use Rattle.std.specs.Prelude.{codes, replicate}
use Rattle.kv_keys.specs.declared.error.KvError.TheVariants as errors
use Rattle.kv_keys.specs.Matching.{matches}
use Rattle.kv_model.specs.declared.request.Request.TheVariants as requests
use Rattle.kv_model.specs.declared.write.Op.TheVariants as ops
use Rattle.kv_model.specs.Configuration.{Configuration}
use Rattle.kv_model.specs.declared.options.Options.{Options}
use Rattle.kv_model.specs.declared.options.Start.TheVariants.{Latest}
use Rattle.kv_model.specs.Given.{Entry, AnEntry, EndMarker}
use Rattle.kv_model.specs.declared.call.Call.{Call}
use Rattle.kv_model.specs.declared.call.Call.TheVariants.{Write, Get, History, Keys, Status, Watch, Take, Stop}
use Rattle.kv_model.specs.declared.call.Call.TheVariants as ask
use Rattle.kv_model.specs.Answers.{Revision, Sealed, AnsweredEntry, Entries, Keys as AllKeys, Numbers, Watching, Marker, Empty, Ended, Refused}
use Rattle.kv_model.specs.further.Meeting.{Taking, Stopping, bears_on, meets, meetings_of}
use Rattle.kv_model.specs.Runs.{run, answers_to, exchanges, items_in}
use Rattle.kv_model.specs.State.{State, Watch as AWatch, empty, has_room, opened, stopped}
use Rattle.kv_model.specs.Told.{Tells}

abbrev config : Configuration
config = record { bucket = codes "kv"; history = 1; value_limit = 1048576; write_limit = 2; revision_limit = 4294967295 }

abbrev latest : Options
latest = record { start = Latest; ignore_deletes = false; headers_only = false }

-- a delete of `k`, and its entry at a revision
abbrev delete : Call
delete = Write (requests.Delete (codes "k") None)

abbrev deleted : ℕ → Entry
deleted revision = record { key = codes "k"; op = ops.Delete; revision = revision; size = 0; value = None }

abbrev watch : Call
watch = Watch (codes ">" ∷ []) latest

-- a watch is handed what was there, the end marker, and what came later, and then nothing
abbrev told : List Call
told = delete ∷ watch ∷ delete ∷ Take 1 ∷ Take 1 ∷ Take 1 ∷ Take 1 ∷ []

told_in_order : answers_to (empty config) told
    ≡ Revision 1 ∷ Watching 1 ∷ Revision 2 ∷ AnsweredEntry (deleted 1) ∷ Marker ∷ AnsweredEntry (deleted 2) ∷ Empty ∷ []
unfolding matches
told_in_order = refl

items_told : items_in 1 (empty config) told ≡ AnEntry (deleted 1) ∷ EndMarker ∷ AnEntry (deleted 2) ∷ []
unfolding matches
items_told = refl

-- a stop counts what was handed out, a stopped watch is none, and its number is not used again
numbers : answers_to (empty config) (Take 7 ∷ watch ∷ Take 1 ∷ Stop 1 ∷ Stop 1 ∷ Take 1 ∷ watch ∷ [])
    ≡ Refused errors.NoSuchWatch ∷ Watching 1 ∷ Marker ∷ Ended 1 ∷ Refused errors.NoSuchWatch ∷ Refused errors.NoSuchWatch ∷ Watching 2 ∷ []
unfolding matches
numbers = refl

-- no watch has the number 0
no_watch_zero : answers_to (empty config) (watch ∷ Take 0 ∷ []) ≡ Watching 1 ∷ Refused errors.NoSuchWatch ∷ []
unfolding matches
no_watch_zero = refl

-- a refused call leaves the state
refused : run (empty config) (Take 7 ∷ Stop 7 ∷ Get (codes "k") ∷ []) ≡ empty config
refused = refl

-- two writes fill this store; a seal is answered, and comes before a full store
full_and_sealed : answers_to (empty config) (delete ∷ delete ∷ delete ∷ ask.Seal ∷ delete ∷ Status ∷ [])
    ≡ Revision 1 ∷ Revision 2 ∷ Refused errors.JournalFull ∷ Sealed ∷ Refused errors.Sealed
    ∷ Numbers (record { history = 1; last = 2; sealed = true; stored = 2; values = 1 }) 0 ∷ []
full_and_sealed = refl

-- reads: a deleted key has no value, but a history
reads : answers_to (empty config) (delete ∷ Get (codes "k") ∷ History (codes "k") ∷ History (codes "x") ∷ Keys (codes ">" ∷ []) ∷ [])
    ≡ Revision 1 ∷ Refused errors.KeyNotFound ∷ Entries (deleted 1 ∷ []) ∷ Refused errors.KeyNotFound ∷ AllKeys [] ∷ []
unfolding matches
reads = refl

-- 64 watches may be open; a stopped one leaves room
abbrev open_watch : AWatch
open_watch = record { began = []; filters = codes ">" ∷ []; options = latest; handed = 0; is_open = true }

abbrev watching : List AWatch → State
watching watches = record { config = config; acts = []; watches = watches }

room_at_63 : has_room (watching (replicate 63 open_watch)) ≡ true
room_at_63 = refl

no_room_at_64 : has_room (watching (replicate 64 open_watch)) ≡ false
no_room_at_64 = refl

room_behind_a_stop : has_room (watching (stopped open_watch ∷ replicate 63 open_watch)) ≡ true
room_behind_a_stop = refl

-- calls behind others hand out the next items
items_further : items_in 1 (run (empty config) (delete ∷ watch ∷ Take 1 ∷ [])) (delete ∷ Take 1 ∷ Take 1 ∷ Take 1 ∷ []) ≡ EndMarker ∷ AnEntry (deleted 2) ∷ []
unfolding matches
items_further = refl

-- the watch theorem refuses a take that is answered Empty while something is left
empty_too_early : Tells (empty config) (exchanges (watch ∷ Take 1 ∷ []) (Watching 1 ∷ Empty ∷ [])) 1 (opened (codes ">" ∷ []) latest (empty config)) → ⊥
unfolding matches
empty_too_early tells =
    let none : [] ≡ EndMarker ∷ [] = tells.all (exchanges (watch ∷ []) (Watching 1 ∷ [])) [] refl in cc

-- what the own calls of a watch meet: the acts so far, whatever the other watches do
what_is_met : meetings_of 1 (empty config) (watch ∷ Take 1 ∷ delete ∷ watch ∷ Take 2 ∷ Stop 2 ∷ Take 1 ∷ Stop 1 ∷ [])
    ≡ meets [] Taking ∷ meets (run (empty config) (delete ∷ [])).acts Taking ∷ meets (run (empty config) (delete ∷ [])).acts Stopping ∷ []
unfolding matches
what_is_met = refl

-- the calls that bear on a watch: writes, seals and its own
what_bears_on_it : filter (bears_on 1) (delete ∷ watch ∷ Get (codes "k") ∷ Status ∷ Take 2 ∷ Stop 2 ∷ Take 1 ∷ ask.Seal ∷ Stop 1 ∷ [])
    ≡ delete ∷ Take 1 ∷ ask.Seal ∷ Stop 1 ∷ []
what_bears_on_it = refl
