-- Compactions of small buckets, by computation.
use Rattle.std.proofs.Common.{◌≡◌, ℕ, true, false, List, [], ◌∷◌, ◌++◌, Some, None, Ok, Err, filter, refl}
use Rattle.std.specs.Prelude.{codes}
use Rattle.kv_keys.specs.declared.error.KvError.TheVariants as errors
use Rattle.kv_keys.specs.Matching.{matches}
use Rattle.kv_model.specs.declared.request.Request.TheVariants as requests
use Rattle.kv_model.specs.declared.write.Op.{Op}
use Rattle.kv_model.specs.declared.write.Op.TheVariants.{Put, Delete}
use Rattle.kv_model.specs.Acceptance.{accept}
use Rattle.kv_model.specs.Acts.{Act, Wrote, Compact as Compacts, Seal, Write}
use Rattle.kv_model.specs.Answers.{Compacted, AnsweredEntry, Numbers, Marker, Empty, Ended, Refused}
use Rattle.kv_model.specs.Compaction.{stored_writes}
use Rattle.kv_model.specs.further.OneByOne.{left_one_by_one}
use Rattle.kv_model.specs.Configuration.{Configuration}
use Rattle.kv_model.specs.declared.options.Options.{Options}
use Rattle.kv_model.specs.declared.options.Start.TheVariants.{Latest}
use Rattle.kv_model.specs.declared.call.Call.{Call}
use Rattle.kv_model.specs.declared.call.Call.TheVariants as ask
use Rattle.kv_model.specs.declared.call.Call.TheVariants.{Compact, GetAt, History, Status, Take, Stop}
use Rattle.kv_model.specs.Given.{Entry, AnEntry}
use Rattle.kv_model.specs.further.Meeting.{bears_on}
use Rattle.kv_model.specs.Requests.{put, create, update}
use Rattle.kv_model.specs.Retained.{last_revision, revisions}
use Rattle.kv_model.specs.Runs.{answers_to, items_in}
use Rattle.kv_model.specs.State.{State, Watch, may_compact}

abbrev config : ℕ → ℕ → Configuration
config history write_limit = record { bucket = codes "kv"; history = history; value_limit = 1048576; write_limit = write_limit; revision_limit = 4294967295 }

abbrev write : List ℕ → Op → List ℕ → ℕ → Write
write key op value revision = record { key = key; op = op; value = value; revision = revision }

abbrev act : List ℕ → Op → List ℕ → ℕ → Act
act key op value revision = Wrote (write key op value revision)

abbrev without_watches : ℕ → List Act → State
without_watches history acts = record { config = config history 1000000; acts = acts; watches = [] }

-- ---- a compaction clears a deleted key, and removes what is not kept

-- three values of a, of which two are kept, a deleted b, and c
abbrev five : List Act
five = act (codes "a") Put (codes "1") 1 ∷ act (codes "a") Put (codes "2") 2 ∷ act (codes "a") Put (codes "3") 3 ∷ act (codes "b") Delete [] 4 ∷ act (codes "c") Put (codes "4") 5 ∷ []

compacts_to_four : answers_to (without_watches 2 five) (Compact 6 ∷ Compact 4 ∷ Status ∷ History (codes "b") ∷ GetAt (codes "a") 2 ∷ Compact 3 ∷ Compact 0 ∷ [])
    ≡ Refused errors.BadFloor ∷ Compacted 4 ∷ Numbers (record { history = 2; last = 5; sealed = false; stored = 3; values = 3 }) 0
    ∷ Refused errors.KeyNotFound ∷ AnsweredEntry (record { key = codes "a"; op = Put; revision = 2; size = 1; value = Some (codes "2") })
    ∷ Refused errors.BadFloor ∷ Refused errors.BadFloor ∷ []
compacts_to_four = refl

abbrev at_four : List Act
at_four = five ++ Compacts 4 ∷ []

stored_at_four : revisions (stored_writes 2 at_four) ≡ 2 ∷ 3 ∷ 5 ∷ []
stored_at_four = refl

left_at_four : revisions (left_one_by_one 2 [] [] at_four) ≡ 2 ∷ 3 ∷ 5 ∷ []
left_at_four = refl

-- a marker above the floor clears no key
stored_at_three : revisions (stored_writes 2 (five ++ Compacts 3 ∷ [])) ≡ 2 ∷ 3 ∷ 4 ∷ 5 ∷ []
stored_at_three = refl

marker_stays : last_revision (codes "b") (five ++ Compacts 3 ∷ []) ≡ 4
marker_stays = refl

-- a cleared key is as one that was never written
cleared : last_revision (codes "b") at_four ≡ 0
cleared = refl

updates_as_new : accept (config 2 1000000) (update (codes "b") (codes "5") 0) at_four ≡ Ok (write (codes "b") Put (codes "5") 6)
updates_as_new = refl

creates_as_new : accept (config 2 1000000) (create (codes "b") (codes "5")) at_four ≡ Ok (write (codes "b") Put (codes "5") 6)
creates_as_new = refl

-- and is no longer so once it was written
written_again : last_revision (codes "b") (at_four ++ act (codes "b") Put (codes "5") 6 ∷ []) ≡ 6
written_again = refl

floor_stays : may_compact 3 (without_watches 2 (at_four ++ act (codes "b") Put (codes "5") 6 ∷ [])) ≡ Err errors.BadFloor
floor_stays = refl

floor_again : may_compact 4 (without_watches 2 (at_four ++ act (codes "b") Put (codes "5") 6 ∷ Seal ∷ [])) ≡ Ok 4
floor_again = refl

-- what one compaction removed stays removed behind the next, and what came between goes with it
twice : revisions (stored_writes 1 (act (codes "k") Put [] 1 ∷ act (codes "k") Put [] 2 ∷ Compacts 1 ∷ act (codes "k") Put [] 3 ∷ Compacts 2 ∷ [])) ≡ 3 ∷ []
twice = refl

-- of two writes at or below no floor yet both are stored, though one is kept
before_a_floor : revisions (stored_writes 1 (act (codes "k") Put [] 1 ∷ act (codes "k") Put [] 2 ∷ Compacts 1 ∷ act (codes "k") Put [] 3 ∷ [])) ≡ 2 ∷ 3 ∷ []
before_a_floor = refl

-- ---- what a watch is owed

abbrev latest : Options
latest = record { start = Latest; ignore_deletes = false; headers_only = false }

abbrev watching : List Act → List ℕ → ℕ → Watch
watching began filtering handed = record { began = began; filters = filtering ∷ []; options = latest; handed = handed; is_open = true }

abbrev one : List Act
one = act (codes "k") Put (codes "1") 1 ∷ []

abbrev three : List Act
three = one ++ act (codes "k") Put (codes "2") 2 ∷ act (codes "k") Put (codes "3") 3 ∷ []

abbrev four : List Act
four = three ++ act (codes "k") Put (codes "4") 4 ∷ []

abbrev entry : ℕ → List ℕ → Entry
entry revision value = record { key = codes "k"; op = Put; revision = revision; size = 1; value = Some value }

-- a watch since the first write, and one of another key
abbrev watched : State
watched = record { config = config 1 1000000; acts = four; watches = watching one (codes "k") 0 ∷ watching three (codes "x") 0 ∷ [] }

-- a floor below what a watch is still owed is refused; what it was owed when it began stays, whatever is compacted
behind : answers_to watched (Compact 2 ∷ Compact 1 ∷ Take 1 ∷ Take 1 ∷ Take 1 ∷ Compact 2 ∷ Take 1 ∷ Take 1 ∷ Take 1 ∷ Compact 4 ∷ Status ∷ [])
    ≡ Refused (errors.WatchBehind 1) ∷ Compacted 1 ∷ AnsweredEntry (entry 1 (codes "1")) ∷ Marker ∷ AnsweredEntry (entry 2 (codes "2"))
    ∷ Compacted 2 ∷ AnsweredEntry (entry 3 (codes "3")) ∷ AnsweredEntry (entry 4 (codes "4")) ∷ Empty
    ∷ Compacted 4 ∷ Numbers (record { history = 1; last = 4; sealed = false; stored = 1; values = 1 }) 2 ∷ []
unfolding matches
behind = refl

-- a bad floor comes first; a stopped watch is behind none
bad_floor_first : answers_to watched (Compact 5 ∷ Compact 4 ∷ Stop 1 ∷ Compact 4 ∷ []) ≡ Refused errors.BadFloor ∷ Refused (errors.WatchBehind 1) ∷ Ended 0 ∷ Compacted 4 ∷ []
unfolding matches
bad_floor_first = refl

-- ---- a compaction makes room

abbrev two_puts : List Act
two_puts = act (codes "a") Put [] 1 ∷ act (codes "a") Put [] 2 ∷ []

full : accept (config 1 2) (put (codes "a") []) two_puts ≡ Err errors.JournalFull
full = refl

room : accept (config 1 2) (put (codes "a") []) (two_puts ++ Compacts 2 ∷ []) ≡ Ok (write (codes "a") Put [] 3)
room = refl

full_again : accept (config 1 2) (put (codes "a") []) (two_puts ++ Compacts 2 ∷ act (codes "a") Put [] 3 ∷ []) ≡ Err errors.JournalFull
full_again = refl

-- ---- a compaction meets the other watches

-- the second watch is owed the second write, and the store is full
abbrev held_back : State
held_back = record { config = config 1 2; acts = two_puts; watches = watching two_puts (codes ">") 2 ∷ watching (act (codes "a") Put [] 1 ∷ []) (codes ">") 2 ∷ [] }

abbrev delete : Call
delete = ask.Write (requests.Delete (codes "a") None)

abbrev taken_first : List Call
taken_first = Take 2 ∷ Compact 2 ∷ delete ∷ Take 1 ∷ []

-- so the first watch is handed a write only where the second one takes before the compaction
with_the_other : items_in 1 held_back taken_first ≡ AnEntry (record { key = codes "a"; op = Delete; revision = 3; size = 0; value = None }) ∷ []
unfolding matches
with_the_other = refl

without_the_other : items_in 1 held_back (filter (bears_on 1) taken_first) ≡ []
unfolding matches
without_the_other = refl
