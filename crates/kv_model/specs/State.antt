-- The whole model: the acts so far and the watches that were opened, and one step of it for each call.
use Rattle.std.specs.Prelude.{ℕ, ◌+◌, ◌-◌, Bool, true, false, ◌&&◌, List, [], ◌∷◌, ◌++◌, Option, Some, None, Result, Ok, Err, length, map, nat_lt, ◌==◌, if◌then◌else◌, slice_get, slice_set, filter}
use Rattle.std.specs.Option.{option_and_then}
use Rattle.kv_keys.specs.declared.error.KvError.{KvError}
use Rattle.kv_keys.specs.declared.error.KvError.TheVariants.{KeyNotFound, NoSuchWatch, TooManyWatches, BadFloor, WatchBehind}
use Rattle.kv_keys.specs.Matching.{any_matches}
use Rattle.kv_model.specs.Acceptance.{accept}
use Rattle.kv_model.specs.Acts.{Act, Wrote, Seal, Compact, Write}
use Rattle.kv_model.specs.Compaction.{is_bad_floor}
use Rattle.kv_model.specs.Configuration.{Configuration}
use Rattle.kv_model.specs.Reads.{get_of, get_at_of, history_of, keys_of, status_of}
use Rattle.kv_model.specs.Requests.{asked}
use Rattle.kv_model.specs.declared.options.Options.{Options}
use Rattle.kv_model.specs.Given.{Entry, Item, entry_of, given, is_behind}
use Rattle.kv_model.specs.declared.call.Call.{Call}
use Rattle.kv_model.specs.declared.call.Call.TheVariants as calls
use Rattle.kv_model.specs.Answers.{Answer, Revision, Sealed, AnsweredEntry, Entries, Keys, Numbers, Watching, Ended, Compacted, Refused, answer_item}

-- a watch: the acts when it was opened, what it matches and how it shows it, how many items were handed out, and
-- whether it is open
pub record Watch : Type 0 where
  pub began : List Act
  pub filters : List (List ℕ)
  pub options : Options
  pub handed : ℕ
  pub is_open : Bool

-- the i-th watch has the number i, from 1
pub record State : Type 0 where
  pub config : Configuration
  pub acts : List Act
  pub watches : List Watch

-- no act and no watch
abbrev pub empty : Configuration → State
empty config = record { config = config; acts = []; watches = [] }

-- all that a watch is given by these acts
abbrev pub given_to : ℕ → List Act → Watch → List Item
given_to h acts w = given h w.began acts w.filters w.options

-- the item that it is handed next, if any
abbrev pub next_of : ℕ → List Act → Watch → Option Item
next_of h acts w = slice_get (given_to h acts w) w.handed

abbrev pub if_open : Watch → Option Watch
if_open w = if w.is_open then Some w else None

-- the watch of a number
abbrev pub watch_at : ℕ → List Watch → Option Watch
watch_at number watches = if number == 0 then None else slice_get watches (number - 1)

-- the open watch of a number
abbrev pub open_at : ℕ → State → Option Watch
open_at number s = option_and_then if_open (watch_at number s.watches)

abbrev pub open_count : List Watch → ℕ
open_count watches = length (filter (λ w. w.is_open) watches)

-- at most 64 watches are open, and at most 4,294,967,295 numbers are given
abbrev pub has_room : State → Bool
has_room s = nat_lt (open_count s.watches) 64 && nat_lt (length s.watches) 4294967295

abbrev pub add_act : Act → State → State
add_act act s = record s { acts = s.acts ++ act ∷ [] }

abbrev pub set_watch : ℕ → Watch → State → State
set_watch number w s = record s { watches = slice_set s.watches (number - 1) w }

abbrev pub add_watch : Watch → State → State
add_watch w s = record s { watches = s.watches ++ w ∷ [] }

-- a watch that is opened now
abbrev pub opened : List (List ℕ) → Options → State → Watch
opened filters options s = record { began = s.acts; filters = filters; options = options; handed = 0; is_open = true }

abbrev pub handed_one : Watch → Watch
handed_one w = record w { handed = w.handed + 1 }

-- a watch after a take that handed out an item, or none
abbrev pub after_handed : Watch → Option Item → Watch
after_handed watch None = watch
after_handed watch (Some item) = handed_one watch

abbrev pub stopped : Watch → Watch
stopped w = record w { is_open = false }

-- a value, or a refusal where there is none
abbrev pub or_refused : {X : Type 0} → KvError → (X → Answer) → Option X → Answer
or_refused {X} error answer None = Refused error
or_refused {X} error answer (Some x) = answer x

-- an entry of a read shows its value
abbrev pub read_entry : Write → Entry
read_entry w = entry_of false w

-- a write
abbrev pub after_write : State → Result Write KvError → State
after_write s (Err error) = s
after_write s (Ok w) = add_act (Wrote w) s

abbrev pub answer_write : Result Write KvError → Answer
answer_write (Err error) = Refused error
answer_write (Ok w) = Revision w.revision

-- a take from an open watch, where this is its next item
abbrev pub after_item : ℕ → State → Watch → Option Item → State
after_item number s w None = s
after_item number s w (Some item) = set_watch number (handed_one w) s

abbrev pub after_take : ℕ → State → Option Watch → State
after_take number s None = s
after_take number s (Some w) = after_item number s w (next_of s.config.history s.acts w)

abbrev pub answer_take : State → Option Watch → Answer
answer_take s watch = or_refused NoSuchWatch (λ w. answer_item (next_of s.config.history s.acts w)) watch

-- a stop of an open watch
abbrev pub after_stop : ℕ → State → Option Watch → State
after_stop number s None = s
after_stop number s (Some w) = set_watch number (stopped w) s

abbrev pub answer_stop : Option Watch → Answer
answer_stop watch = or_refused NoSuchWatch (λ w. Ended w.handed) watch

-- an open watch that was not handed all its live items at or below a floor
abbrev pub watch_behind : ℕ → ℕ → List Act → Watch → Bool
watch_behind floor h acts w = w.is_open && is_behind floor w.handed h w.began acts w.filters w.options

-- the least number of an open watch that is behind a floor, where the first of the watches has this number
abbrev pub first_behind : ℕ → ℕ → ℕ → List Act → List Watch → Option ℕ
first_behind number floor h acts [] = None
first_behind number floor h acts (w ∷ ws) =
    if watch_behind floor h acts w then Some number else first_behind (number + 1) floor h acts ws

abbrev pub unless_behind : ℕ → Option ℕ → Result ℕ KvError
unless_behind floor None = Ok floor
unless_behind floor (Some number) = Err (WatchBehind number)

-- the floor of a compaction, or why there is none: its floor is bad, or else the first open watch that is behind it
abbrev pub may_compact : ℕ → State → Result ℕ KvError
may_compact floor s =
    if is_bad_floor floor s.acts then Err BadFloor
    else unless_behind floor (first_behind 1 floor s.config.history s.acts s.watches)

-- a compaction
abbrev pub after_compact : State → Result ℕ KvError → State
after_compact s (Err error) = s
after_compact s (Ok floor) = add_act (Compact floor) s

abbrev pub answer_compact : Result ℕ KvError → Answer
answer_compact (Err error) = Refused error
answer_compact (Ok floor) = Compacted floor

-- the state after a call; reads change nothing, and neither does a call that is refused
abbrev pub after : State → Call → State
after s (calls.Write request) = after_write s (accept s.config (asked request) s.acts)
after s calls.Seal = add_act Seal s
after s (calls.Get key) = s
after s (calls.GetAt key revision) = s
after s (calls.History key) = s
after s (calls.Keys filters) = s
after s calls.Status = s
after s (calls.Watch filters options) = if has_room s then add_watch (opened filters options s) s else s
after s (calls.Take number) = after_take number s (open_at number s)
after s (calls.Stop number) = after_stop number s (open_at number s)
after s (calls.Compact floor) = after_compact s (may_compact floor s)

-- the answer to a call
abbrev pub answer_to : State → Call → Answer
answer_to s (calls.Write request) = answer_write (accept s.config (asked request) s.acts)
answer_to s calls.Seal = Sealed
answer_to s (calls.Get key) = or_refused KeyNotFound (λ w. AnsweredEntry (read_entry w)) (get_of key s.acts)
answer_to s (calls.GetAt key revision) = or_refused KeyNotFound (λ w. AnsweredEntry (read_entry w))
    (get_at_of s.config.history key revision s.acts)
answer_to s (calls.History key) = or_refused KeyNotFound (λ ws. Entries (map read_entry ws))
    (history_of s.config.history key s.acts)
answer_to s (calls.Keys filters) = Keys (keys_of (any_matches filters) s.acts)
answer_to s calls.Status = Numbers (status_of s.config.history s.acts) (open_count s.watches)
answer_to s (calls.Watch filters options) = if has_room s then Watching (length s.watches + 1) else
    Refused TooManyWatches
answer_to s (calls.Take number) = answer_take s (open_at number s)
answer_to s (calls.Stop number) = answer_stop (open_at number s)
answer_to s (calls.Compact floor) = answer_compact (may_compact floor s)

-- the number of a new watch, or why there is none
abbrev pub next_number : State → Result ℕ KvError
next_number s = if has_room s then Ok (length s.watches + 1) else Err TooManyWatches
