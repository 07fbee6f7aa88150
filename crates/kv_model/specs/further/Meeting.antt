-- The calls that bear on a watch: those that may add an act, and its own.
use Rattle.std.specs.Prelude.{ℕ, Bool, true, false, ◌||◌, List, [], ◌∷◌, ◌++◌, Option, Some, None, is_some, option_map, ◌==◌, if◌then◌else◌}
use Rattle.std.specs.Option.{option_to_list}
use Rattle.kv_model.specs.Acts.{Act}
use Rattle.kv_model.specs.declared.call.Call.{Call}
use Rattle.kv_model.specs.declared.call.Call.TheVariants as calls
use Rattle.kv_model.specs.State.{State, after}

-- only a write, a seal and a compaction may add an act
abbrev pub may_add_act : Call → Bool
may_add_act (calls.Write request) = true
may_add_act calls.Seal = true
may_add_act (calls.Compact floor) = true
may_add_act call = false

-- a compaction alone of all calls meets watches that it doesn't name: it is refused where one is behind
abbrev pub compacts : Call → Bool
compacts (calls.Compact floor) = true
compacts call = false

-- a watch's own calls: a take from it, and a stop of it
pub data Own : Type 0 where
  Taking : Own
  Stopping : Own

-- what a call is to the watch of a number, if it is one of its own
abbrev pub own_call : ℕ → Call → Option Own
own_call number (calls.Take asked) = if asked == number then Some Taking else None
own_call number (calls.Stop asked) = if asked == number then Some Stopping else None
own_call number call = None

-- a call bears on the watch of a number where it may add an act or is one of the watch's own
abbrev pub bears_on : ℕ → Call → Bool
bears_on number call = may_add_act call || is_some (own_call number call)

-- a watch's own call, and the acts that it meets
pub record Meeting : Type 0 where
  pub own : Own
  pub acts : List Act

abbrev pub meets : List Act → Own → Meeting
meets acts own = record { own = own; acts = acts }

-- what the own calls of the watch of a number meet in a run, in order
abbrev pub meetings_of : ℕ → State → List Call → List Meeting
meetings_of number s [] = []
meetings_of number s (call ∷ calls) = option_to_list (option_map (meets s.acts) (own_call number call))
    ++ meetings_of number (after s call) calls
