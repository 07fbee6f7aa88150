-- What a watch counts, and how it goes on through calls.
use Rattle.std.specs.Prelude.{◌≡◌, ℕ, ◌≤◌, false, List, [], Option, Some, None, ⊤, length, take}
use Rattle.kv_model.specs.Acts.{Act, IsPrefix}
use Rattle.kv_model.specs.Given.{Item}
use Rattle.kv_model.specs.declared.call.Call.{Call}
use Rattle.kv_model.specs.declared.call.Call.TheVariants as ask
use Rattle.kv_model.specs.State.{State, Watch, watch_at, given_to}

-- a watch was handed the first items of what it is given, as many as it counts
pub record Told (h : ℕ) (acts : List Act) (watch : Watch) (items : List Item) : Type 0 where
  pub prefix : IsPrefix watch.began acts
  pub within : watch.handed ≤ length (given_to h acts watch)
  pub first : items ≡ take watch.handed (given_to h acts watch)

-- and a watch that was not opened was handed nothing
abbrev pub IsTold : ℕ → List Act → Option Watch → List Item → Type 0
IsTold h acts None items = items ≡ []
IsTold h acts (Some watch) items = Told h acts watch items

-- the watch of a number was told these items
abbrev pub TellsWatch : State → ℕ → List Item → Type 0
TellsWatch s number items = IsTold s.config.history s.acts (watch_at number s.watches) items

-- a call that neither takes from the watch of a number nor stops it
abbrev pub IsOther : ℕ → Call → Type 0
IsOther number (ask.Take asked) = asked ≡ number → ⊥
IsOther number (ask.Stop asked) = asked ≡ number → ⊥
IsOther number call = ⊤

-- how a watch goes on: it keeps its beginning, its filters and its options, its count never falls, and once it is
-- stopped it stays so and counts no more
pub record GoesOn (before watch : Watch) : Type 0 where
  pub began : watch.began ≡ before.began
  pub filters : watch.filters ≡ before.filters
  pub options : watch.options ≡ before.options
  pub handed : before.handed ≤ watch.handed
  pub stays_stopped : before.is_open ≡ false → watch.is_open ≡ false
  pub counts_no_more : before.is_open ≡ false → watch.handed ≡ before.handed
