-- Which states of the model a bucket represents.
use Rattle.std.specs.Prelude.{◌≡◌, ℕ, Bool, List, Option, Some, None, ⊤, length, ◌==◌, filter}
use Rattle.std.specs.List.{find}
use Rattle.std.specs.Option.{option_len}
use Rattle.kv_model.specs.Acts.{Act}
use Rattle.kv_store.specs.Standing.{StandsFor}
use Rattle.kv_store.specs.Stored.{Stored}
use Rattle.kv_watch.specs.Watching.{Watching, HasHanded}
use Rattle.kv_model.specs.State.{State, Watch, open_at, open_count}

-- a watch that is held, and its number
pub record Holding : Type 0 where
  pub number : ℕ
  pub watch : Watching

-- what a bucket holds: its version, the open watches, and how many were ever opened
pub record Bucketed : Type 0 where
  pub version : Stored
  pub watches : List Holding
  pub opened : ℕ

-- what is held stands for an open watch: it shows what that does, has handed out as many items from the same beginning
-- on, and has what is left in the present version: so no open watch is behind the floor
pub record Follows (acts : List Act) (version : Stored) (holding : Holding) (watch : Watch) : Type 0 where
  pub filters : holding.watch.cursor.filters ≡ watch.filters
  pub options : holding.watch.cursor.options ≡ watch.options
  pub place : HasHanded watch.began acts watch.handed version holding.watch

abbrev pub has_number : ℕ → Holding → Bool
has_number number holding = holding.number == number

-- what is held of a number
abbrev pub held_at : ℕ → List Holding → Option Holding
held_at number watches = find (has_number number) watches

-- something is held of a watch exactly where it is open
abbrev pub IsHeld : List Act → Stored → Option Holding → Option Watch → Type 0
IsHeld acts version None None = ⊤
IsHeld acts version (Some holding) None = ⊥
IsHeld acts version None (Some watch) = ⊥
IsHeld acts version (Some holding) (Some watch) = Follows acts version holding watch

-- a bucket represents a state: its version stands for the acts under the state's configuration, it has opened as many
-- watches, and what it holds stands for those that are open, each once
pub record Represents (state : State) (bucket : Bucketed) : Type 0 where
  pub config : bucket.version.config ≡ state.config
  pub version : StandsFor state.acts bucket.version
  pub opened : bucket.opened ≡ length state.watches
  pub held : (number : ℕ) → IsHeld state.acts bucket.version (held_at number bucket.watches) (open_at number state)
  pub once : (number : ℕ) → length (filter (has_number number) bucket.watches) ≡ option_len (open_at number state)
  pub open_count : length bucket.watches ≡ open_count state.watches
