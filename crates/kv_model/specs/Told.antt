-- What a watch was told, by the calls on a bucket and their answers.
use Rattle.std.specs.Prelude.{◌≡◌, ℕ, ◌+◌, List, [], ◌∷◌, ◌++◌, Some, length, drop}
use Rattle.std.specs.List.Sorted.{IsStrictlyIncreasing}
use Rattle.kv_model.specs.Acceptance.{IsLawful}
use Rattle.kv_model.specs.Acts.{IsPrefix}
use Rattle.kv_model.specs.declared.options.Options.{Options}
use Rattle.kv_model.specs.Given.{item_revisions}
use Rattle.kv_model.specs.declared.call.Call.TheVariants as ask
use Rattle.kv_model.specs.Answers.{Watching, Empty, Ended}
use Rattle.kv_model.specs.Runs.{Exchange, calls_of, items_of, run}
use Rattle.kv_model.specs.State.{State, Watch, watch_at, given_to, opened}

-- the watch theorem for one watch, of exchanges that begin at a state, where the watch is as it was there, or as it was
-- opened: the items from its takes are, in order, the next of what it is given by the acts so far, behind those that it
-- counted before; where a take is answered Empty, none is left by then; it counts them on; a stop of it answers the
-- count, and none comes after; and no entry comes twice, since the revisions of the entries rise where the acts are
-- lawful
pub record Tells (s : State) (told : List Exchange) (number : ℕ) (watch : Watch) : Type 0 where
  pub prefix : IsPrefix (items_of number told)
      (drop watch.handed (given_to s.config.history (run s (calls_of told)).acts watch))
  pub all : (earlier later : List Exchange) →
      told ≡ earlier ++ record { call = ask.Take number; answer = Empty } ∷ later →
      items_of number earlier ≡ drop watch.handed (given_to s.config.history (run s (calls_of earlier)).acts watch)
  pub counted : (now : Watch) × (watch_at number (run s (calls_of told)).watches ≡ Some now) ×
      (now.handed ≡ watch.handed + length (items_of number told))
  pub stopped : (earlier later : List Exchange) (handed : ℕ) →
      told ≡ earlier ++ record { call = ask.Stop number; answer = Ended handed } ∷ later →
      (handed ≡ watch.handed + length (items_of number told)) × (items_of number later ≡ [])
  pub once : IsLawful s.config (run s (calls_of told)).acts → IsStrictlyIncreasing (item_revisions (items_of number told))

-- the watch theorem for each watch that the calls opened: one that is opened is given what its start asks for of the acts
-- so far, then the end marker, then what comes, and has counted nothing
abbrev pub TellsEachWatch : State → List Exchange → Type 0
TellsEachWatch s told = (earlier later : List Exchange) (filters : List (List ℕ)) (options : Options) (number : ℕ) →
    told ≡ earlier ++ record { call = ask.Watch filters options; answer = Watching number } ∷ later →
    Tells s told number (opened filters options (run s (calls_of earlier)))
