-- Steps in a row, whoever makes them: they are a run of the model.
use Rattle.std.proofs.Common.{◌≡◌, ◌≤◌, ℕ, List, [], ◌∷◌, Option, Some, None, length, take, refl, sym, ap, ◌∙◌, subst}
use Rattle.kv_model.specs.Answers.{Answer}
use Rattle.kv_model.specs.Configuration.{Configuration}
use Rattle.kv_model.specs.Given.{Item, given}
use Rattle.kv_model.specs.Runs.{Exchange, calls_of, run, transcript}
use Rattle.kv_model.specs.State.{State, Watch, watch_at, open_at, given_to, after, answer_to}
use Rattle.kv_model.specs.Told.{Tells, TellsEachWatch}
use Rattle.kv_model.specs.declared.call.Call.{Call}
use Rattle.kv_model.specs.declared.options.Options.{Options}
use Rattle.kv_model.specs.further.Counts.{Told}
use Rattle.kv_model.proofs.Further.{tells_further}
use Rattle.kv_model.proofs.Numbers.{open_is}
use Rattle.kv_model.proofs.Theorem.{tells_each_watch}
use Rattle.kv_single.specs.Held.{Bucketed, Holding, Follows, IsHeld, Represents, held_at}
use Rattle.kv_single.specs.Stepping.{AreSteps}

-- their exchanges are those of the run of their calls
pub steps_are : (old new : Bucketed) (told : List Exchange) → AreSteps old told new → (state : State) → Represents state old →
    (told ≡ transcript state (calls_of told)) × Represents (run state (calls_of told)) new
steps_are old new [] steps state r = (refl, subst (Represents state) (sym steps) r)
steps_are old new (exchange ∷ told) steps state r =
    let one = steps.1 state r in
    let more = steps_are steps.0 new told steps.2 (after state exchange.call) one.1 in (
      ap (λ (a : Answer). record { call = exchange.call; answer = a } ∷ told) one.0
          ∙ ap (λ (es : List Exchange). record { call = exchange.call; answer = answer_to state exchange.call } ∷ es) more.0,
      more.1,
    )

pub steps_tell : (old new : Bucketed) (told : List Exchange) (state : State) → AreSteps old told new → Represents state old → TellsEachWatch state told
steps_tell old new told state steps r = subst (TellsEachWatch state) (sym (steps_are old new told steps state r).0) (tells_each_watch state (calls_of told))

-- a watch that is open was handed the first items of what it is given
module _ (state : State) (bucket : Bucketed) (watch : Watch) (r : Represents state bucket) where
  abbrev Reached : Type 0
  Reached = Told state.config.history state.acts watch (take watch.handed (given_to state.config.history state.acts watch))

  from_holding : (holding : Holding) → Follows state.acts bucket.version holding watch → Reached
  from_holding holding follows =
      let place = follows.place.place in
      let config : holding.watch.opening.config ≡ state.config = sym place.same_config ∙ r.config in
      let same : given holding.watch.opening.config.history watch.began state.acts holding.watch.cursor.filters holding.watch.cursor.options ≡ given_to state.config.history state.acts watch =
      ap (λ (c : Configuration). given c.history watch.began state.acts holding.watch.cursor.filters holding.watch.cursor.options) config
      ∙ ap (λ (fs : List (List ℕ)). given state.config.history watch.began state.acts fs holding.watch.cursor.options) follows.filters
      ∙ ap (λ (os : Options). given state.config.history watch.began state.acts watch.filters os) follows.options in
      record {
        prefix = place.prefix;
        within = subst (λ (items : List Item). watch.handed ≤ length items) same place.taken;
        first = refl;
      }

  from_held : (held : Option Holding) → IsHeld state.acts bucket.version held (Some watch) → Reached
  from_held None is = absurd is
  from_held (Some holding) is = from_holding holding is

  -- and by further calls it is handed the next ones
  pub run_tells : (number : ℕ) (made : List Call) → open_at number state ≡ Some watch → Tells state (transcript state made) number watch
  run_tells number made is_open =
      let is = subst (IsHeld state.acts bucket.version (held_at number bucket.watches)) is_open (r.held number) in
      let here : watch_at number state.watches ≡ Some watch = (open_is (watch_at number state.watches) watch is_open).0 in
      tells_further state number watch (take watch.handed (given_to state.config.history state.acts watch)) here (from_held (held_at number bucket.watches) is) made

pub steps_tell_held : (old new : Bucketed) (told : List Exchange) (state : State) (number : ℕ) (watch : Watch) → AreSteps old told new → Represents state old → open_at number state ≡ Some watch → Tells state told number watch
steps_tell_held old new told state number watch steps r is_open =
    subst (λ (es : List Exchange). Tells state es number watch) (sym (steps_are old new told steps state r).0)
    (run_tells state old watch r number (calls_of told) is_open)
