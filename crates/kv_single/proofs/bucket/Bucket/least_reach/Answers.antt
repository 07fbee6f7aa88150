use Rattle.std.proofs.Common.{◌≡◌, ℕ, ◌≤◌, length, sym, ap, subst, ◌∙◌, arith}
use Rattle.std.specs.Prelude.{List}
use Rattle.std.specs.List.{list_any}
use Rattle.std.proofs.lemmas.List.{take_all}
use Rattle.kv_model.specs.Acts.{Act, writes_of}
use Rattle.kv_model.specs.State.{State}
use Rattle.kv_store.specs.Standing.{StandsFor}
use Rattle.kv_single.specs.Held.{Bucketed, Holding, Represents}
use Rattle.kv_single.specs.inside.Behind.{behind_at}
use Rattle.kv_single.proofs.Least.{first_is_any, not_less, numbers, reach_more}
use Rattle.kv_single.proofs.bucket.Bucket.least_reach.Goals as goal

-- the last revision of what the bucket stands for
last_at : {last : ℕ} {inside now : Bucketed} → inside ≡ now → ((acts : List Act) → StandsFor acts inside.version → last ≡ length (writes_of acts)) → (state : State) → Represents state now → last ≡ length (writes_of state.acts)
last_at same is state r = is state.acts (subst (Represents state) (sym same) r).version

pub loop-held-init : goal.loop-held-init
loop-held-init c = (
  c.deref-held-items.ensures.value ∙ ap (λ (b : Bucketed). b.watches) c.self.view_is,
  (λ state r. let last = last_at c.self.view_is c.revision-reach.ensures.acts state r in omega (arith, last)),
  (λ state r floor l. let last = last_at c.self.view_is c.revision-reach.ensures.acts state r in sym (not_less c.revision-reach.result floor (omega (arith, l, last)))),
)

pub loop-held-preserved : goal.loop-held-preserved
loop-held-preserved c = (
  c.loop-held.invariant.0,
  (λ state r. let before = c.loop-held.invariant.1 state r in omega (arith, before, c.min-reach.ensures)),
  (λ state r floor l.
      let held = c.held-item.result in
      reach_more (behind_at floor state) c.deref-held-items.result.now c.loop-held.held-index held floor c.loop-held.reach c.reach_at.result c.min-reach.result c.loop-held-test.true c.held-item.is
      (c.loop-held.invariant.2 state r floor l)
      (ap (behind_at floor state) (sym c.number.ensures) ∙ c.reach_at.ensures.reach state r floor l)
      c.min-reach.ensures),
)

pub returns-clause-within : goal.returns-clause-within
returns-clause-within c = c.loop-held.invariant.1

pub returns-clause-reach : goal.returns-clause-reach
returns-clause-reach c = λ state r floor l.
    let items = c.deref-held-items.result.now in
    let ended : length items ≤ c.loop-held.held-index = omega (arith, c.loop-held-test.false) in
    first_is_any floor state c.args.self.now r
    ∙ ap (λ (held : List Holding). list_any (behind_at floor state) (numbers held)) (sym (take_all c.loop-held.held-index items ended ∙ c.loop-held.invariant.0))
    ∙ c.loop-held.invariant.2 state r floor l
