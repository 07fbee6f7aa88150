use Rattle.std.proofs.Common.{◌≡◌, ◌∷◌, ◌≤◌, List, refl, ◌∙◌, subst, arith, rules, length, map, take}
use Rattle.std.proofs.lemmas.List.{take_all}
use Rattle.kv_model.specs.Acts.{Act}
use Rattle.kv_model.specs.Batches.{IsRefusedAt}
use Rattle.kv_model.specs.Requests.{asked}
use Rattle.kv_model.specs.declared.request.Request.{Request}
use Rattle.kv_store.specs.Batches.{Leaves}
use Rattle.kv_store.specs.Standing.{StandsFor}
use Rattle.kv_store.proofs.Batching.{each_first, each_next, first_is, leaves_first, leaves_next, refused_next, refused_first}
use Rattle.kv_store.proofs.version.Version.apply_all.Goals as goal

pub loop-request-init : goal.loop-request-init
loop-request-init c = (
  refl,
  c.in_ok-next.ensures.config,
  leaves_first (asked c.args.first.now) c.args.self.now c.in_ok-next.next c.in_ok-next.ensures.ok,
  first_is (asked c.args.first.now) c.args.self.now c.in_ok-next.next c.revision-revision.result c.in_ok-next.ensures.ok c.revision-revision.ensures.acts,
  each_first (asked c.args.first.now) (map asked c.args.rest.now) c.args.self.now c.in_ok-next.next c.in_ok-next.ensures.config c.in_ok-next.ensures.ok,
  c.revision-revision.ensures.small,
)

pub loop-request-preserved : goal.loop-request-preserved
loop-request-preserved c =
    let inv = c.loop-request.invariant in
    let k = c.loop-request.request-index in
    let same = c.in_ok-write_at_place.ensures.config ∙ inv.1 in
    let all = leaves_next (asked c.args.first.now) c.args.rest.now k c.request-item.result c.args.self.now c.loop-request.next c.loop-request-test.true c.request-item.is inv.1 inv.2 c.write_at_place.new.self c.in_ok-write_at_place.ensures.ok in (
      omega (arith, inv.0),
      same,
      all,
      inv.3,
      each_next (asked c.args.first.now) c.args.rest.now k c.args.self.now c.write_at_place.new.self same inv.4 all,
      inv.5,
    )

pub returns-clause-ok : goal.returns-clause-ok
returns-clause-ok c =
    let end : length c.args.rest.now ≤ c.loop-request.request-index = omega arith in
    let all : take c.loop-request.request-index c.args.rest.now ≡ c.args.rest.now = take_all c.loop-request.request-index c.args.rest.now end in
    subst (λ (rs : List Request). Leaves (asked c.args.first.now ∷ map asked rs) c.args.self.now c.loop-request.next) all c.loop-request.invariant.2

pub returns-clause-first : goal.returns-clause-first
returns-clause-first c = c.loop-request.invariant.3

pub returns-in_err-write_at_place-clause-refused : goal.returns-in_err-write_at_place-clause-refused
returns-in_err-write_at_place-clause-refused c =
    let inv = c.loop-request.invariant in
    let inner : (acts : List Act) → StandsFor acts c.args.self.now → IsRefusedAt c.args.self.now.config (asked c.args.first.now ∷ map asked c.args.rest.now) acts c.in_err-write_at_place.field-0.0 =
    refused_next (asked c.args.first.now) c.args.rest.now c.loop-request.request-index c.request-item.result c.args.self.now c.loop-request.next c.loop-request-test.true c.request-item.is inv.1 inv.2 c.in_err-write_at_place.field-0.0 (c.in_err-write_at_place.ensures.place ∙ inv.0) c.in_err-write_at_place.ensures.refused in
    search (rules, inner)

pub returns-in_err-next-clause-refused : goal.returns-in_err-next-clause-refused
returns-in_err-next-clause-refused c =
    let inner : (acts : List Act) → StandsFor acts c.args.self.now → IsRefusedAt c.args.self.now.config (asked c.args.first.now ∷ map asked c.args.rest.now) acts c.in_err-next.field-0.0 =
    refused_first (asked c.args.first.now) c.args.rest.now c.args.self.now c.in_err-next.field-0.0 c.in_err-next.ensures.place c.in_err-next.ensures.refused in
    search (rules, inner)

pub returns-clause-each : goal.returns-clause-each
returns-clause-each c = λ k le. c.loop-request.invariant.4 k (omega (arith, le))

pub returns-clause-small : goal.returns-clause-small
returns-clause-small c = c.loop-request.invariant.5
