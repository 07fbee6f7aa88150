use Rattle.std.proofs.Common.{◌≡◌, ◌+◌, ◌≤◌, ◌==◌, [], ◌∷◌, ◌++◌, List, length, take, refl, sym, ap, ◌∙◌, arith, append-nil, length-append}
use Rattle.std.proofs.lemmas.Bool.{eq-eqb}
use Rattle.std.proofs.lemmas.List.{length-take-le, take_all, take_more}
use Rattle.kv_model.specs.Acts.{Wrote}
use Rattle.kv_model.specs.Requests.{asked, write_for}
use Rattle.kv_model.specs.declared.request.Request.{Request}
use Rattle.kv_publish.specs.Rules.{acts_in, entry}
use Rattle.kv_publish.specs.Steps.{acts_from}
use Rattle.kv_publish.proofs.Steps.{added_more, step_begins, step_done, step_more, whole_more}
use Rattle.kv_publish.proofs.journal.add_writes.Goals as goal

pub loop-request-init : goal.loop-request-init
loop-request-init g c = (
  refl,
  omega arith,
  sym (append-nil (acts_in c.args.raw.now)),
  (λ none. c.requires.whole),
  step_begins (length c.args.requests.now) c.args.raw.now,
)

pub loop-request-preserved : goal.loop-request-preserved
loop-request-preserved g c =
    let inv = c.loop-request.invariant in
    let k = c.loop-request.request-index in
    let requests = c.args.requests.now in
    let request = c.request-item.result in
    let before = c.args.raw.now in
    let now = c.loop-request.raw in
    let more = c.add.new.self in
    let right = c.add.ensures.0 in
    let next = c.add.ensures.1 in
    let act = c.wrote-ghost_act.result in
    let grown : take (k + 1) requests ≡ take k requests ++ request ∷ [] = take_more requests k request c.loop-request-test.true ∙ ap (λ (r : Request). take k requests ++ r ∷ []) (sym c.request-item.is) in
    let ends = c.loop-request.at + 1 == length requests in
    let within : k ≤ length requests = omega (arith, c.loop-request-test.true) in
    let long : length more ≡ length now + 1 = ap length c.add.ensures.2 ∙ length-append now (entry act ends right next ∷ []) in (
      omega (arith, inv.0),
      omega (arith, inv.1, long),
      added_more before now more c.args.revision k (take k requests) (take (k + 1) requests) request act ends right next inv.2 grown (length-take-le k requests within) (c.wrote-ghost_act.ensures ∙ ap (λ n. Wrote (write_for (asked request) (c.args.revision + n))) inv.0) c.add.ensures.2,
      (λ end. whole_more now more (entry act ends right next) c.add.ensures.2 (eq-eqb (c.loop-request.at + 1) (length requests) (omega (arith, end, inv.0)))),
      step_more (length before) (length requests) k now more act ends right next inv.4 inv.1 (ap (λ n. n + 1 == length requests) inv.0) c.add.ensures.2,
    )

pub returns-clause-added : goal.returns-clause-added
returns-clause-added g c =
    let k = c.loop-request.request-index in
    let end : length c.args.requests.now ≤ k = omega arith in
    c.loop-request.invariant.2 ∙ ap (λ (rs : List Request). acts_in c.args.raw.now ++ acts_from c.args.revision rs) (take_all k c.args.requests.now end)

pub returns-clause-whole : goal.returns-clause-whole
returns-clause-whole g c = c.loop-request.invariant.3 (omega arith)

pub returns-clause-step : goal.returns-clause-step
returns-clause-step g c =
    let inv = c.loop-request.invariant in
    step_done (length c.args.raw.now) (length c.args.requests.now) c.loop-request.raw inv.4 (omega (arith, inv.1))
