use Rattle.std.proofs.Common.{◌≡◌, ◌≤◌, ◌++◌, List, [], length, take, subst, sym, ap, ◌∙◌, arith, append-nil}
use Rattle.kv_model.specs.Acts.{Act}
use Rattle.kv_publish.specs.Openings.{HistoryName}
use Rattle.kv_publish.specs.Rules.{IsWhole, acts_in}
use Rattle.kv_publish.specs.Steps.{step_of}
use Rattle.kv_publish.proofs.Steps.{acts_before}
use Rattle.kv_publish.proofs.journal.Journal.no_step.Goals as goal

pub new-requires-clause-acts : goal.new-requires-clause-acts
new-requires-clause-acts g c =
    let began : c.witness.result.book.began ≡ g.N.LiveName.opening.book.began = ap (λ (b : HistoryName). b.began) c.witness.ensures.1 in
    let within : c.entries.result ≤ length c.self.inside.raw = omega (arith, c.entries.ensures) in
    rw (began, c.witness.ensures.0) (c.len.ensures, within)

pub new-requires-clause-step : goal.new-requires-clause-step
new-requires-clause-step g c = (
  subst IsWhole (sym c.witness.ensures.0) c.self.invariant,
  (λ i from early. absurd (omega (arith, from, early, c.entries.ensures, ap length c.witness.ensures.0))),
)

pub returns : goal.returns
returns g c =
    let began = g.N.LiveName.opening.book.began in
    let was = c.self.inside.raw in
    let same : c.witness.result.book.began ≡ began = ap (λ (b : HistoryName). b.began) c.witness.ensures.1 in
    let before : began ++ take c.entries.result (acts_in was) ≡ c.args.self.now =
    ap (λ (acts : List Act). began ++ acts) (ap (λ n. take n (acts_in was)) c.entries.ensures ∙ acts_before was was [] (sym (append-nil (acts_in was)))) ∙ c.self.view_is in
    c.new.ensures
    ∙ (ap (λ (a : List Act). step_of (a ++ take c.entries.result (acts_in c.witness.result.log)) (a ++ acts_in c.witness.result.log)) same
    ∙ (ap (λ log. step_of (began ++ take c.entries.result (acts_in log)) (began ++ acts_in log)) c.witness.ensures.0
    ∙ (ap (λ (acts : List Act). step_of acts (began ++ acts_in was)) before ∙ ap (step_of c.args.self.now) c.self.view_is)))
