use Rattle.std.proofs.Common.{◌≡◌, ◌≤◌, ◌++◌, List, length, take, subst, sym, ap, ◌∙◌, arith, append_assoc, length-append}
use Rattle.kv_model.specs.Acts.{Act}
use Rattle.kv_publish.specs.Openings.{HistoryName}
use Rattle.kv_publish.specs.Rules.{IsStepFrom, IsWhole, acts_in}
use Rattle.kv_publish.specs.Steps.{acts_from, step_of}
use Rattle.kv_publish.proofs.Former.{count_all}
use Rattle.kv_publish.proofs.Seeing.{acts_length}
use Rattle.kv_publish.proofs.Steps.{acts_before}
use Rattle.kv_publish.proofs.journal.Journal.add_all.Goals as goal

pub add_writes-requires-clause-room : goal.add_writes-requires-clause-room
add_writes-requires-clause-room g c = omega (arith, c.requires.room, count_all g.N.LiveName.opening.book.began c.args.self.now c.self.inside.raw c.self.view_is)

pub new-requires-clause-acts : goal.new-requires-clause-acts
new-requires-clause-acts g c =
    let was = c.self.inside.raw in
    let now = c.add_writes.new.raw in
    let began : c.witness.result.book.began ≡ g.N.LiveName.opening.book.began = ap (λ (b : HistoryName). b.began) c.witness.ensures.1 in
    let longer = ap length c.add_writes.ensures.added ∙ length-append (acts_in was) (acts_from c.args.revision c.args.requests.now) in
    let within : c.entries-before.result ≤ length now = omega (arith, c.entries-before.ensures, acts_length was, acts_length now, longer) in
    rw (began, c.witness.ensures.0) (c.len.ensures, within)

pub new-requires-clause-step : goal.new-requires-clause-step
new-requires-clause-step g c = (
  subst IsWhole (sym c.witness.ensures.0) c.add_writes.ensures.whole,
  subst (IsStepFrom c.entries-before.result) (sym c.witness.ensures.0) (subst (λ n. IsStepFrom n c.add_writes.new.raw) (sym c.entries-before.ensures) c.add_writes.ensures.step),
)

pub returns-clause-added : goal.returns-clause-added
returns-clause-added g c =
    let began = g.N.LiveName.opening.book.began in
    let more = acts_from c.args.revision c.args.requests.now in
    ap (λ (acts : List Act). began ++ acts) c.add_writes.ensures.added
    ∙ (sym (append_assoc began (acts_in c.self.inside.raw) more) ∙ ap (λ (acts : List Act). acts ++ more) c.self.view_is)

pub returns-clause-step : goal.returns-clause-step
returns-clause-step g c =
    let began = g.N.LiveName.opening.book.began in
    let was = c.self.inside.raw in
    let now = c.add_writes.new.raw in
    let same : c.witness.result.book.began ≡ began = ap (λ (b : HistoryName). b.began) c.witness.ensures.1 in
    let before : began ++ take c.entries-before.result (acts_in now) ≡ c.args.self.now =
    ap (λ (acts : List Act). began ++ acts) (ap (λ n. take n (acts_in now)) c.entries-before.ensures ∙ acts_before was now (acts_from c.args.revision c.args.requests.now) c.add_writes.ensures.added) ∙ c.self.view_is in
    c.new.ensures
    ∙ (ap (λ (a : List Act). step_of (a ++ take c.entries-before.result (acts_in c.witness.result.log)) (a ++ acts_in c.witness.result.log)) same
    ∙ (ap (λ log. step_of (began ++ take c.entries-before.result (acts_in log)) (began ++ acts_in log)) c.witness.ensures.0
    ∙ ap (λ (acts : List Act). step_of acts (began ++ acts_in now)) before))
