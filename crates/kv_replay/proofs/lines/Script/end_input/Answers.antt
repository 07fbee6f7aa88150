use Rattle.std.proofs.Common.{[]}
use Rattle.std.proofs.lemmas.Result.{on_ok_weaker}
use Rattle.kv_replay.specs.Sessions.{end_text, line_text, line_next}
use Rattle.kv_replay.specs.inside.Reading.{ended}
use Rattle.kv_replay.specs.declared.lines.TheConstants.{KEPT_BYTES}
use Rattle.kv_replay.proofs.Pours.{front_later, front_none, pours-trans, puts_later}
use Rattle.kv_replay.proofs.Turns.{line_text-whole}
use Rattle.kv_replay.proofs.lines.Script.end_input.Goals as goal

pub returns-clause-ok : goal.returns-clause-ok
returns-clause-ok g c =
    on_ok_weaker c.end.result (λ said r holding.
    let first = c.in_ok-end_line.ensures.ok r holding in
    pours-trans (ended KEPT_BYTES (line_text c.args.form) (line_next c.args.form) r) (end_text (line_next c.args.form r.state r.line)) _ _ _ _ _ _ first.0 (said _ first.1.session))
    c.end.ensures.ok

pub returns-clause-write_fault : goal.returns-clause-write_fault
returns-clause-write_fault g c = λ fault.
    let stop = c.end.ensures.write_fault fault in (
      g.met.K.Output.failed_later _ _ _ c.in_ok-end_line.ensures.same stop.0,
      λ r holding.
          let first = c.in_ok-end_line.ensures.ok r holding in
          puts_later (ended KEPT_BYTES (line_text c.args.form) (line_next c.args.form) r) (end_text (line_next c.args.form r.state r.line)) _ _ _ _ _ [] first.0 (stop.1 _ first.1.session),
    )

pub returns-clause-memory : goal.returns-clause-memory
returns-clause-memory g c = λ fault r holding.
    let first = c.in_ok-end_line.ensures.ok r holding in
    front_later (ended KEPT_BYTES (line_text c.args.form) (line_next c.args.form) r) (end_text (line_next c.args.form r.state r.line)) _ _ _ _ _ _ first.0
    (line_text-whole c.args.form r.state r.line) (front_none _ _ _ _ _ (c.end.ensures.memory fault))

pub returns-clause-kept : goal.returns-clause-kept
returns-clause-kept g c = g.met.T.Target.goes_on_later _ _ _ c.in_ok-end_line.ensures.kept c.end.ensures.kept

pub returns-clause-stands : goal.returns-clause-stands
returns-clause-stands g c =
    on_ok_weaker c.end.result (λ stands r holding. stands _ (c.in_ok-end_line.ensures.ok r holding).1.session) c.end.ensures.stands
