use Rattle.std.proofs.Common.{ap}
use Rattle.std.proofs.lemmas.Result.{on_err_weaker, on_ok_weaker}
use Rattle.kv_replay.specs.inside.Gathering.{Gathered}
use Rattle.kv_replay.proofs.Standing.{line_more, one_line}
use Rattle.kv_replay.proofs.interpreter.Interpreter.take_in_batch.Goals as goal

pub returns-clause-ok : goal.returns-clause-ok
returns-clause-ok g c =
    on_ok_weaker c.go_on.result (λ ends s b r same.
    let more = line_more c.args.form c.args.line.now b in
    let took = one_line c.args.form c.args.line.now b c.args.begun _ same c.in_ok-take_line.ensures.ok in
    rw (ap (λ (x : Gathered). x.awaited) took) at (ends s more.asks r (ap (λ (x : Gathered). x.asked) took)))
    c.go_on.ensures.ok

pub returns-clause-write_fault : goal.returns-clause-write_fault
returns-clause-write_fault g c = λ fault.
    let stop = c.go_on.ensures.write_fault fault in (
      stop.0,
      λ s b r same.
          let more = line_more c.args.form c.args.line.now b in
          let took = one_line c.args.form c.args.line.now b c.args.begun _ same c.in_ok-take_line.ensures.ok in
          rw (ap (λ (x : Gathered). x.awaited) took) at (stop.1 s more.asks r (ap (λ (x : Gathered). x.asked) took)),
    )

pub returns-clause-left : goal.returns-clause-left
returns-clause-left g c =
    on_err_weaker c.go_on.result (λ leaves s b r same.
    let more = line_more c.args.form c.args.line.now b in
    let took = one_line c.args.form c.args.line.now b c.args.begun _ same c.in_ok-take_line.ensures.ok in
    rw (ap (λ (x : Gathered). x.awaited) took) at (leaves s more.asks r (ap (λ (x : Gathered). x.asked) took)))
    c.go_on.ensures.left
