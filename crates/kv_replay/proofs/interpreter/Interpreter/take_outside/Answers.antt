use Rattle.std.proofs.Common.{[], Ok, sym}
use Rattle.std.proofs.lemmas.Result.{on_err_weaker, on_ok_weaker}
use Rattle.kv_script.specs.Commands.{meaning_of}
use Rattle.kv_replay.proofs.Standing.{begins_batch, begins_none}
use Rattle.kv_replay.proofs.interpreter.Interpreter.take_outside.Goals as goal

pub returns-in-Some-clause-ok : goal.returns-in-Some-clause-ok
returns-in-Some-clause-ok g c =
    on_ok_weaker c.go_on.result (λ ends s r none.
    rw (begins_batch c.args.form s c.args.line.now (Ok (meaning_of c.in-Ok.command)) c.in-Some.count c.in-Ok.ensures (sym c.in-Some.ensures))
    (rw c.new.ensures.awaited at (ends s [] r c.new.ensures.asked)))
    c.go_on.ensures.ok

pub returns-in-Some-clause-write_fault : goal.returns-in-Some-clause-write_fault
returns-in-Some-clause-write_fault g c = λ fault.
    let stop = c.go_on.ensures.write_fault fault in (
      stop.0,
      λ s r.
          rw (begins_batch c.args.form s c.args.line.now (Ok (meaning_of c.in-Ok.command)) c.in-Some.count c.in-Ok.ensures (sym c.in-Some.ensures))
          (rw c.new.ensures.awaited at (stop.1 s [] r c.new.ensures.asked)),
    )

pub returns-in-Some-clause-left : goal.returns-in-Some-clause-left
returns-in-Some-clause-left g c =
    on_err_weaker c.go_on.result (λ leaves s r.
    rw (begins_batch c.args.form s c.args.line.now (Ok (meaning_of c.in-Ok.command)) c.in-Some.count c.in-Ok.ensures (sym c.in-Some.ensures))
    (rw c.new.ensures.awaited at (leaves s [] r c.new.ensures.asked)))
    c.go_on.ensures.left

pub returns-in-Ok-clause-ok : goal.returns-in-Ok-clause-ok
returns-in-Ok-clause-ok g c =
    on_ok_weaker c.pour_command.result (λ does s r none.
    let all = does s r in
    rw (begins_none c.args.form s c.args.line.now (Ok (meaning_of c.in-Ok.command)) c.in-Ok.ensures (sym c.in-None.ensures))
    (all.0, record { bucket = all.1; batch = none }))
    c.pour_command.ensures.ok
