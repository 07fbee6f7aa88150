use Rattle.std.proofs.Common.{◌≡◌, Some, None, rules, sym, ◌∙◌}
use Rattle.std.proofs.lemmas.Result.{on_err_weaker, on_ok_weaker}
use Rattle.kv_replay.proofs.Pours.{pours_none}
use Rattle.kv_replay.proofs.Standing.{has_begun, none_begun, turn_counted, turn_skipped}
use Rattle.kv_replay.proofs.interpreter.Interpreter.take_line.Goals as goal

pub returns-then-is_skipped-clause-ok : goal.returns-then-is_skipped-clause-ok
returns-then-is_skipped-clause-ok g c = λ s stands.
    rw (turn_skipped c.args.form s c.args.line.now (sym c.is_skipped.ensures ∙ c.if-is_skipped.true)) (pours_none _ _, stands)

pub returns-in-Some-clause-ok : goal.returns-in-Some-clause-ok
returns-in-Some-clause-ok g c =
    on_ok_weaker c.take_in_batch.result (λ ends s stands.
    let kept : Some c.in-Some.begun ≡ c.args.self.now.batch = search rules in
    let begun = has_begun s.batch c.in-Some.begun (kept ∙ stands.batch) in
    rw (turn_counted c.args.form s c.args.line.now (Some begun.0) (sym c.is_skipped.ensures ∙ c.if-is_skipped.false) begun.1.0) (ends s.state begun.0 stands.bucket begun.1.1))
    c.take_in_batch.ensures.ok

pub returns-in-Some-clause-write_fault : goal.returns-in-Some-clause-write_fault
returns-in-Some-clause-write_fault g c = λ fault.
    let stop = c.take_in_batch.ensures.write_fault fault in (
      stop.0,
      λ s stands.
          let kept : Some c.in-Some.begun ≡ c.args.self.now.batch = search rules in
          let begun = has_begun s.batch c.in-Some.begun (kept ∙ stands.batch) in
          rw (turn_counted c.args.form s c.args.line.now (Some begun.0) (sym c.is_skipped.ensures ∙ c.if-is_skipped.false) begun.1.0) (stop.1 s.state begun.0 stands.bucket begun.1.1),
    )

pub returns-in-None-clause-ok : goal.returns-in-None-clause-ok
returns-in-None-clause-ok g c =
    on_ok_weaker c.take_outside.result (λ ends s stands.
    let kept : None ≡ c.args.self.now.batch = search rules in
    let none = none_begun s.batch (kept ∙ stands.batch) in
    rw (turn_counted c.args.form s c.args.line.now None (sym c.is_skipped.ensures ∙ c.if-is_skipped.false) none) (ends s.state stands.bucket c.take.ensures.after))
    c.take_outside.ensures.ok

pub returns-in-None-clause-write_fault : goal.returns-in-None-clause-write_fault
returns-in-None-clause-write_fault g c = λ fault.
    let stop = c.take_outside.ensures.write_fault fault in (
      stop.0,
      λ s stands.
          let kept : None ≡ c.args.self.now.batch = search rules in
          let none = none_begun s.batch (kept ∙ stands.batch) in
          rw (turn_counted c.args.form s c.args.line.now None (sym c.is_skipped.ensures ∙ c.if-is_skipped.false) none) (stop.1 s.state stands.bucket),
    )

pub returns-in-None-clause-memory : goal.returns-in-None-clause-memory
returns-in-None-clause-memory g c = λ fault s stands.
    let kept : None ≡ c.args.self.now.batch = search rules in
    let none = none_begun s.batch (kept ∙ stands.batch) in
    rw (turn_counted c.args.form s c.args.line.now None (sym c.is_skipped.ensures ∙ c.if-is_skipped.false) none) (c.take_outside.ensures.memory fault s.state stands.bucket)

pub returns-in-Some-clause-left : goal.returns-in-Some-clause-left
returns-in-Some-clause-left g c =
    on_err_weaker c.take_in_batch.result (λ leaves s stands.
    let kept : Some c.in-Some.begun ≡ c.args.self.now.batch = search rules in
    let begun = has_begun s.batch c.in-Some.begun (kept ∙ stands.batch) in
    rw (turn_counted c.args.form s c.args.line.now (Some begun.0) (sym c.is_skipped.ensures ∙ c.if-is_skipped.false) begun.1.0) (leaves s.state begun.0 stands.bucket begun.1.1))
    c.take_in_batch.ensures.left

pub returns-in-None-clause-left : goal.returns-in-None-clause-left
returns-in-None-clause-left g c =
    on_err_weaker c.take_outside.result (λ leaves s stands.
    let kept : None ≡ c.args.self.now.batch = search rules in
    let none = none_begun s.batch (kept ∙ stands.batch) in
    rw (turn_counted c.args.form s c.args.line.now None (sym c.is_skipped.ensures ∙ c.if-is_skipped.false) none) (leaves s.state stands.bucket))
    c.take_outside.ensures.left
