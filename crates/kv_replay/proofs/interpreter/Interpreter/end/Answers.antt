use Rattle.std.proofs.Common.{◌≡◌, Some, None, rules, ◌∙◌}
use Rattle.std.proofs.lemmas.Result.{on_ok_weaker}
use Rattle.kv_replay.proofs.Pours.{pours_none}
use Rattle.kv_replay.proofs.Standing.{end_missing, end_none, has_begun, missing_line, none_begun, stays}
use Rattle.kv_replay.proofs.interpreter.Interpreter.end.Goals as goal

pub returns-in-Some-clause-ok : goal.returns-in-Some-clause-ok
returns-in-Some-clause-ok g c =
    on_ok_weaker c.pour_batch.result (λ ends s stands.
    let kept : Some c.in-Some.begun ≡ c.args.self.now.batch = search rules in
    let begun = has_begun s.batch c.in-Some.begun (kept ∙ stands.batch) in
    rw (end_missing s begun.0 begun.1.0)
    (rw (missing_line begun.0 c.in-Some.begun _ begun.1.1 c.refuse.ensures) at (ends s.state stands.bucket).0))
    c.pour_batch.ensures.ok

pub returns-in-Some-clause-write_fault : goal.returns-in-Some-clause-write_fault
returns-in-Some-clause-write_fault g c = λ fault.
    let stop = c.pour_batch.ensures.write_fault fault in (
      stop.0,
      λ s stands.
          let kept : Some c.in-Some.begun ≡ c.args.self.now.batch = search rules in
          let begun = has_begun s.batch c.in-Some.begun (kept ∙ stands.batch) in
          rw (end_missing s begun.0 begun.1.0)
          (rw (missing_line begun.0 c.in-Some.begun _ begun.1.1 c.refuse.ensures) at (stop.1 s.state stands.bucket)),
    )

pub returns-in-None-clause-ok : goal.returns-in-None-clause-ok
returns-in-None-clause-ok g c = λ s stands.
    let kept : None ≡ c.args.self.now.batch = search rules in
    rw (end_none s (none_begun s.batch (kept ∙ stands.batch))) (pours_none _ _)

pub returns-in-Some-clause-stands : goal.returns-in-Some-clause-stands
returns-in-Some-clause-stands g c =
    on_ok_weaker c.pour_batch.result (λ ends s stands.
    let kept : Some c.in-Some.begun ≡ c.args.self.now.batch = search rules in
    let begun = has_begun s.batch c.in-Some.begun (kept ∙ stands.batch) in
    stays s.state begun.0 _ _ (missing_line begun.0 c.in-Some.begun _ begun.1.1 c.refuse.ensures) (ends s.state stands.bucket).1)
    c.pour_batch.ensures.ok

pub returns-in-None-clause-stands : goal.returns-in-None-clause-stands
returns-in-None-clause-stands g c = λ s stands. stands.bucket
