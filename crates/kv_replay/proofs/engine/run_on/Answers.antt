use Rattle.std.proofs.Common.{refl}
use Rattle.std.proofs.lemmas.Result.{on_ok_weaker}
use Rattle.kv_replay.specs.Sessions.{outside}
use Rattle.kv_replay.specs.inside.Reading.{beginning}
use Rattle.kv_replay.specs.inside.Scripted.{Holds, scripted}
use Rattle.kv_replay.proofs.engine.run_on.Goals as goal

pub returns-clause-ran : goal.returns-clause-ran
returns-clause-ran g c = λ state stands.
    let holding : Holds (beginning (outside state)) (scripted g.T.Target.bucket c.new-script.result) = record {
      session = rw c.new-script.ensures.session (record {
        bucket = rw c.new.ensures.target stands;
        batch = rw c.new.ensures.batch refl;
      });
      line = c.new-script.ensures.line;
    } in
    c.answer_script-result.ensures.ran (outside state) holding

pub returns-clause-stands : goal.returns-clause-stands
returns-clause-stands g c = on_ok_weaker c.answer_script-result.result (λ all state stands.
    let holding : Holds (beginning (outside state)) (scripted g.T.Target.bucket c.new-script.result) = record {
      session = rw c.new-script.ensures.session (record {
        bucket = rw c.new.ensures.target stands;
        batch = rw c.new.ensures.batch refl;
      });
      line = c.new-script.ensures.line;
    } in
    rw c.into_target.ensures (all (outside state) holding)) c.answer_script-result.ensures.stands
