use Rattle.std.proofs.lemmas.Result.{on_err_weaker, on_ok_weaker}
use Rattle.kv_replay.specs.Text.{steps, steps_text}
use Rattle.kv_script.specs.Commands.{meaning_of}
use Rattle.kv_replay.proofs.Lacking.{lacking, lacking-fault, lacking-ok, lacking-write, written-fault, written-memory}
use Rattle.kv_replay.proofs.Leaving.{command_left, made_left, only_takes}
use Rattle.kv_replay.proofs.Pours.{front_out, pours_on, pours_out, puts_waiting}
use Rattle.kv_replay.proofs.Progress.{err_of, on_err}
use Rattle.kv_replay.proofs.Taking.{early_front}
use Rattle.kv_replay.proofs.Texts.{steps_whole}
use Rattle.kv_replay.proofs.answer.pour_command.Goals as goal

pub returns-in_err-answer_command : goal.returns-in_err-answer_command
returns-in_err-answer_command g c =
    let ends = c.from_residual in
    let memory = lacking ends.result _ ends.ensures.0 ends.ensures.1 c.in_err-answer_command.ensures.memory in
    record {
      kept = c.in_err-answer_command.ensures.kept;
      same = g.met.K.Output.goes_on_itself _;
      ok = lacking-ok _ ends.result memory;
      write_fault = λ fault. lacking-write ends.result memory fault;
      memory = λ _ state stands.
          let early = c.in_err-answer_command.ensures.err state stands in
          front_out _ _ _ _ (early_front state (steps c.args.form state (meaning_of c.args.command.now)) _ _ _ (steps_whole c.args.form state (meaning_of c.args.command.now)) early);
      left = on_err ends.result (λ state stands. command_left state _ _ _ _ c.args.form (meaning_of c.args.command.now) (c.in_err-answer_command.ensures.err state stands));
      fault = lacking-fault ends.result memory;
    }

pub returns : goal.returns
returns g c = record {
  kept = c.in_ok-answer_command.ensures.kept;
  same = c.pour_many.ensures.same;
  ok = on_ok_weaker c.pour_many.result (λ pours state stands.
      let does = c.in_ok-answer_command.ensures.ok state stands in
      (pours_on _ _ _ _ _ _ _ (pours_out _ _ _ _ does.0) pours, does.1)) c.pour_many.ensures.ok;
  write_fault = λ fault. (
    err_of _ _ fault c.pour_many.ensures.failed,
    λ state stands. puts_waiting (steps_text (steps c.args.form state (meaning_of c.args.command.now))) _ _ _ c.args.out.now.items _ (pours_out _ _ _ _ (c.in_ok-answer_command.ensures.ok state stands).0) (err_of _ _ fault c.pour_many.ensures.err),
  );
  memory = λ fault. written-memory c.pour_many.result c.pour_many.ensures.fault fault;
  left = on_err c.pour_many.result (λ state stands. made_left state _ _ (c.in_ok-answer_command.ensures.ok state stands).1);
  fault = written-fault c.pour_many.result c.pour_many.ensures.fault;
}

pub returns-in-Take-clause-left : goal.returns-in-Take-clause-left
returns-in-Take-clause-left g c =
    rw c.in-Take.is (on_err_weaker c.pour_takes.result (λ acts state stands. only_takes c.args.form c.in-Take.watch c.in-Take.count state _ (acts state stands)) c.pour_takes.ensures.left)
