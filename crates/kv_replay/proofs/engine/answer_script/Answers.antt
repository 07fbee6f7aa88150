use Rattle.std.proofs.Common.{◌≡◌, sym, subst}
use Rattle.std.proofs.lemmas.Result.{on_ok_weaker}
use Rattle.kv_keys.specs.declared.error.KvError.TheVariants.{OutOfMemory}
use Rattle.kv_replay.specs.Faults.{IsRunFault}
use Rattle.kv_replay.proofs.LeavingRuns.{left_at_once}
use Rattle.kv_replay.proofs.Ending.{handed_on, nothing_done_from}
use Rattle.kv_replay.proofs.engine.answer_script.Goals as goal

pub returns-in_err-buffer-clause-ran : goal.returns-in_err-buffer-clause-ran
returns-in_err-buffer-clause-ran g c = λ session holding.
    let memory : c.in_err-buffer.field-0.0 ≡ OutOfMemory = c.in_err-buffer.ensures.err in
    nothing_done_from c.args.form session _ _ c.from_residual.result c.from_residual.ensures.0
    (handed_on c.from_residual.result _ IsRunFault c.from_residual.ensures.1 (subst IsRunFault (sym memory) tt))

pub returns-clause-ran : goal.returns-clause-ran
returns-clause-ran g c = λ session holding. record {
  ok = on_ok_weaker c.answer_lines.result (λ all. all session holding) c.answer_lines.ensures.ok;
  read_fault = λ is. (c.answer_lines.ensures.read_fault is).1 session holding;
  write_fault = λ is. (c.answer_lines.ensures.write_fault is).1 session holding;
  memory = λ is. c.answer_lines.ensures.memory is session holding;
  fault = c.answer_lines.ensures.fault;
}

pub returns-clause-stands : goal.returns-clause-stands
returns-clause-stands g c = c.answer_lines.ensures.stands

pub returns-in_err-buffer-clause-left : goal.returns-in_err-buffer-clause-left
returns-in_err-buffer-clause-left g c = λ session holding. left_at_once c.args.form session _ _ _ holding.session.bucket
