use Rattle.kv_model.specs.State.{after}
use Rattle.kv_model.specs.declared.call.Call.TheVariants.{Stop}
use Rattle.kv_model.proofs.Others.{none_after_stop, stopped_now}
use Rattle.kv_model.proofs.laws.runs.tells_none_when_stopped.Goals as goal

pub returns : goal.returns
returns c = λ state number handed calls ended. (
    let at = stopped_now state number handed ended in
    none_after_stop (after state (Stop number)) number calls (at.0, at.1, at.2))
