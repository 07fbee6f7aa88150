use Rattle.std.proofs.Common.{inr}
use Rattle.std.proofs.lemmas.Result.{on_ok_weaker}
use Rattle.kv_run.proofs.telling.tell_damage.Goals as goal

pub returns-in-Err-clause-told : goal.returns-in-Err-clause-told
returns-in-Err-clause-told g c = on_ok_weaker c.write-in-Err.result (λ all. inr all) c.write-in-Err.ensures.ok
