use Rattle.kv_model.proofs.Others.{leaves_run}
use Rattle.kv_model.proofs.laws.runs.watches_go_on.Goals as goal

pub returns : goal.returns
returns c = λ state calls number watch here. leaves_run state number watch calls here
