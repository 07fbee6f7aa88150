use Rattle.kv_model.proofs.Few.{numbers_rise}
use Rattle.kv_model.proofs.laws.runs.numbers_rise.Goals as goal

pub returns : goal.returns
returns c = numbers_rise
