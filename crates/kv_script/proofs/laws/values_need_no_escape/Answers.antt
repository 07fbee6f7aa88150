use Rattle.kv_script.proofs.Escapes.{quoted_value}
use Rattle.kv_script.proofs.laws.values_need_no_escape.Goals as goal

pub returns : goal.returns
returns c = quoted_value
