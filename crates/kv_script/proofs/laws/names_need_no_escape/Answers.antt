use Rattle.kv_script.proofs.Escapes.{quoted_name}
use Rattle.kv_script.proofs.laws.names_need_no_escape.Goals as goal

pub returns : goal.returns
returns c = quoted_name
