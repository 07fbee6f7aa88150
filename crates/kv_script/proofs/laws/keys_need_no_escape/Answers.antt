use Rattle.kv_script.proofs.Escapes.{quoted_key}
use Rattle.kv_script.proofs.laws.keys_need_no_escape.Goals as goal

pub returns : goal.returns
returns c = quoted_key
