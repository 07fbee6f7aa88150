use Rattle.kv_c.proofs.Refused.{not_gathered}
use Rattle.kv_c.proofs.laws.refuses_what_is_not_gathered.Goals as goal

pub returns : goal.returns
returns c = not_gathered
