use Rattle.kv_bucket.proofs.Owing.{reached}
use Rattle.kv_bucket.proofs.laws.learned_is_reached.Goals as goal

pub returns : goal.returns
returns c = reached
