use Rattle.kv_bucket.proofs.Owing.{told_once}
use Rattle.kv_bucket.proofs.laws.told_write_is_handed_out_once.Goals as goal

pub returns : goal.returns
returns c = told_once
