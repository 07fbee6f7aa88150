use Rattle.kv_bucket.proofs.Follow.{run_hands_out}
use Rattle.kv_bucket.proofs.laws.feed_hands_out_in_order.Goals as goal

pub returns : goal.returns
returns c = run_hands_out
