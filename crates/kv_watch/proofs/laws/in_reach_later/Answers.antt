use Rattle.kv_watch.proofs.Reaching.{in_reach_later as lemma}
use Rattle.kv_watch.proofs.laws.in_reach_later.Goals as goal

pub returns : goal.returns
returns c = lemma
