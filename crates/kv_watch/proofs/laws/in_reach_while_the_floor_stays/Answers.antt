use Rattle.kv_watch.proofs.Reaching.{in_reach_while as lemma}
use Rattle.kv_watch.proofs.laws.in_reach_while_the_floor_stays.Goals as goal

pub returns : goal.returns
returns c = lemma
