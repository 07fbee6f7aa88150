use Rattle.kv_watch.proofs.Reaching.{ahead_goes_on as lemma}
use Rattle.kv_watch.proofs.laws.ahead_goes_on.Goals as goal

pub returns : goal.returns
returns c = lemma
