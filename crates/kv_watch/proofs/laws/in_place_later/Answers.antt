use Rattle.kv_watch.proofs.Opened.{in_place_later as lemma}
use Rattle.kv_watch.proofs.laws.in_place_later.Goals as goal

pub returns : goal.returns
returns c = lemma
