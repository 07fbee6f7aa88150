use Rattle.std.proofs.Common.{reverse, ap, ◌∙◌}
use Rattle.std.proofs.lemmas.List.{reverse-reverse}
use Rattle.kv_watch.proofs.opening.owed_at_opening.Goals as goal

pub returns : goal.returns
returns c = λ acts s. ap reverse c.reverse.ensures.items ∙ reverse-reverse c.in_ok-owed.owed.items ∙ c.in_ok-owed.ensures acts s
