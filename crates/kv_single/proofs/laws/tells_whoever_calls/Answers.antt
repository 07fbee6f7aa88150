use Rattle.kv_single.proofs.Whoever.{steps_tell, steps_tell_held, steps_are}
use Rattle.kv_single.proofs.laws.tells_whoever_calls.Goals as goal

pub returns-clause-opened : goal.returns-clause-opened
returns-clause-opened c = steps_tell

pub returns-clause-held : goal.returns-clause-held
returns-clause-held c = steps_tell_held

pub returns-clause-after : goal.returns-clause-after
returns-clause-after c = λ old new told state steps r. (steps_are old new told steps state r).1
