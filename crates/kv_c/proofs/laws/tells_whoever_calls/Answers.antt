use Rattle.kv_c.proofs.Whoever.{calls_tell, calls_tell_held}
use Rattle.kv_c.proofs.laws.tells_whoever_calls.Goals as goal

pub returns-clause-opened : goal.returns-clause-opened
returns-clause-opened c = calls_tell

pub returns-clause-held : goal.returns-clause-held
returns-clause-held c = calls_tell_held
