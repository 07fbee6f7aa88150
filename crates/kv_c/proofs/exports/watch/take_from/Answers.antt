use Rattle.std.proofs.Common.{refl}
use Rattle.kv_c.proofs.exports.watch.take_from.Goals as goal

pub returns-else-done-eq0-clause-refused : goal.returns-else-done-eq0-clause-refused
returns-else-done-eq0-clause-refused c = λ other. refl
