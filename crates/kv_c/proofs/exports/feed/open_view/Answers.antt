use Rattle.std.proofs.Common.{arith}
use Rattle.kv_c.proofs.exports.feed.open_view.Goals as goal

pub returns-then-is_open-clause-code : goal.returns-then-is_open-clause-code
returns-then-is_open-clause-code c = grind arith

pub returns-in-Ok-clause-open_already : goal.returns-in-Ok-clause-open_already
returns-in-Ok-clause-open_already c = grind arith

pub returns-in-Err-clause-open_already : goal.returns-in-Err-clause-open_already
returns-in-Err-clause-open_already c = grind arith
