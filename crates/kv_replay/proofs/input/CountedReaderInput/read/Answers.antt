use Rattle.std.proofs.Common.{arith}
use Rattle.kv_replay.proofs.input.CountedReaderInput.read.Goals as goal

pub returns-in-Ok-clause-unfailed : goal.returns-in-Ok-clause-unfailed
returns-in-Ok-clause-unfailed g c = omega arith
