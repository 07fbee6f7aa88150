use Rattle.std.proofs.Common.{arith, rules}
use Rattle.std.proofs.lemmas.Grind.{common_steps}
use Rattle.base64.specs.GeneralPurpose.{decoded_of}
use Rattle.kv_script.proofs.parsing.values.decoded.Goals as goal

pub returns-in-Ok : goal.returns-in-Ok
unfolding decoded_of
returns-in-Ok c = rw (rw c.as_bytes.ensures.value at c.in-Ok.ensures.ok) (grind (arith, common_steps))

pub returns-in-Ok-2 : goal.returns-in-Ok-2
unfolding decoded_of
returns-in-Ok-2 c = rw (rw c.as_bytes.ensures.value at c.in-Ok.ensures.ok) (grind (arith, common_steps))

pub returns-in-Err-DecodeError : goal.returns-in-Err-DecodeError
unfolding decoded_of
returns-in-Err-DecodeError c = search rules
