use Rattle.std.proofs.Common.{arith}
use Rattle.kv_durable.proofs.laws.few_are_loose.Goals as goal

pub returns : goal.returns
returns g c = λ state kept loose durable n at asked some.
    let few = at.keeps.few n asked some in
    omega (arith, few.0, few.1)
