use Rattle.kv_durable_script.proofs.Called.{by_rules}
use Rattle.kv_durable_script.proofs.target.OnDurableTarget.compact.Goals as goal

pub returns-in-Err-clause-refused : goal.returns-in-Err-clause-refused
returns-in-Err-clause-refused g c = λ other state r.
    rw c.refusal_of.ensures (c.in-Err.ensures.refused _ (by_rules c.in-Err.error (rw c.refusal_of.ensures at other)) state r)
