use Rattle.kv_store.proofs.Asking.{filter_asks}
use Rattle.kv_store.proofs.wanted.FilterWanted.literals.Goals as goal

pub returns-clause-asked : goal.returns-clause-asked
returns-clause-asked c = filter_asks c.in_ok-literals.field-0 c.as_str.result.now c.args.self.now c.as_str.ensures.value c.as_str.ensures.filter c.in_ok-literals.ensures
