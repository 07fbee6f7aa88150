use Rattle.std.proofs.Common.{subst}
use Rattle.std.specs.Prelude.{IfSome}
use Rattle.kv_keys.specs.Matching.{any_matches}
use Rattle.kv_store.specs.Asked.{AreAsked}
use Rattle.kv_store.proofs.wanted.FiltersWanted.literals.Goals as goal

pub returns-clause-asked : goal.returns-clause-asked
returns-clause-asked c =
    subst (λ fs. IfSome c.in_ok-literals.field-0 (λ keys. AreAsked (any_matches fs) keys.items)) c.as_str.ensures.parts c.in_ok-literals.ensures
