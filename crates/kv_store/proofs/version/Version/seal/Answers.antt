use Rattle.std.proofs.Common.{rules, ◌++◌, ◌∷◌, [], sym, subst}
use Rattle.kv_model.specs.Acts.{Seal}
use Rattle.kv_store.specs.Standing.{StandsFor}
use Rattle.kv_store.proofs.Standings.{stands_for_seal}
use Rattle.kv_store.proofs.version.Version.seal.Goals as goal

pub returns-clause-ok : goal.returns-clause-ok
returns-clause-ok c = search rules

pub returns-clause-stands : goal.returns-clause-stands
returns-clause-stands c =
    let before = c.args.self.now in
    λ acts s. subst (StandsFor (acts ++ Seal ∷ [])) (sym (returns-clause-ok c)) (stands_for_seal acts before s)
