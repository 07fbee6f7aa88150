use Rattle.std.proofs.Common.{Some, None, sym, subst, ◌∙◌}
use Rattle.kv_single.specs.Held.{Represents}
use Rattle.kv_single.proofs.Least.{may_is}
use Rattle.kv_single.proofs.bucket.Bucket.may_compact.Goals as goal

pub returns-in-Some-clause-refused : goal.returns-in-Some-clause-refused
returns-in-Some-clause-refused c = λ state r.
    let inside = subst (Represents state) (sym c.self.view_is) r in
    may_is c.args.floor state (Some c.in-Some.watch) (sym (c.is_bad_floor.ensures state.acts inside.version) ∙ c.if-is_bad_floor.false) (sym (c.in-Some.ensures state r))

pub returns-in-None-clause-ok : goal.returns-in-None-clause-ok
returns-in-None-clause-ok c = λ state r.
    let inside = subst (Represents state) (sym c.self.view_is) r in
    may_is c.args.floor state None (sym (c.is_bad_floor.ensures state.acts inside.version) ∙ c.if-is_bad_floor.false) (sym (c.in-None.ensures state r))
