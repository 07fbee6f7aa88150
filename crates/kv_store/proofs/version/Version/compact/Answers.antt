use Rattle.std.proofs.Common.{sym, ◌∙◌}
use Rattle.kv_store.proofs.Compacting.{stands_for_compact}
use Rattle.kv_store.proofs.version.Version.compact.Goals as goal

pub returns-clause-ok : goal.returns-clause-ok
returns-clause-ok c = λ acts s.
    let good = sym (c.is_bad_floor.ensures acts s) ∙ c.if-is_bad_floor.false in
    (good, stands_for_compact acts c.args.self.now c.in_ok-next.next c.args.floor s c.in_ok-next.ensures good)
