use Rattle.std.proofs.Common.{Some, sym, ap, ◌∙◌}
use Rattle.kv_store.proofs.Reading.{history_there}
use Rattle.kv_store.proofs.version.Version.history.Goals as goal

pub returns-in_ok-writes_at-in-Some : goal.returns-in_ok-writes_at-in-Some
returns-in_ok-writes_at-in-Some c = λ acts stands.
    history_there acts c.args.self.now c.args.key.now c.in-Some.revisions.now stands (sym c.in-Some.ensures)
    ∙ ap Some (sym c.in_ok-writes_at-in-Some.ensures)
