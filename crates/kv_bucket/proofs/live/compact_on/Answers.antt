use Rattle.std.proofs.lemmas.Result.{IfErr-weaker}
use Rattle.kv_bucket.specs.Keeping.{UncompactedSomewhere}
use Rattle.kv_bucket.proofs.Somewhere.{compacts_somewhere, uncompacted_somewhere}
use Rattle.kv_bucket.proofs.live.compact_on.Goals as goal

pub returns-clause-ok : goal.returns-clause-ok
returns-clause-ok g c = compacts_somewhere g.N.LiveName.opening.config c.args.keeper.now c.args.floor c.compact.result c.compact.new.self c.bucket.ensures.state c.compact.ensures.ok

pub returns-clause-refused : goal.returns-clause-refused
returns-clause-refused g c =
    let config = g.N.LiveName.opening.config in
    IfErr-weaker c.compact.result _ (λ e. UncompactedSomewhere config c.args.floor e)
    (λ e h. uncompacted_somewhere config c.args.keeper.now c.args.floor e c.bucket.ensures.state h) c.compact.ensures.refused
