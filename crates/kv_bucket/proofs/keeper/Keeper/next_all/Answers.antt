use Rattle.std.proofs.Common.{length, refl}
use Rattle.kv_keys.specs.declared.error.KvError.TheVariants.{OutOfMemory}
use Rattle.kv_bucket.proofs.Batching.{batch_made, memory_refused, told_at}
use Rattle.kv_bucket.proofs.keeper.Keeper.next_all.Goals as goal

pub returns-in-Ok : goal.returns-in-Ok
returns-in-Ok g c =
    let made =
    batch_made g.N.LiveName.opening.config c.self.inside.bucket c.self.inside.publisher c.args.requests.now c.args.first.now c.args.rest.now c.in_ok-next.next c.in_ok-next.revision c.self.invariant.0 c.version-version.result.now c.version-version.ensures.value c.requires c.in_ok-next.ensures.config c.in_ok-next.ensures.ok c.in_ok-next.ensures.first c.in_ok-next.ensures.each
    c.args.self.now c.self.view_is c.in_ok-next.ensures.small c.in-Ok.prepared c.in-Ok.ensures.ok in
    record { ok = made.0.0; published = made.0.1; next = made.1.0; batch = made.1.1; refused = tt }

pub returns-in-Err-clause-refused : goal.returns-in-Err-clause-refused
returns-in-Err-clause-refused g c =
    memory_refused g.N.LiveName.opening.config c.self.inside.bucket c.self.inside.publisher c.args.requests.now c.args.first.now c.args.rest.now c.in_ok-next.next c.in_ok-next.revision c.self.invariant.0 c.version-version.result.now c.version-version.ensures.value c.requires c.in_ok-next.ensures.config c.in_ok-next.ensures.ok c.in_ok-next.ensures.first c.in_ok-next.ensures.each
    c.args.self.now (record { at = length c.args.rest.now; error = c.in-Err.error }) c.self.view_is (told_at (record { at = length c.args.rest.now; error = c.in-Err.error }) (length c.args.rest.now) OutOfMemory refl c.in-Err.ensures.err)
