use Rattle.std.proofs.Common.{sym, vec_len, ◌∙◌}
use Rattle.std.specs.Vec.Iter.{into_iter_items}
use Rattle.kv_race.proofs.Zips.{zip_step}
use Rattle.kv_race.proofs.racing.end_watches.Goals as goal

pub loop-one-preserved : goal.loop-one-preserved
loop-one-preserved g c =
    let before = c.loop-one.all in
    let after = c.push.new.self in
    let step = zip_step _ c.args.watched.items before.items after.items (vec_len before) (vec_len after) c.in-Some.one (into_iter_items c.next.new.self) c.in_ok-end_watch.field-0
    (sym c.loop-one.invariant.rest ∙ c.in-Some.ensures.steps.0) c.in_ok-push.ensures.len c.in_ok-push.ensures.items c.loop-one.invariant.ended c.in_ok-end_watch.ensures.ok in record {
      ended = step.0;
      rest = step.1;
    }
