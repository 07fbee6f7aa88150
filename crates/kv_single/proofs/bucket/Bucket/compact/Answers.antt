use Rattle.std.proofs.Common.{◌∙◌, rules}
use Rattle.kv_model.proofs.Storing.{floor_of-compact}
use Rattle.kv_single.proofs.Least.{compact_done}
use Rattle.kv_single.proofs.bucket.Bucket.compact.Goals as goal

pub returns-clause-ok : goal.returns-clause-ok
returns-clause-ok c = rw (← c.self.view_is) (λ state r.
    let floor = c.args.floor in
    let made = c.in_ok-compact_in_place.ensures.ok state.acts r.version in
    compact_done state _ floor c.compact_in_place.new.self r (c.in_ok-may_compact.ensures.ok state (rw (← c.self.view_is) r)) c.in_ok-compact_in_place.ensures.config made.1 (made.1.floor ∙ floor_of-compact state.acts floor))

pub returns-in_err-compact_in_place-clause-refused : goal.returns-in_err-compact_in_place-clause-refused
returns-in_err-compact_in_place-clause-refused c = search rules
