use Rattle.std.proofs.Common.{◌≡◌, ◌+◌, ◌++◌, ◌∷◌, [], refl, true, sym, subst, ◌∙◌}
use Rattle.kv_single.specs.Held.{Bucketed, Holding, Represents}
use Rattle.kv_model.specs.declared.call.Call.TheVariants.{Watch}
use Rattle.kv_model.specs.State.{after, has_room}
use Rattle.kv_single.proofs.Answering.{watch_done, opened_follows}
use Rattle.kv_single.proofs.bucket.Bucket.watch.Goals as goal

pub returns-clause-ok : goal.returns-clause-ok
returns-clause-ok c = rw (← c.self.view_is) (λ state r.
    let room : has_room state ≡ true = sym (c.has_room.ensures.room state (subst (Represents state) c.self.view_is r)) ∙ c.if-not-has_room.false in
    let follows = opened_follows state _ c.args.filters.now c.args.options c.in_ok-watch.watch r c.in_ok-watch.ensures.filters c.in_ok-watch.ensures.options c.in_ok-watch.ensures.handed in
    let was : Bucketed = record { version = c.self.inside.version; watches = c.self.inside.watches.items; opened = c.self.inside.opened } in
    let all = watch_done state was c.args.filters.now c.args.options _ r room refl follows in
    let held = subst (λ (h : Holding). Represents (after state (Watch c.args.filters.now c.args.options)) (record was { watches = was.watches ++ h ∷ []; opened = was.opened + 1 })) (sym c.new.ensures) all.1 in
    rw (c.in_ok-push.ensures.items) (all.0, held))
