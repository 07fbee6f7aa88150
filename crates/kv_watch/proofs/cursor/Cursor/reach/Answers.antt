use Rattle.std.proofs.Common.{◌≡◌, ◌-◌, length, min, sym, ap, ◌∙◌}
use Rattle.std.specs.Prelude.{nat_lt}
use Rattle.kv_model.specs.Acts.{writes_of}
use Rattle.kv_watch.proofs.Reaching.{reach_none, reach_some}
use Rattle.kv_watch.proofs.cursor.Cursor.reach.Goals as goal

pub returns-in-Some-clause-reach : goal.returns-in-Some-clause-reach
returns-in-Some-clause-reach c = rw (← c.self.view_is) (λ n began acts base at.
    let less : c.saturating_sub.result ≡ c.in-Some.write.now.revision - 1 = c.saturating_sub.ensures ∙ ap (λ r. r - 1) c.revision.ensures in
    let reach : c.min.result ≡ min (c.in-Some.write.now.revision - 1) (length (writes_of acts)) =
    c.min.ensures ∙ ap (λ r. min r c.revision-in-Some.result) less ∙ ap (min (c.in-Some.write.now.revision - 1)) (c.revision-in-Some.ensures.acts acts at.place.now_stands) in
    reach_some n began acts base c.args.now.now _ c.in-Some.write.now at (c.in-Some.ensures.first acts at.place.now_stands) c.min.result reach)

pub returns-in-None-clause-reach : goal.returns-in-None-clause-reach
returns-in-None-clause-reach c = rw (← c.self.view_is) (λ n began acts base at floor l.
    reach_none n began acts base c.args.now.now _ at (c.in-None.ensures.first acts at.place.now_stands) floor l
    ∙ ap (λ last. nat_lt last floor) (sym (c.revision-in-None.ensures.acts acts at.place.now_stands)))
