use Rattle.std.proofs.Common.{ℕ, ◌≤◌, List, length, sym, ap, ◌∙◌, arith}
use Rattle.std.proofs.lemmas.List.{take_all}
use Rattle.std.proofs.lemmas.Result.{IfOk-weaker}
use Rattle.kv_model.specs.Retained.{writes_of_key, since_purge, last_n, revisions}
use Rattle.kv_watch.specs.inside.Listing.{revisions_after}
use Rattle.kv_watch.specs.inside.Showing.{wrote_all}
use Rattle.kv_model.proofs.Keeping.{revisions-last_n}
use Rattle.kv_watch.proofs.SlowSteps.{revisions_more}
use Rattle.kv_watch.proofs.audit.kept_revisions.Goals as goal

pub loop-write-preserved : goal.loop-write-preserved
loop-write-preserved c =
    let key = c.args.key.now in let w = c.write-item.result in
    c.in_ok-push_revision.ensures ∙ ap (λ (rs : List ℕ). revisions_after rs key w.now) c.loop-write.invariant
    ∙ sym (revisions_more key c.args.writes.now c.loop-write.write-index w c.loop-write-test.true c.write-item.is)

pub returns : goal.returns
returns c =
    let key = c.args.key.now in let writes = c.args.writes.now in
    let ended : length writes ≤ c.loop-write.write-index = omega (arith, c.loop-write-test.false) in
    let all = ap (λ ws. revisions (since_purge (writes_of_key key (wrote_all ws)))) (take_all c.loop-write.write-index writes ended) in
    IfOk-weaker c.last_n.result _ _ (λ found h. h ∙ ap (last_n c.args.history) (c.deref.ensures.value ∙ c.loop-write.invariant ∙ all) ∙ sym (revisions-last_n c.args.history (since_purge (writes_of_key key (wrote_all writes))))) c.last_n.ensures
