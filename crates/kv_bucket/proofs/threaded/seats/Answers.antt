use Rattle.std.proofs.Common.{rules, ◌≡◌, [], length, subst}
use Rattle.std.specs.Prelude.{All}
use Rattle.std.specs.Vec.Iter.{into_iter_items}
use Rattle.std.proofs.lemmas.List.Elements.{All-head, All-rest}
use Rattle.kv_bucket.proofs.Numbers.{numbered_more, moves_one}
use Rattle.kv_bucket.proofs.threaded.seats.Goals as goal

pub invariant_of-push : goal.invariant_of-push
invariant_of-push g c = record {
  fresh = All-head (λ r. (r.seen ≡ []) × (r.told ≡ [])) c.in-Some.reader (into_iter_items c.next.new.self) (subst (All (λ r. (r.seen ≡ []) × (r.told ≡ []))) c.in-Some.ensures.steps.0 c.loop-reader.invariant.1);
}

pub loop-reader-preserved : goal.loop-reader-preserved
loop-reader-preserved g c =
    let items = c.in_ok-push.ensures.items in
    let at : c.len-number.result ≡ length c.loop-reader.seats.items = search rules in (
      numbered_more (λ seat. seat.number) c.loop-reader.seats.items c.push.new.self.items _ items at c.loop-reader.invariant.0,
      All-rest (λ r. (r.seen ≡ []) × (r.told ≡ [])) c.in-Some.reader (into_iter_items c.next.new.self) _ c.in-Some.ensures.steps.0 c.loop-reader.invariant.1,
      moves_one c.loop-reader.seats.items c.push.new.self.items _ _ (into_iter_items c.next.new.self) _ _ items c.in-Some.ensures.steps.0 c.loop-reader.invariant.2,
    )
