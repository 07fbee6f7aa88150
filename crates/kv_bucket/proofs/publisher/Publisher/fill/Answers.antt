use Rattle.std.proofs.Common.{rules, ◌≡◌, ◌≤◌, ◌++◌, ◌∷◌, [], length, subst, sym}
use Rattle.std.specs.Prelude.{All}
use Rattle.std.proofs.lemmas.List.Elements.{All-push}
use Rattle.kv_bucket.proofs.publisher.Publisher.fill.Goals as goal

pub loop-count-preserved : goal.loop-count-preserved
loop-count-preserved g c =
    let items : c.push.new.self.items ≡ c.loop-count.readers.items ++ c.in_ok-reader.reader ∷ [] = search rules in
    let within : length c.push.new.self.items ≤ c.args.count = search rules in (
      within,
      subst (All (λ r. (r.seen ≡ []) × (r.told ≡ c.args.self.now))) (sym items) (All-push (λ r. (r.seen ≡ []) × (r.told ≡ c.args.self.now)) c.loop-count.readers.items c.in_ok-reader.reader c.loop-count.invariant.1 (c.in_ok-reader.ensures.1, c.in_ok-reader.ensures.2)),
    )
