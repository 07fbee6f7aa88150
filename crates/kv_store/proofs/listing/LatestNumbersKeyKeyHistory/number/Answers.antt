use Rattle.std.proofs.Common.{◌≡◌, cond, true, None, sym, ap, ◌∙◌}
use Rattle.std.specs.List.{last_or}
use Rattle.kv_model.proofs.Lasts.{last_get}
use Rattle.kv_store.proofs.listing.LatestNumbersKeyKeyHistory.number.Goals as goal

pub returns-then-wants : goal.returns-then-wants
returns-then-wants g c =
    let last : c.copied.result ≡ last_or None c.args.kept.now.revisions =
    c.copied.ensures ∙ c.last.ensures.value ∙ last_get c.revisions.result.now ∙ ap (last_or None) c.revisions.ensures in
    let asked : g.W.Wanted.wants_key c.args.self.now.wanted.now c.args.key.now ≡ true = sym c.wants.ensures ∙ c.if-wants.true in
    last ∙ ap (λ b. cond b (last_or None c.args.kept.now.revisions) None) (sym asked)
