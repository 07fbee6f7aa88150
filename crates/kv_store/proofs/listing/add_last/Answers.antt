use Rattle.std.proofs.Common.{◌≡◌, [], ◌∷◌, ◌++◌, Some, None, map, sym, ap, ◌∙◌}
use Rattle.std.specs.List.{last_or}
use Rattle.std.specs.Option.{option_to_list}
use Rattle.std.proofs.lemmas.List.{map-append}
use Rattle.kv_trie.specs.Numbered.{lent}
use Rattle.kv_model.proofs.Lasts.{last_get}
use Rattle.kv_store.proofs.listing.add_last.Goals as goal

pub returns-in_ok-push : goal.returns-in_ok-push
returns-in_ok-push c =
    let last : last_or None c.args.kept.now.revisions ≡ Some c.in-Some.revision.now =
    ap (last_or None) (sym c.revisions.ensures) ∙ sym (last_get c.revisions.result.now) ∙ sym c.in-Some.ensures.value in
    ap lent c.in_ok-push.ensures.items
    ∙ map-append (λ f. (f.0, f.1.now)) c.args.found.now.items ((c.in-Some.revision.now, c.args.kept) ∷ [])
    ∙ ap (λ o. lent c.args.found.now.items ++ map (λ r. (r, c.args.kept.now)) (option_to_list o)) (sym last)
