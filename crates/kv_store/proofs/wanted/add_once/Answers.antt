use Rattle.std.proofs.Common.{◌≡◌, cond, true, false, [], ◌∷◌, ◌++◌, ap, ◌∙◌}
use Rattle.std.specs.List.{list_any}
use Rattle.std.specs.Str.{bytes_eq}
use Rattle.kv_store.proofs.wanted.add_once.Goals as goal

pub returns-in_ok-push : goal.returns-in_ok-push
returns-in_ok-push c =
    let keys = c.args.keys.now.items in
    let new : false ≡ list_any (λ k. bytes_eq k c.args.key) keys = cc in
    c.in_ok-push.ensures.items ∙ ap (λ b. cond b keys (keys ++ c.args.key ∷ [])) new

pub returns-else-not-contains : goal.returns-else-not-contains
returns-else-not-contains c =
    let keys = c.args.keys.now.items in
    let there : true ≡ list_any (λ k. bytes_eq k c.args.key) keys = cc in
    ap (λ b. cond b keys (keys ++ c.args.key ∷ [])) there
