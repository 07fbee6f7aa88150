use Rattle.std.proofs.Common.{List, length, map, refl, subst, sym, Some, [], ◌∷◌, ◌≡◌}
use Rattle.kv_c.specs.Batching.{IsRefusedWith}
use Rattle.kv_model.specs.Requests.{asked}
use Rattle.kv_model.specs.declared.request.Request.{Request}
use Rattle.kv_c.proofs.exports.batch.make_all.Goals as goal

none_long : (xs : List Request) → length xs ≡ 0 → xs ≡ []
none_long [] e = refl
none_long (x ∷ xs) e = absurd cc

pub returns-in-None-clause-why : goal.returns-in-None-clause-why
returns-in-None-clause-why c = λ refused _ _ state stands.
    let none : c.args.requests.now ≡ [] = none_long c.args.requests.now c.in-None.ensures.cases in
    subst (λ (rs : List Request). IsRefusedWith state (Some (map asked rs)) c.write_none.result c.write_none.new.at c.write_none.new.revision) (sym none) (c.write_none.ensures.why refused state stands)
