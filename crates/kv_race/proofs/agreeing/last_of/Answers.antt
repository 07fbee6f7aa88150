use Rattle.std.proofs.Common.{◌≡◌, ◌<◌, ◌==◌, false, arith, length, map, subst, sym, ◌∙◌}
use Rattle.std.proofs.lemmas.Bool.Decides.{nat_tests}
use Rattle.std.proofs.lemmas.Result.{IfOk-weaker}
use Rattle.kv_race.specs.Telling.{HasLast, IsShown}
use Rattle.kv_race.proofs.Ended.{agreed}
use Rattle.kv_race.proofs.agreeing.last_of.Goals as goal

pub returns-then-all_agree-clause-ok : goal.returns-then-all_agree-clause-ok
returns-then-all_agree-clause-ok g c =
    let config = g.N.LiveName.opening.config in
    let answers = map (λ some. some.items) c.args.answers.now in
    let first = c.index-ended-0.result in
    let some : (length c.args.ended.now == 0) ≡ false = sym c.is_empty.ensures ∙ c.if-is_empty.false in
    let there : 0 < length c.args.ended.now = grind (arith, nat_tests, some) in
    let shown = subst (λ (end : _). IsShown config answers end.reader.seen end.last) (sym c.index-ended-0.is) (c.requires 0 first there) in
    IfOk-weaker c.snapshot.result _ (HasLast config answers (map (λ end. end.reader.seen) c.args.ended.now))
    (λ version same. agreed config answers first.reader.seen (map (λ end. end.reader.seen) c.args.ended.now) first.last version shown same (c.all_agree.ensures c.if-all_agree.true))
    c.snapshot.ensures.ok
