use Rattle.std.proofs.Common.{◌≡◌, ℕ, ◌<◌, List, length, take, ◌-◌, sym, ap, ◌∙◌, arith}
use Rattle.std.specs.Global.{Vec}
use Rattle.kv_file.proofs.Added.{when_err}
use Rattle.kv_file.proofs.Cutting.{as_it_was, cut_is}
use Rattle.kv_file.proofs.memory.MemoryFileJournalFile.cut.Goals as goal

abbrev items : Vec ℕ → List ℕ
items v = v.items

pub returns-then-is_over-clause-err : goal.returns-then-is_over-clause-err
returns-then-is_over-clause-err c =
    when_err c.fail.result
    (λ _ k l h. as_it_was c.args.len k l c.args.self.now.kept.items c.args.self.now.loose.items c.fail.new.self.kept.items c.fail.new.self.loose.items
    (ap items (c.fail.ensures.kept ∙ c.is_over.ensures.kept)) (ap items (c.fail.ensures.loose ∙ c.is_over.ensures.loose)) h)

pub returns-in-Err-clause-err : goal.returns-in-Err-clause-err
returns-in-Err-clause-err c =
    when_err c.fail-in-Err.result
    (λ _ k l h. as_it_was c.args.len k l c.args.self.now.kept.items c.args.self.now.loose.items c.fail-in-Err.new.self.kept.items c.fail-in-Err.new.self.loose.items
    (ap items c.fail-in-Err.ensures.kept ∙ c.in-Err.ensures.items ∙ ap items c.is_over.ensures.kept) (ap items (c.fail-in-Err.ensures.loose ∙ c.is_over.ensures.loose)) h)

pub returns-clause-ok : goal.returns-clause-ok
returns-clause-ok c = λ _ k l h.
    let kept = c.is_over.new.self.kept.items in
    let loose = c.is_over.new.self.loose.items in
    let long : length kept < c.args.len = omega (arith, c.if-len.false, c.len.ensures) in
    let same : c.len-2.result ≡ length kept = omega (arith, c.len-2.ensures) in
    let more = c.front-more.ensures ∙ ap (λ (xs : List ℕ). take (c.args.len - c.len-2.result) xs) c.deref.ensures.value ∙ ap (λ (n : ℕ). take (c.args.len - n) loose) same in (
      cut_is c.args.len k l kept loose c.front-more.result.now c.extend_from_slice.new.self.items long more c.in-Ok.ensures.items
          (h.0 ∙ sym (ap items c.is_over.ensures.kept), h.1 ∙ sym (ap items c.is_over.ensures.loose)),
      sym c.clear-2.ensures.items,
    )
