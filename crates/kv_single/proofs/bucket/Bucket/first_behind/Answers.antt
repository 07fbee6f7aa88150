use Rattle.std.proofs.Common.{◌≤◌, None, length, ap, ◌∙◌, arith}
use Rattle.std.specs.Prelude.{List}
use Rattle.std.proofs.lemmas.List.{take_all}
use Rattle.kv_single.specs.Held.{Holding}
use Rattle.kv_single.specs.inside.Behind.{behind_at, least_from, lesser}
use Rattle.std.proofs.Common.{cond, Some}
use Rattle.kv_single.proofs.Least.{first_is_least, first_more, numbers}
use Rattle.kv_single.proofs.bucket.Bucket.first_behind.Goals as goal

pub loop-held-preserved : goal.loop-held-preserved
loop-held-preserved c = (
  c.loop-held.invariant.0,
  λ state r.
      let held = c.held-item.result in
      let test = behind_at c.args.floor state in
      let number = c.number.ensures in
      first_more test c.deref-held-items.result.now c.loop-held.held-index held c.loop-held.first c.least_behind-first.result c.loop-held-test.true c.held-item.is
      (c.loop-held.invariant.1 state r)
      (c.least_behind-first.ensures state r ∙ ap (λ n. cond (test n) (Some (lesser c.loop-held.first n)) c.loop-held.first) number),
)

pub returns : goal.returns
returns c = λ state r.
    let items = c.deref-held-items.result.now in
    let ended : length items ≤ c.loop-held.held-index = omega (arith, c.loop-held-test.false) in
    c.loop-held.invariant.1 state r
    ∙ ap (λ (held : List Holding). least_from (behind_at c.args.floor state) None (numbers held)) (take_all c.loop-held.held-index items ended ∙ c.loop-held.invariant.0)
    ∙ first_is_least c.args.floor state c.args.self.now r
