use Rattle.std.proofs.Common.{◌≡◌, ℕ, List, drop, take, sym, subst, inl, inr, ap, length, arith, length-take}
use Rattle.std.proofs.lemmas.Bool.{cases_lt}
use Rattle.std.proofs.lemmas.List.{length-drop}
use Rattle.kv_journal.specs.Damage.{IsOnDiskBy, longest_frame}
use Rattle.kv_journal.proofs.damage.is_shown_near.Goals as goal

pub loop-n-preserved : goal.loop-n-preserved
loop-n-preserved c = λ k some below payload rest on.
    elim (cases_lt k c.loop-n.n) [
      | inl before ↦ c.loop-n.invariant k some before payload rest on
      | inr not_before ↦
          let same : k ≡ c.loop-n.n = omega (arith, not_before, below) in
          let here = subst (λ (j : ℕ). IsOnDiskBy c.args.framing.now.seed c.args.at c.args.bytes.now (take longest_frame (drop j c.args.bytes.now)) j payload rest) same on.1 in
          c.is_on_disk_by.ensures.no c.if-is_on_disk_by.false payload rest
          (subst (λ (seen : List ℕ). IsOnDiskBy c.args.framing.now.seed c.args.at c.args.bytes.now seen c.loop-n.n payload rest) (sym c.window.ensures) here)
    ]

pub returns-clause-no : goal.returns-clause-no
returns-clause-no c = λ _ n payload rest on. c.loop-n.invariant n on.1.behind (omega (arith, on.0, on.1.within, c.loop-n-test.false)) payload rest on

pub is_on_disk_by-requires-clause-short : goal.is_on_disk_by-requires-clause-short
is_on_disk_by-requires-clause-short c =
    let rest = drop c.loop-n.n c.args.bytes.now in
    omega (arith, ap (λ (xs : List ℕ). length xs) c.window.ensures, length-take longest_frame rest, length-drop c.loop-n.n c.args.bytes.now, c.loop-n-test.true)
