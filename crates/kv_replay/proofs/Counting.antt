-- How often a reader was asked.
use Rattle.std.proofs.Common.{◌≡◌, ◌+◌, ◌⊎◌, ℕ, inl, inr, arith, subst}
use Rattle.kv_replay.specs.Bounds.{Counts}

-- one that has no call left was asked exactly so often, unless it failed
pub asked_so_often : {Input : Type 0} (Failed : Input → Type 0) (asked : Input → ℕ) (before calls left : ℕ) (last now : Input) → last ≡ now
    → Failed last ⊎ (left ≡ 0) → Counts (Failed last) (before + calls) (asked last + left) → Failed now ⊎ (asked now ≡ before + calls)
asked_so_often Failed asked before calls left last now same fault counts = subst (λ r. Failed r ⊎ (asked r ≡ before + calls)) same (elim fault [
  | inl failed ↦ inl failed
  | inr none ↦ elim counts.exact [
    | inl failed ↦ inl failed
    | inr exact ↦ inr (omega (arith, none, exact))
  ]
])
