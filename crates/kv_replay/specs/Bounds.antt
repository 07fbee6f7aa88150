-- How often a reader is asked at the most.
use Rattle.std.specs.Prelude.{◌≡◌, ◌≤◌, ◌⊎◌, ℕ}
use Rattle.std.proofs.Common.{inl, inr, arith, ◌∙◌}

-- between two moments, at which a reader was asked and may still be asked so many times in all: that number never
-- grows, and it stays unless the reader failed between them
pub record Counts (failed : Type 0) (before after : ℕ) : Type 0 where
  pub at_most : after ≤ before
  pub exact : failed ⊎ (after ≡ before)

-- what is so of each of two stretches of time is so of both
pub counts_later : {first second both : Type 0} (begun passed ended : ℕ) → (first → both) → (second → both) →
    Counts first begun passed → Counts second passed ended
    → Counts both begun ended
counts_later begun passed ended earlier later one two = record {
  at_most = omega (arith, one.at_most, two.at_most);
  exact = elim one.exact [
    | inl failed ↦ inl (earlier failed)
    | inr same ↦ elim two.exact [
      | inl failed ↦ inl (later failed)
      | inr still ↦ inr (still ∙ same)
    ]
  ];
}

-- what failed in the second stretch, or has no call left, failed in both, or has none left
pub failed_or_spent : {second both spent : Type 0} → (second → both) → second ⊎ spent → both ⊎ spent
failed_or_spent later fault = elim fault [
  | inl failed ↦ inl (later failed)
  | inr none ↦ inr none
]
