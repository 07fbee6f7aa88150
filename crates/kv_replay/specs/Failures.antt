-- How often a device failed.
use Rattle.std.specs.Prelude.{ℕ, ◌<◌, ◌≤◌, ◌⊎◌}
use Rattle.std.proofs.Common.{inl, inr, arith}

-- of two counts of failures the later: it is larger, or as large as a count can be
abbrev pub HasRisen : (before after : ℕ) → Type 0
HasRisen before after = (before < after) ⊎ (18446744073709551615 ≤ after)

-- a count that rose in the second of two stretches of time rose in both
pub risen_later : (a b c : ℕ) → a ≤ b → HasRisen b c → HasRisen a c
risen_later a b c kept risen = elim risen [
  | inl more ↦ inl (omega (arith, kept, more))
  | inr largest ↦ inr largest
]

-- and so did one that rose in the first
pub risen_earlier : (a b c : ℕ) → HasRisen a b → b ≤ c → HasRisen a c
risen_earlier a b c risen kept = elim risen [
  | inl more ↦ inl (omega (arith, more, kept))
  | inr largest ↦ inr (omega (arith, largest, kept))
]
