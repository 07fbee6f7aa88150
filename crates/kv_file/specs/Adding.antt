-- What is on the disk and what is loose, when one more is added.
use Rattle.std.specs.Prelude.{◌≡◌, ◌⊎◌, ℕ, ◌+◌, List, [], ◌++◌}

-- More is added behind what is loose: it is loose too; or the others were brought onto the disk before, and it is loose
-- alone; or all is on the disk.
abbrev pub Adds : {X : Type 0} → (kept loose more later_kept later_loose : List X) → Type 0
Adds {X} kept loose more later_kept later_loose =
    ((later_kept ≡ kept) × (later_loose ≡ loose ++ more))
    ⊎ (((later_kept ≡ kept ++ loose) × (later_loose ≡ more))
    ⊎ ((later_kept ≡ (kept ++ loose) ++ more) × (later_loose ≡ [])))

-- One thing more is added, as `Adds` says, and it is counted how many are loose: one more than before; or one, since the
-- others were brought onto the disk before; or none.
abbrev pub AddsOne : {X : Type 0} → (before after : ℕ) → (kept loose more later_kept later_loose : List X) → Type 0
AddsOne {X} before after kept loose more later_kept later_loose =
    ((later_kept ≡ kept) × (later_loose ≡ loose ++ more) × (after ≡ before + 1))
    ⊎ (((later_kept ≡ kept ++ loose) × (later_loose ≡ more) × (after ≡ 1))
    ⊎ ((later_kept ≡ (kept ++ loose) ++ more) × (later_loose ≡ []) × (after ≡ 0)))

-- An adding has failed: nothing that was on the disk has gone, and nothing that was handed over was taken back; beside
-- that a beginning of what was to be added was handed over.
pub record Fails (kept loose more later_kept later_loose : List ℕ) : Type 0 where
  pub disk : (rest : List ℕ) × (kept ++ rest ≡ later_kept)
  pub all : (rest : List ℕ) × ((kept ++ loose) ++ rest ≡ later_kept ++ later_loose)
  pub no_more : (rest : List ℕ) × ((later_kept ++ later_loose) ++ rest ≡ (kept ++ loose) ++ more)
