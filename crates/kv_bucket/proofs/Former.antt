-- What the acts count as that a version stands for.
use Rattle.std.proofs.Common.{◌≡◌, ℕ, ◌<◌, true, false, List, [], ◌∷◌, length, refl, arith}
use Rattle.std.proofs.lemmas.Bool.Decides.{nat_tests}
use Rattle.kv_model.specs.Acceptance.{LawfulFrom}
use Rattle.kv_model.specs.Acts.{Act, Wrote, Seal, Compact, writes_of, is_sealed}
use Rattle.kv_model.specs.Compaction.{is_bad_floor}
use Rattle.kv_model.specs.Configuration.{Configuration}
use Rattle.kv_publish.specs.Beginnings.{counted}

-- no floor is good where nothing was written
no_floor : (floor : ℕ) → is_bad_floor floor [] ≡ false → ⊥
no_floor floor h = grind (arith, nat_tests)

pub counted_none : (config : Configuration) (acts : List Act) → LawfulFrom config [] acts → length (writes_of acts) ≡ 0 → is_sealed acts ≡ false → counted acts ≡ 0
counted_none config [] lawful none unsealed = refl
counted_none config (Wrote w ∷ acts) lawful none unsealed = absurd (omega (arith, none))
counted_none config (Seal ∷ acts) lawful none unsealed = absurd (cc unsealed)
counted_none config (Compact floor ∷ acts) lawful none unsealed = absurd (no_floor floor lawful.0)

pub counted_written : (acts : List Act) → 0 < length (writes_of acts) → counted acts ≡ 1
counted_written [] some = absurd (omega (arith, some))
counted_written (act ∷ acts) some = refl

pub counted_sealed : (acts : List Act) → is_sealed acts ≡ true → counted acts ≡ 1
counted_sealed [] sealed = absurd (cc sealed)
counted_sealed (act ∷ acts) sealed = refl
