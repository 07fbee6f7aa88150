-- A slot that is known to hold something holds this.
use mathlib.Core.Bool.{Bool, true, false}
use mathlib.Core.Path.{◌≡◌, refl, subst}
use Rattle.std.specs.Prelude.{Option, None, Some, is_some, IsTrue}

abbrev unlike : Bool → Type 0
unlike true = ⊥
unlike false = Unit {0}

pub taken : {A : Type 0} (held : Option A) → IsTrue (is_some held) → (x : A) × (held ≡ Some x)
taken None is = absurd (subst unlike is tt)
taken (Some x) is = (x, refl)
