-- Whether a cursor has need of the version of its opening.
use Rattle.std.proofs.Common.{◌≡◌, ℕ, ◌-◌, Bool, true, nat_eq, List, [], ◌∷◌, Option, Some, None, length, reverse, refl, sym, ap, ◌∙◌, arith}
use Rattle.std.specs.List.{slice_get}
use Rattle.std.proofs.lemmas.Bool.{eqb-true}
use Rattle.std.proofs.lemmas.List.{reverse-append}
use Rattle.kv_model.specs.declared.event.Event.{Event}
use Rattle.kv_model.specs.declared.event.Event.TheVariants as events
use Rattle.kv_store.specs.Stored.{Stored}
use Rattle.kv_watch.specs.Following.{Following, IsOpening, behind, behind_entry}
use Rattle.kv_watch.proofs.Lists.{last_front}

-- where an initial entry is owed the version of the opening is given
pub is_given : (base : Option Stored) (opening : Stored) (cursor : Following) (items : List ℕ) (r : ℕ) → slice_get items (length items - 1) ≡ Some r → cursor.owed ≡ reverse items → IsOpening base opening cursor → base ≡ Some opening
is_given (Some base) opening cursor items r e o is = ap Some is
is_given None opening cursor items r e o is =
    let front = last_front items r e in
    let none : [] ≡ r ∷ reverse front.0 = sym is ∙ o ∙ ap reverse front.1 ∙ reverse-append front.0 (r ∷ []) in cc

-- a cursor that owes no initial entry owes none behind an item either
pub owes_none : (event : Event) (cursor : Following) → cursor.owed ≡ [] → (behind event cursor).owed ≡ []
owes_none events.Marker cursor none = none
owes_none (events.Entry revision) cursor none = by_owed cursor.owed none
  where
    by_owed : (owed : List ℕ) → owed ≡ [] → (behind_entry revision owed cursor).owed ≡ []
    by_owed [] e = none
    by_owed (r ∷ rs) e = cc

-- what is kept of its opening is enough for a cursor that owes no more
pub opening_on : (kept : Option Stored) (base : Stored) (old new : Following) → (old.owed ≡ [] → new.owed ≡ []) → IsOpening kept base old → IsOpening kept base new
opening_on (Some opening) base old new owes is = is
opening_on None base old new owes is = owes is

-- where the list of what is owed is empty nothing is owed
pub owes_nothing : (items : List ℕ) (n : ℕ) (empty : Bool) → n ≡ length items → empty ≡ nat_eq n 0 → empty ≡ true → reverse items ≡ []
owes_nothing [] n empty l e t = refl
owes_nothing (r ∷ rs) n empty l e t = absurd (omega (arith, l, eqb-true n 0 (sym e ∙ t)))
