-- Texts of whole lines.
use Rattle.std.proofs.Common.{List, ℕ, [], ◌∷◌, ◌++◌, append_assoc, append-nil, refl, sym, ap, subst, ◌∙◌, inl, inr}
use Rattle.kv_replay.specs.Outcome.{IsWholeLines}

-- one after another
pub IsWholeLines-append : (xs ys : List ℕ) → IsWholeLines xs → IsWholeLines ys → IsWholeLines (xs ++ ys)
IsWholeLines-append xs ys wx (inl e) = subst IsWholeLines (sym (ap (λ zs. xs ++ zs) e ∙ append-nil xs)) wx
IsWholeLines-append xs ys wx (inr (front, e)) = inr (xs ++ front, ap (λ zs. xs ++ zs) e ∙ sym (append_assoc xs front (10 ∷ [])))

pub IsWholeLines-nil : IsWholeLines []
IsWholeLines-nil = inl refl
