-- A file in memory that is cut, or is not.
use Rattle.std.proofs.Common.{◌≡◌, ℕ, ◌+◌, ◌-◌, ◌<◌, ◌≤◌, List, ◌++◌, length, take, drop, sym, ap, ◌∙◌, subst, arith}
use Rattle.std.proofs.lemmas.List.{take_all, drop_all}
use lib.Seq.{take-append-add}

-- nothing was cut
pub as_it_was : (len : ℕ) (k l kept loose new_kept new_loose : List ℕ) → new_kept ≡ kept → new_loose ≡ loose → (k ≡ kept) × (l ≡ loose)
    → (m : ℕ) × (len ≤ m) × ((take m k ≡ new_kept) × (drop m k ++ l ≡ new_loose))
as_it_was len k l kept loose new_kept new_loose same_kept same_loose h =
    let m = len + length k in (
      m,
      omega arith,
      (
        take_all m k (omega arith) ∙ h.0 ∙ sym same_kept,
        ap (λ (xs : List ℕ). xs ++ l) (drop_all m k (omega arith)) ∙ h.1 ∙ sym same_loose,
      ),
    )

-- what is left lies within the loose bytes
pub cut_behind : (len : ℕ) (k l : List ℕ) → length k < len → take len (k ++ l) ≡ k ++ take (len - length k) l
cut_behind len k l more =
    let n : length k + (len - length k) ≡ len = omega (arith, more) in
    subst (λ (m : ℕ). take m (k ++ l) ≡ k ++ take (len - length k) l) n (take-append-add k l (len - length k))

pub cut_is : (len : ℕ) (k l kept loose more new_kept : List ℕ) → length kept < len → more ≡ take (len - length kept) loose → new_kept ≡ kept ++ more → (k ≡ kept) × (l ≡ loose) → take len (k ++ l) ≡ new_kept
cut_is len k l kept loose more new_kept long is on h =
    ap (λ (xs : List ℕ). take len (xs ++ l)) h.0 ∙ ap (λ (xs : List ℕ). take len (kept ++ xs)) h.1 ∙ cut_behind len kept loose long
    ∙ ap (λ (xs : List ℕ). kept ++ xs) (sym is) ∙ sym on
