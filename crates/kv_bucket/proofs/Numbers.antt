-- What is numbered stays so with one more behind it.
use Rattle.std.proofs.Common.{◌≡◌, ℕ, ◌+◌, ◌<◌, ◌≤◌, ◌++◌, ◌∷◌, [], List, length, ap, sym, subst, ◌∙◌, arith, length-append, inl, inr, ◌⊎◌, slice_index_or}
use Rattle.std.proofs.Math.ListN.{get_or-append}
use Rattle.std.proofs.Math.Nat.{eq-or-lt_of_le}
use Rattle.std.proofs.Math.Seq.{get_or-append_seam}
use Rattle.kv_bucket.specs.Serving.{AreNumbered}

numbered_at : {T : Type 0} (number : T → ℕ) (xs : List T) (x : T) → AreNumbered number xs → number x ≡ length xs → (i : ℕ) (d : T) → (i ≡ length xs) ⊎ (i < length xs) → number (slice_index_or (xs ++ x ∷ []) i d) ≡ i
numbered_at number xs x before is i d (inl same) = ap number (ap (λ k. slice_index_or (xs ++ x ∷ []) k d) same ∙ get_or-append_seam xs x [] d) ∙ (is ∙ sym same)
numbered_at number xs x before is i d (inr lt) = ap number (get_or-append xs (x ∷ []) d i lt) ∙ before i d lt

numbered_push : {T : Type 0} (number : T → ℕ) (xs : List T) (x : T) → AreNumbered number xs → number x ≡ length xs → AreNumbered number (xs ++ x ∷ [])
numbered_push number xs x before is i d lt =
    let len = length-append xs (x ∷ []) in
    let within : i ≤ length xs = omega arith in numbered_at number xs x before is i d (eq-or-lt_of_le within)

pub numbered_more : {T : Type 0} (number : T → ℕ) (xs ys : List T) (x : T) → ys ≡ xs ++ x ∷ [] → number x ≡ length xs → AreNumbered number xs → AreNumbered number ys
numbered_more number xs ys x items is before = subst (AreNumbered number) (sym items) (numbered_push number xs x before is)

-- what the one list has more the other has less
pub moves_one : {S T : Type 0} (xs ys : List S) (x : S) (before after : List T) (a : T) (n : ℕ) → ys ≡ xs ++ x ∷ [] → before ≡ a ∷ after → length xs + length before ≡ n → length ys + length after ≡ n
moves_one xs ys x before after a n more less sum =
    let p = ap length more ∙ length-append xs (x ∷ []) in
    let q = ap length less in omega arith
