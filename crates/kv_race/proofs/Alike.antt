-- Who has seen the same.
use Rattle.std.proofs.Common.{◌≡◌, ℕ, ◌+◌, ◌<◌, ◌≤◌, List, All, length, map, take, take_all, get_or, sym, ap, subst, ◌∙◌}
use Rattle.std.proofs.lemmas.List.{get_or-map, length-map}
use Rattle.std.proofs.lemmas.List.Elements.{All-more}
use Rattle.kv_model.specs.Acts.{Act, IsPrefix}
use Rattle.kv_publish.proofs.Prefixes.{prefix_length, prefix_whole}

-- of two lists each begins with the other
pub same_seen : (xs ys : List Act) → IsPrefix xs ys → IsPrefix ys xs → ys ≡ xs
same_seen xs ys p q = sym (prefix_whole xs ys p (prefix_length ys xs q))

-- one more
pub alike_next : {E : Type 0} (seen_by : E → List Act) (seen : List Act) (ends : List E) (n : ℕ) (end : E) → n < length ends → end ≡ get_or ends n end
    → All (λ s. s ≡ seen) (take n (map seen_by ends)) → seen_by end ≡ seen → All (λ s. s ≡ seen) (take (n + 1) (map seen_by ends))
alike_next seen_by seen ends n end l is h one =
    let all = map seen_by ends in
    let same : seen_by end ≡ get_or all n (seen_by end) = ap seen_by is ∙ sym (get_or-map seen_by ends n end (seen_by end) l) in
    All-more (λ s. s ≡ seen) all n (seen_by end) (rw (length-map ends seen_by) l) h (sym same ∙ one)

pub all_alike : {E : Type 0} (seen_by : E → List Act) (seen : List Act) (ends : List E) (n : ℕ) → length ends ≤ n → All (λ s. s ≡ seen) (take n (map seen_by ends)) → All (λ s. s ≡ seen) (map seen_by ends)
all_alike seen_by seen ends n l h = subst (All (λ s. s ≡ seen)) (take_all n (map seen_by ends) (rw (length-map ends seen_by) l)) h
