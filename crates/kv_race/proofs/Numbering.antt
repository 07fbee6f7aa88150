-- The revisions that were answered, one more at a time, and the numbers from 1 on.
use Rattle.std.proofs.Common.{◌≡◌, ℕ, ◌+◌, ◌<◌, ◌≤◌, List, [], ◌∷◌, ◌++◌, Result, length, map, take, take_all, get_or, refl, sym, ap, ◌∙◌, append_assoc, append-nil, arith}
use Rattle.std.specs.List.{filter_map, range_with_len}
use Rattle.std.specs.Result.{result_ok}
use Rattle.std.proofs.lemmas.List.{get_or-map, length-map, take_more}
use Rattle.std.proofs.lemmas.List.Elements.{filter_map-append}
use Rattle.std.proofs.lemmas.List.FromFn.{map-range_with_len_more}
use Rattle.std.proofs.lemmas.Grind.{flat_map-append}
use Rattle.kv_keys.specs.declared.error.KvError.{KvError}
use Rattle.kv_race.specs.Racing.{revisions_in}

-- one more reply of a worker
pub more_of_a_worker : (before now later : List ℕ) (replies : List (Result ℕ KvError)) (n : ℕ) (reply : Result ℕ KvError) → n < length replies → reply ≡ get_or replies n reply
    → now ≡ before ++ filter_map result_ok (take n replies) → later ≡ now ++ filter_map result_ok (reply ∷ []) → later ≡ before ++ filter_map result_ok (take (n + 1) replies)
more_of_a_worker before now later replies n reply l is h more =
    let step : take (n + 1) replies ≡ take n replies ++ reply ∷ [] = take_more replies n reply l ∙ ap (λ r. take n replies ++ r ∷ []) (sym is) in
    more
    ∙ (ap (λ xs. xs ++ filter_map result_ok (reply ∷ [])) h
    ∙ (append_assoc before (filter_map result_ok (take n replies)) (filter_map result_ok (reply ∷ []))
    ∙ ap (λ xs. before ++ xs) (sym (filter_map-append result_ok (take n replies) (reply ∷ [])) ∙ ap (filter_map result_ok) (sym step))))

-- the replies of one more worker
pub more_workers : {W : Type 0} (replies_of : W → List (Result ℕ KvError)) (now later : List ℕ) (workers : List W) (n : ℕ) (worker : W) → n < length workers → worker ≡ get_or workers n worker
    → now ≡ revisions_in (take n (map replies_of workers)) → later ≡ now ++ filter_map result_ok (replies_of worker) → later ≡ revisions_in (take (n + 1) (map replies_of workers))
more_workers replies_of now later workers n worker l is h more =
    let all = map replies_of workers in
    let same : get_or all n (replies_of worker) ≡ replies_of worker = get_or-map replies_of workers n worker (replies_of worker) l ∙ ap replies_of (sym is) in
    let step : take (n + 1) all ≡ take n all ++ replies_of worker ∷ [] = take_more all n (replies_of worker) (rw (length-map workers replies_of) l) ∙ ap (λ r. take n all ++ r ∷ []) same in
    more
    ∙ (ap (λ xs. xs ++ filter_map result_ok (replies_of worker)) h
    ∙ (ap (λ xs. revisions_in (take n all) ++ xs) (sym (append-nil (filter_map result_ok (replies_of worker))))
    ∙ (sym (flat_map-append (filter_map result_ok) (take n all) (replies_of worker ∷ [])) ∙ ap revisions_in (sym step))))

pub all_workers : {W : Type 0} (replies_of : W → List (Result ℕ KvError)) (now : List ℕ) (workers : List W) (n : ℕ) → length workers ≤ n
    → now ≡ revisions_in (take n (map replies_of workers)) → now ≡ revisions_in (map replies_of workers)
all_workers replies_of now workers n l h = h ∙ ap revisions_in (take_all n (map replies_of workers) (rw (length-map workers replies_of) l))

-- one more number
map_same : (xs : List ℕ) → map (λ x. x) xs ≡ xs
map_same [] = refl
map_same (x ∷ xs) = ap (λ ys. x ∷ ys) (map_same xs)

range_more : (n : ℕ) → range_with_len 1 (n + 1) ≡ range_with_len 1 n ++ (n + 1) ∷ []
range_more n =
    sym (map_same (range_with_len 1 (n + 1)))
    ∙ (map-range_with_len_more (λ x. x) 1 n (n + 1) (omega arith) ∙ ap (λ xs. xs ++ (n + 1) ∷ []) (map_same (range_with_len 1 n)))

pub counts_on : (numbers : List ℕ) (n d : ℕ) → n < length numbers → get_or numbers n d ≡ n + 1 → take n numbers ≡ range_with_len 1 n → take (n + 1) numbers ≡ range_with_len 1 (n + 1)
counts_on numbers n d l is h =
    take_more numbers n d l ∙ (ap (λ k. take n numbers ++ k ∷ []) is ∙ (ap (λ xs. xs ++ (n + 1) ∷ []) h ∙ sym (range_more n)))
