-- Tests and searches over the words of a `&[&str]`, and over their texts.
use Rattle.std.proofs.Common.{◌≡◌, ℕ, Bool, true, false, cond, ◌&&◌, List, [], ◌∷◌, Option, Some, find, option_map, refl, ap}
use Rattle.std.specs.Borrow.{Bor}
use Rattle.std.specs.List.{list_all}
use Rattle.kv_script.specs.Commands.{texts}

pub all_texts : (test : List ℕ → Bool) (words : List (Bor (List ℕ))) → list_all (λ w. test w.now) words ≡ list_all test (texts words)
all_texts test [] = refl
all_texts test (w ∷ words) = ap (λ rest. test w.now && rest) (all_texts test words)

find_step : (b : Bool) (w : Bor (List ℕ)) (r : Option (Bor (List ℕ))) (s : Option (List ℕ)) → option_map (λ w. w.now) r ≡ s
    → option_map (λ w. w.now) (cond b (Some w) r) ≡ cond b (Some w.now) s
find_step true w r s h = refl
find_step false w r s h = h

pub find_texts : (test : List ℕ → Bool) (words : List (Bor (List ℕ))) → option_map (λ w. w.now) (find (λ w. test w.now) words) ≡ find test (texts words)
find_texts test [] = refl
find_texts test (w ∷ words) = find_step (test w.now) w (find (λ w. test w.now) words) (find test (texts words)) (find_texts test words)
