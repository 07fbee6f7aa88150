-- The index at which a number stands, or would stand, among numbers that rise says how many are lower.
use Rattle.std.proofs.Common.{◌≡◌, ℕ, zero, suc, ◌<◌, ◌≤◌, cond, Bool, List, [], ◌∷◌, Ok, Err, length, filter, nat_lt, get_or, sym, ap, ◌∙◌, arith}
use Rattle.std.specs.List.Sorted.{IsStrictlyIncreasing}
use Rattle.std.proofs.lemmas.Bool.{le-ltb, lt-ltb}
use Rattle.std.proofs.lemmas.List.Sorted.{searched}
use Rattle.std.proofs.lemmas.Map.Keys.{below_from_sorted, sorted_from_strictly_increasing, non_decreasing_from_sorted}
use Rattle.kv_journal.proofs.course.lower.Goals as goal

-- where the numbers before this index are lower and those from it on are not, so many are lower
so_many_lower : (x : ℕ) (xs : List ℕ) (i : ℕ) → i ≤ length xs → ((k : ℕ) → k < i → get_or xs k 0 < x) → ((k : ℕ) → i ≤ k → k < length xs → x ≤ get_or xs k 0) → i ≡ length (filter (λ r. nat_lt r x) xs)
so_many_lower x [] i within below rest = omega arith
so_many_lower x (y ∷ ys) zero within below rest =
    let none : 0 ≡ length (filter (λ r. nat_lt r x) ys) = so_many_lower x ys 0 (omega arith) (λ k l. absurd (omega arith)) (λ k l m. rest (suc k) (omega arith) (omega arith)) in
    none ∙ ap (λ (b : Bool). length (cond b (y ∷ filter (λ r. nat_lt r x) ys) (filter (λ r. nat_lt r x) ys))) (sym (le-ltb y x (rest 0 (omega arith) (omega arith))))
so_many_lower x (y ∷ ys) (suc i) within below rest =
    let others : i ≡ length (filter (λ r. nat_lt r x) ys) = so_many_lower x ys i (omega arith) (λ k l. below (suc k) (omega arith)) (λ k l m. rest (suc k) (omega arith) (omega arith)) in
    ap suc others ∙ ap (λ (b : Bool). length (cond b (y ∷ filter (λ r. nat_lt r x) ys) (filter (λ r. nat_lt r x) ys))) (sym (lt-ltb y x (below 0 (omega arith))))

-- numbers that rise do not fall
never_falls : (xs : List ℕ) → IsStrictlyIncreasing xs → (i j : ℕ) → i ≤ j → j < length xs → get_or xs i 0 ≤ get_or xs j 0
never_falls xs rise i j l m = non_decreasing_from_sorted xs (sorted_from_strictly_increasing xs rise) i j 0 l m

pub returns-in-Ok : goal.returns-in-Ok
returns-in-Ok c =
    let xs = c.args.revisions.now in
    let found = searched xs c.args.revision (Ok c.in-Ok.index) c.in-Ok.ensures.position (never_falls xs c.requires) in
    let rise = sorted_from_strictly_increasing xs c.requires in
    so_many_lower c.args.revision xs c.in-Ok.index (omega (arith, found.0)) (λ k l. omega (arith, found.1, below_from_sorted xs k c.in-Ok.index 0 rise l found.0)) (λ k l m. omega (arith, found.1, never_falls xs c.requires c.in-Ok.index k l m))

pub returns-in-Err : goal.returns-in-Err
returns-in-Err c =
    let xs = c.args.revisions.now in
    let found = searched xs c.args.revision (Err c.in-Err.index) c.in-Err.ensures.position (never_falls xs c.requires) in
    so_many_lower c.args.revision xs c.in-Err.index found.0 found.1 (λ k l m. omega (arith, found.2 k l m))
