-- How requests are dealt to workers.
use Rattle.std.specs.Prelude.{ℕ, ◌+◌, ◌%◌, ◌==◌, if◌then◌else◌, List, [], ◌∷◌, map}
use Rattle.std.specs.List.{range_with_len}

-- those whose index leaves the worker's number where it is divided by the number of workers; the first has this index
abbrev pub dealt_to : {X : Type 0} → ℕ → ℕ → ℕ → List X → List X
dealt_to {X} workers worker index [] = []
dealt_to {X} workers worker index (x ∷ xs) =
    if (index % workers) == worker then x ∷ dealt_to workers worker (index + 1) xs else
    dealt_to workers worker (index + 1) xs

-- what each worker is dealt, worker by worker from 0
abbrev pub dealt : {X : Type 0} → ℕ → List X → List (List X)
dealt {X} workers xs = map (λ worker. dealt_to workers worker 0 xs) (range_with_len 0 workers)
