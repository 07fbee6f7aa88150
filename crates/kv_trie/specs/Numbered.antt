-- Pairs that have a number.
use Rattle.std.specs.Prelude.{ℕ, List, map, Option}
use Rattle.std.specs.Borrow.{Bor}
use Rattle.std.specs.Option.{option_to_list}

-- the value of a pair behind its number, where it has one
abbrev pub numbered_pair : {K V : Type 0} → (K → V → Option ℕ) → K × V → List (ℕ × V)
numbered_pair number p = map (λ n. (n, p.1)) (option_to_list (number p.0 p.1))

-- what references lend, each behind its number
abbrev pub lent : {V : Type 0} → List (ℕ × Bor V) → List (ℕ × V)
lent found = map (λ f. (f.0, f.1.now)) found
