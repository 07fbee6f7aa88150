-- Which open watches are behind a floor.
use Rattle.std.specs.Prelude.{ℕ, Bool, false, min, List, [], ◌∷◌, Option, Some, None, if◌then◌else◌}
use Rattle.std.specs.Option.{option_map_or}
use Rattle.kv_model.specs.State.{State, open_at, watch_behind}

-- whether the open watch of a number is behind a floor
abbrev pub behind_at : ℕ → State → ℕ → Bool
behind_at floor s number = option_map_or (watch_behind floor s.config.history s.acts) (open_at number s) false

-- the lesser of two numbers, of which one may be missing
abbrev pub lesser : Option ℕ → ℕ → ℕ
lesser None n = n
lesser (Some m) n = min m n

-- the least number that passes a test, of these and one more
abbrev pub least_from : (ℕ → Bool) → Option ℕ → List ℕ → Option ℕ
least_from test least [] = least
least_from test least (n ∷ ns) = least_from test (if test n then Some (lesser least n) else least) ns
