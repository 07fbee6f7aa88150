-- Which keys are asked for by name.
use Rattle.std.specs.Prelude.{◌≡◌, ℕ, Bool, List}
use Rattle.std.specs.List.{IsDistinct, list_any}
use Rattle.std.specs.Str.{bytes_eq}

-- these are the keys that are asked for, and no others, each once
pub record AreAsked (wants : List ℕ → Bool) (keys : List (List ℕ)) : Type 0 where
  pub each : (key : List ℕ) → wants key ≡ list_any (λ k. bytes_eq k key) keys
  pub once : IsDistinct bytes_eq keys
