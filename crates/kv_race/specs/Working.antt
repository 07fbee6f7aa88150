-- What a worker does.
use Rattle.std.specs.Prelude.{◌≡◌, ℕ, List, [], ◌∷◌, Result}
use Rattle.kv_keys.specs.declared.error.KvError.{KvError}
use Rattle.kv_model.specs.Requests.{Asked}

module _ {D T : Type 0} (may_answer : D → Asked → Result (ℕ × T) KvError → D → Type 0) where
  -- all requests were written to a desk, in order and each once: each got one of these answers, and what it left is
  -- this desk
  abbrev pub Works : D → List Asked → List (Result (ℕ × T) KvError) → D → Type 0
  Works desk [] [] left = left ≡ desk
  Works desk [] (answer ∷ answers) left = ⊥
  Works desk (request ∷ requests) [] left = ⊥
  Works desk (request ∷ requests) (answer ∷ answers) left = (next : D) ×
      (may_answer desk request answer next × Works next requests answers left)
