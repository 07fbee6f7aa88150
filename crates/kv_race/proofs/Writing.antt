-- Requests that a worker writes, one more at a time.
use Rattle.std.proofs.Common.{◌≡◌, ℕ, ◌+◌, ◌<◌, List, [], ◌∷◌, ◌++◌, Result, length, map, take, get_or, refl, sym, ap, subst, ◌∙◌}
use Rattle.std.specs.List.{AllZip}
use Rattle.std.proofs.lemmas.List.{take_more, get_or-map, length-map}
use Rattle.kv_keys.specs.declared.error.KvError.{KvError}
use Rattle.kv_model.specs.Requests.{Asked, asked}
use Rattle.kv_model.specs.declared.request.Request.{Request}
use Rattle.kv_model.specs.Configuration.{Configuration}
use Rattle.kv_race.specs.Telling.{Answered, IsTold}
use Rattle.kv_race.specs.Working.{Works}

-- one more request is written once those before it are
pub works_more : {D T : Type 0} (may_answer : D → Asked → Result (ℕ × T) KvError → D → Type 0) (desk : D) (requests : List Asked) (answers : List (Result (ℕ × T) KvError)) (next : D) (request : Asked) (answer : Result (ℕ × T) KvError) (left : D)
    → Works may_answer desk requests answers next → may_answer next request answer left → Works may_answer desk (requests ++ request ∷ []) (answers ++ answer ∷ []) left
works_more may_answer desk [] [] next request answer left h m = (left, (subst (λ (d : _). may_answer d request answer left) h m, refl))
works_more may_answer desk [] (a ∷ answers) next request answer left h m = absurd h
works_more may_answer desk (r ∷ requests) [] next request answer left h m = absurd h
works_more may_answer desk (r ∷ requests) (a ∷ answers) next request answer left h m = (h.0, (h.1.0, works_more may_answer h.0 requests answers next request answer left h.1.1 m))

-- the same, of the first requests of a list
pub works_next : {D T : Type 0} (may_answer : D → Asked → Result (ℕ × T) KvError → D → Type 0) (desk : D) (requests : List Request) (answers : List (Result (ℕ × T) KvError)) (next : D) (n : ℕ) (d : Request) (answer : Result (ℕ × T) KvError) (left : D)
    → n < length requests → Works may_answer desk (take n (map asked requests)) answers next → may_answer next (asked (get_or requests n d)) answer left
    → Works may_answer desk (take (n + 1) (map asked requests)) (answers ++ answer ∷ []) left
works_next may_answer desk requests answers next n d answer left l h m =
    let more : take (n + 1) (map asked requests) ≡ take n (map asked requests) ++ asked (get_or requests n d) ∷ [] =
    take_more (map asked requests) n (asked d) (rw (length-map requests asked) l) ∙ ap (λ r. take n (map asked requests) ++ r ∷ []) (get_or-map asked requests n d (asked d) l) in
    subst (λ (rs : List Asked). Works may_answer desk rs (answers ++ answer ∷ []) left) (sym more) (works_more may_answer desk (take n (map asked requests)) answers next (asked (get_or requests n d)) answer left h m)

-- what holds of each answer that may be given holds of all that were given
pub works_each : {D T : Type 0} (may_answer : D → Asked → Result (ℕ × T) KvError → D → Type 0) (P : Asked → Result (ℕ × T) KvError → Type 0) → ((desk : D) (request : Asked) (answer : Result (ℕ × T) KvError) (left : D) → may_answer desk request answer left → P request answer)
    → (desk : D) (requests : List Asked) (answers : List (Result (ℕ × T) KvError)) (left : D) → Works may_answer desk requests answers left → AllZip P requests answers
works_each may_answer P f desk [] [] left h = tt
works_each may_answer P f desk [] (a ∷ answers) left h = absurd h
works_each may_answer P f desk (r ∷ requests) [] left h = absurd h
works_each may_answer P f desk (r ∷ requests) (a ∷ answers) left h = (f desk r a h.0 h.1.0, works_each may_answer P f h.0 requests answers left h.1.1)

-- the same, of what a bucket that threads share may answer
pub told_each : {D : Type 0} (config : Configuration) (desk : D) (requests : List Asked) (answers : List Answered) (left : D) → Works (λ desk request answer left. IsTold config request answer) desk requests answers left → AllZip (IsTold config) requests answers
told_each config desk requests answers left h = works_each (λ desk request answer left. IsTold config request answer) (IsTold config) (λ d r a l t. t) desk requests answers left h
