-- The records that a batch asks for, one behind the other.
use Rattle.std.proofs.Common.{◌≡◌, ℕ, List, [], ◌∷◌, ◌++◌, length, sym, ap, ◌∙◌, append_assoc, append-nil}
use Rattle.std.specs.Prelude.{map}
use Rattle.std.specs.Int.{w32, to_be_bytes}
use Rattle.kv_model.specs.Requests.{Asked, asked}
use Rattle.kv_model.specs.declared.request.Request.{Request}
use Rattle.kv_journal.specs.Records.{asked_record, asked_records}

asked_more : (x : Asked) (xs : List Asked) → asked_records (x ∷ []) ++ asked_records xs ≡ asked_records (x ∷ xs)
asked_more x xs =
    let size = to_be_bytes w32 (length (asked_record x)) in
    append_assoc size (asked_record x ++ []) (asked_records xs) ∙ ap (λ (p : List ℕ). size ++ (p ++ asked_records xs)) (append-nil (asked_record x))

-- one more is written down, and the others are left
pub pushed : (all old new : List ℕ) (request : Request) (rest more : List Request) → rest ≡ request ∷ more → old ++ asked_records (map asked rest) ≡ all → new ≡ old ++ asked_records (asked request ∷ [])
    → new ++ asked_records (map asked more) ≡ all
pushed all old new request rest more split before is =
    ap (λ (w : List ℕ). w ++ asked_records (map asked more)) is ∙ append_assoc old (asked_records (asked request ∷ [])) (asked_records (map asked more))
    ∙ ap (λ (w : List ℕ). old ++ w) (asked_more (asked request) (map asked more)) ∙ ap (λ (rs : List Request). old ++ asked_records (map asked rs)) (sym split) ∙ before

-- none is left
pub all_pushed : (all bytes : List ℕ) (rest : List Request) → length rest ≡ 0 → bytes ++ asked_records (map asked rest) ≡ all → bytes ≡ all
all_pushed all bytes [] none is = sym (append-nil bytes) ∙ is
all_pushed all bytes (x ∷ xs) none is = absurd cc
