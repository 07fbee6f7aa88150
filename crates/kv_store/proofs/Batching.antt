-- A batch, request by request.
use Rattle.std.proofs.Common.{◌≡◌, ℕ, zero, suc, ◌+◌, ◌<◌, ◌≤◌, ⊎_elim, true, false, leb, List, [], ◌∷◌, ◌++◌, Some, Ok, length, map, take, refl, sym, ap, ◌∙◌, subst, arith, length-append}
use Rattle.std.specs.Prelude.{get_or}
use Rattle.std.specs.List.{slice_get}
use Rattle.std.specs.Option.{option_map}
use Rattle.std.proofs.lemmas.List.{take-map, take_more, map-append}
use Rattle.std.proofs.lemmas.Bool.Decides.{leb_tells}
use Rattle.std.proofs.lemmas.Option.{slice_get-map, slice_get_read}
use Rattle.kv_keys.specs.Outcome.{Refuses}
use Rattle.kv_model.specs.Acceptance.{accept}
use Rattle.kv_model.specs.Acts.{Act, Wrote, writes_of}
use Rattle.kv_model.specs.Batches.{IsRefusedAt, accept_all, after_all}
use Rattle.kv_model.specs.Configuration.{Configuration}
use Rattle.kv_model.specs.Requests.{Asked, asked}
use Rattle.kv_model.specs.declared.batch.BatchRefused.{BatchRefused}
use Rattle.kv_model.specs.declared.request.Request.{Request}
use Rattle.kv_model.proofs.Batching.{accept_more, after_last, after_none}
use Rattle.kv_model.proofs.Numbered.{writes_of-wrote}
use Rattle.kv_store.specs.Batches.{Leaves, LeavesEach}
use Rattle.kv_store.specs.Standing.{StandsFor}
use Rattle.kv_store.specs.Stored.{Stored}
use Rattle.kv_store.specs.inside.Batches.{LeavesOne}

-- the first requests of a batch, as many as k behind the first one
abbrev pub up_to : Asked → List Request → ℕ → List Asked
up_to first rest k = first ∷ map asked (take k rest)

leaves_more : (xs : List Asked) (x : Asked) (old now new : Stored) → now.config ≡ old.config → Leaves xs old now → LeavesOne x now new → Leaves (xs ++ x ∷ []) old new
leaves_more xs x old now new same all one = λ acts s.
    let before = all acts s in
    let then = one (after_all acts before.0) before.1.1 in
    let accepted : accept old.config x (after_all acts before.0) ≡ Ok then.0 = ap (λ (c : Configuration). accept c x (after_all acts before.0)) (sym same) ∙ then.1.0 in (
      before.0 ++ then.0 ∷ [],
      (
        accept_more old.config xs x acts before.0 then.0 before.1.0 accepted,
        subst (λ (more : List Act). StandsFor more new) (sym (after_last acts before.0 then.0)) then.1.1,
      ),
    )

-- one request
pub leaves_first : (x : Asked) (old new : Stored) → LeavesOne x old new → Leaves (x ∷ []) old new
leaves_first x old new one = λ acts s.
    let then = one acts s in
    let accepted : accept old.config x (after_all acts []) ≡ Ok then.0 = ap (accept old.config x) (after_none acts) ∙ then.1.0 in
    (then.0 ∷ [], (accept_more old.config [] x acts [] then.0 refl accepted, then.1.1))

leaves_none : (old : Stored) → Leaves [] old old
leaves_none old = λ acts s. ([], (refl, subst (λ (before : List Act). StandsFor before old) (sym (after_none acts)) s))

-- the versions of its beginnings
pub each_first : (first : Asked) (rest : List Asked) (old new : Stored) → new.config ≡ old.config → LeavesOne first old new → LeavesEach (first ∷ rest) 1 old
each_first first rest old new same one zero le = (old, (refl, leaves_none old))
each_first first rest old new same one (suc zero) le = (new, (same, leaves_first first old new one))
each_first first rest old new same one (suc (suc k)) le = absurd (omega arith)

pub each_next : (first : Asked) (rest : List Request) (k : ℕ) (old new : Stored) → new.config ≡ old.config → LeavesEach (first ∷ map asked rest) (k + 1) old → Leaves (up_to first rest (k + 1)) old new → LeavesEach (first ∷ map asked rest) (k + 1 + 1) old
each_next first rest k old new same each all = λ j le. ⊎_elim
    (λ (e : (leb j (k + 1) ≡ true) × (j ≤ k + 1)). each j e.1)
    (λ (e : (leb j (k + 1) ≡ false) × (k + 1 < j)).
    let n : j ≡ suc (k + 1) = omega (arith, le, e.1) in
    let those : take (suc (k + 1)) (first ∷ map asked rest) ≡ up_to first rest (k + 1) = ap (λ (as' : List Asked). first ∷ as') (take-map asked (k + 1) rest) in
    (new, (same, subst (λ (xs : List Asked). Leaves xs old new) (sym (ap (λ m. take m (first ∷ map asked rest)) n ∙ those)) all)))
    (leb_tells j (k + 1))

module _ (first : Asked) (rest : List Request) (k : ℕ) (request : Request) (old now : Stored) (within : k < length rest) (is : request ≡ get_or rest k request) (same : now.config ≡ old.config) (all : Leaves (up_to first rest k) old now) where
  -- one request more
  pub leaves_next : (new : Stored) → LeavesOne (asked request) now new → Leaves (up_to first rest (k + 1)) old new
  leaves_next new one =
      let more : take (k + 1) rest ≡ take k rest ++ request ∷ [] = take_more rest k request within ∙ ap (λ (r : Request). take k rest ++ r ∷ []) (sym is) in
      let grown : up_to first rest (k + 1) ≡ up_to first rest k ++ asked request ∷ [] = ap (λ (rs : List Request). first ∷ map asked rs) more ∙ ap (λ (as' : List Asked). first ∷ as') (map-append asked (take k rest) (request ∷ [])) in
      subst (λ (xs : List Asked). Leaves xs old new) (sym grown) (leaves_more (up_to first rest k) (asked request) old now new same all one)

  -- or the one that is refused
  pub refused_next : (refused : BatchRefused) → refused.at ≡ k + 1 → ((acts : List Act) → StandsFor acts now → Refuses refused.error (accept now.config (asked request) acts)) →
      (acts : List Act) → StandsFor acts old → IsRefusedAt old.config (first ∷ map asked rest) acts refused
  refused_next refused place refuses = λ acts s.
      let before = all acts s in
      let at : refused.at ≡ suc k = omega (arith, place) in
      let found : slice_get (map asked rest) k ≡ Some (asked request) = slice_get-map asked rest k ∙ ap (option_map asked) (slice_get_read rest (length rest) k request refl within is) in
      let those : take (suc k) (first ∷ map asked rest) ≡ up_to first rest k = ap (λ (as' : List Asked). first ∷ as') (take-map asked k rest) in
      record {
        request = asked request;
        is = ap (slice_get (first ∷ map asked rest)) at ∙ found;
        before = before.0;
        accepted = ap (λ n. accept_all old.config (take n (first ∷ map asked rest)) acts) at ∙ (ap (λ xs. accept_all old.config xs acts) those ∙ before.1.0);
        refuses = subst (λ (c : Configuration). Refuses refused.error (accept c (asked request) (after_all acts before.0))) same (refuses (after_all acts before.0) before.1.1);
      }

-- the revision of its first write
pub first_is : (x : Asked) (old new : Stored) (revision : ℕ) → LeavesOne x old new → ((acts : List Act) → StandsFor acts new → revision ≡ length (writes_of acts)) → (acts : List Act) → StandsFor acts old → revision ≡ length (writes_of acts) + 1
first_is x old new revision one last = λ acts s.
    let then = one acts s in
    last (acts ++ Wrote then.0 ∷ []) then.1.1 ∙ (ap length (writes_of-wrote acts then.0) ∙ length-append (writes_of acts) (then.0 ∷ []))

-- a batch that is refused for its first request
pub refused_first : (first : Asked) (rest : List Request) (old : Stored) (refused : BatchRefused) → refused.at ≡ 0 → ((acts : List Act) → StandsFor acts old → Refuses refused.error (accept old.config first acts)) →
    (acts : List Act) → StandsFor acts old → IsRefusedAt old.config (first ∷ map asked rest) acts refused
refused_first first rest old refused place refuses = λ acts s.
    record {
      request = first;
      is = ap (slice_get (first ∷ map asked rest)) place;
      before = [];
      accepted = ap (λ n. accept_all old.config (take n (first ∷ map asked rest)) acts) place;
      refuses = subst (λ (before : List Act). Refuses refused.error (accept old.config first before)) (sym (after_none acts)) (refuses acts s);
    }
