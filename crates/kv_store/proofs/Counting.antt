-- How many entries the two tries have.
use Rattle.std.proofs.Common.{◌≡◌, ℕ, Bool, true, false, cond, eqb, ◌||◌, ◌==◌, List, [], ◌∷◌, Some, length, filter, refl, sym, ap, ◌∙◌, arith}
use Rattle.std.specs.List.{find, IsDistinct, AllByRecursion}
use Rattle.std.specs.Map.{keys_of, lookup}
use Rattle.std.specs.Option.{is_some}
use Rattle.std.specs.Ordering.{nat_cmp}
use Rattle.std.specs.Set.{is_member}
use Rattle.std.specs.declared.cmp.Ordering.TheVariants.{Less, Equal}
use Rattle.std.proofs.lemmas.Bool.{eqb-true}
use Rattle.std.proofs.lemmas.Bool.Decides.{nat_tests}
use Rattle.std.proofs.lemmas.Cmp.{nat_cmp_total, nat_eq_equiv, tied_itself}
use Rattle.std.proofs.lemmas.List.{length-map}
use Rattle.std.proofs.lemmas.Map.Made.{length-from_same_keys}
use Rattle.kv_trie.specs.Form.{Ascends, Each, order}
use Rattle.kv_trie.proofs.Maps.{order_total}
use Rattle.kv_model.specs.Acts.{Write}
use Rattle.kv_model.specs.Retained.{revisions}
use Rattle.kv_model.proofs.Numbered.{CountsFrom, increasing_counted}
use Rattle.kv_store.specs.Places.{place_of_revision}
use Rattle.kv_store.proofs.Distinct.{distinct_rising}

module _ {V : Type 0} (place : ℕ → ℕ) (left : ℕ) where
  numbers_past : (e : ℕ × V) (es : List (ℕ × V)) → Each (λ f. order nat_cmp place left e.0 f.0 ≡ Less) es → AllByRecursion (λ n. eqb e.0 n ≡ false) (keys_of es)
  numbers_past e [] h = tt
  numbers_past e (f ∷ fs) h = (differ (eqb e.0 f.0) refl, numbers_past e fs h.1)
    where
      differ : (b : Bool) → eqb e.0 f.0 ≡ b → b ≡ false
      differ true t =
          let tied = tied_itself (order_total nat_cmp_total place left) e.0 in
          let below = rw (← eqb-true e.0 f.0 t) at h.0 in
          let clash : Equal ≡ Less = sym tied ∙ below in
          cc
      differ false t = refl

  -- numbers that ascend in the order of a trie differ
  pub distinct_numbers : (es : List (ℕ × V)) → Ascends (order nat_cmp place left) es → IsDistinct eqb (keys_of es)
  unfolding IsDistinct
  distinct_numbers [] a = tt
  distinct_numbers (e ∷ es) a = (numbers_past e es a.0, distinct_numbers es a.1)

member_found : {X : Type 0} (q : ℕ) (es : List (ℕ × X)) → is_member eqb (keys_of es) q ≡ is_some (lookup (λ n. q == n) es)
member_found q [] = refl
member_found {X} q (e ∷ es) = by_test (eqb q e.0) (member_found q es)
  where
    by_test : (b : Bool) → is_member eqb (keys_of es) q ≡ is_some (lookup (λ n. q == n) es) → (b || is_member eqb (keys_of es) q) ≡ is_some (cond b (Some e.1) (lookup (λ n. q == n) es))
    by_test true rest = refl
    by_test false rest = rest

flips : (a b : ℕ) → eqb a b ≡ eqb b a
flips a b = grind (arith, nat_tests)

revision_found : (q : ℕ) (ws : List Write) → is_member eqb (revisions ws) q ≡ is_some (find (λ w. w.revision == q) ws)
revision_found q [] = refl
revision_found q (w ∷ ws) = ap (λ b. b || is_member eqb (revisions ws) q) (flips q w.revision) ∙ by_test (eqb w.revision q) (revision_found q ws)
  where
    by_test : (b : Bool) → is_member eqb (revisions ws) q ≡ is_some (find (λ v. v.revision == q) ws) → (b || is_member eqb (revisions ws) q) ≡ is_some (cond b (Some w) (find (λ v. v.revision == q) ws))
    by_test true rest = refl
    by_test false rest = rest

-- entries in which each of these writes is found by its revision, and nothing else, are as many
pub length_found : (p : Write → Bool) (ws : List Write) (es : List (ℕ × Write)) → CountsFrom 1 ws → Ascends (order nat_cmp place_of_revision 7) es → ((r : ℕ) → lookup (λ n. r == n) es ≡ find (λ w. w.revision == r) (filter p ws)) → length es ≡ length (filter p ws)
length_found p ws es counts ascends found =
    let left : length (keys_of es) ≡ length es = length-map es (λ e. e.0) in
    let right : length (revisions (filter p ws)) ≡ length (filter p ws) = length-map (filter p ws) (λ w. w.revision) in
    sym left
    ∙ length-from_same_keys nat_eq_equiv (keys_of es) (revisions (filter p ws)) (distinct_numbers place_of_revision 7 es ascends) (distinct_rising (revisions (filter p ws)) (increasing_counted p ws counts))
    (λ q. member_found q es ∙ ap is_some (found q) ∙ sym (revision_found q (filter p ws)))
    ∙ right
