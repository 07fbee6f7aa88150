-- Which keys a list of filters without wildcards asks for, filter by filter.
use Rattle.std.proofs.Common.{◌≡◌, ℕ, Bool, true, false, cond, ◌||◌, List, [], ◌∷◌, ◌++◌, Option, Some, None, refl, sym, subst, ap, ◌∙◌}
use Rattle.std.specs.Prelude.{IfSome}
use Rattle.std.specs.declared.alloc.Global.{Global}
use Rattle.std.specs.declared.vec.Vec.{Vec}
use Rattle.std.specs.List.{AllByRecursion, IsDistinct, list_any}
use Rattle.std.specs.Str.{bytes_eq}
use Rattle.std.proofs.lemmas.List.Folds.{list_any-append}
use Rattle.std.proofs.lemmas.Slice.Eq.{bytes_eq-Decides}
use Rattle.kv_keys.specs.Grammar.{is_key, is_filter, parts}
use Rattle.kv_keys.specs.Matching.{matches, any_matches}
use Rattle.kv_keys.proofs.Parts.{parts_one}
use Rattle.kv_store.specs.Asked.{AreAsked}
use Rattle.kv_store.proofs.OneMatch.{literal_matches}

-- ---- a key that is not there yet

either : (b c : Bool) → (b || c) ≡ false → (b ≡ false) × (c ≡ false)
either true c h = cc
either false c h = (refl, h)

all_and_one : (P : List ℕ → Type 0) (ks : List (List ℕ)) (k : List ℕ) → AllByRecursion P ks → P k → AllByRecursion P (ks ++ k ∷ [])
all_and_one P [] k all one = (one, tt)
all_and_one P (x ∷ xs) k all one = (all.0, all_and_one P xs k all.1 one)

distinct_and_one : (ks : List (List ℕ)) (k : List ℕ) → IsDistinct bytes_eq ks → list_any (λ x. bytes_eq x k) ks ≡ false → IsDistinct bytes_eq (ks ++ k ∷ [])
unfolding IsDistinct
distinct_and_one [] k d none = (tt, tt)
distinct_and_one (x ∷ xs) k d none =
    let inner = either (bytes_eq x k) (list_any (λ y. bytes_eq y k) xs) none in
    (all_and_one (λ y. bytes_eq x y ≡ false) xs k d.0 inner.0, distinct_and_one xs k d.1 inner.1)

-- ---- one more filter

or_none : (b : Bool) → (b || false) ≡ b
or_none true = refl
or_none false = refl

module _ (fs ks : List (List ℕ)) (f : List ℕ) (literal : is_key f ≡ true) (asked : AreAsked (any_matches fs) ks) where
  one_more : (key : List ℕ) → any_matches (fs ++ f ∷ []) key ≡ (list_any (λ k. bytes_eq k key) ks || bytes_eq f key)
  one_more key =
      list_any-append (λ g. matches g key) fs (f ∷ [])
      ∙ ap (λ b. b || (matches f key || false)) (asked.each key)
      ∙ ap (λ b. list_any (λ k. bytes_eq k key) ks || b) (or_none (matches f key) ∙ literal_matches f key literal)

  added : list_any (λ k. bytes_eq k f) ks ≡ false → AreAsked (any_matches (fs ++ f ∷ [])) (ks ++ f ∷ [])
  added new = record {
    each = λ key. one_more key ∙ ap (λ b. list_any (λ k. bytes_eq k key) ks || b) (sym (or_none (bytes_eq f key))) ∙ sym (list_any-append (λ k. bytes_eq k key) ks (f ∷ []));
    once = distinct_and_one ks f asked.once new;
  }

  there : list_any (λ k. bytes_eq k f) ks ≡ true → AreAsked (any_matches (fs ++ f ∷ [])) ks
  there old = record { each = λ key. one_more key ∙ again key (bytes_eq f key) refl; once = asked.once }
    where
      or_true : (b : Bool) → b ≡ true → (b || true) ≡ b
      or_true true h = refl
      or_true false h = cc

      again : (key : List ℕ) (b : Bool) → bytes_eq f key ≡ b → (list_any (λ k. bytes_eq k key) ks || b) ≡ list_any (λ k. bytes_eq k key) ks
      again key true t =
          let same : f ≡ key = (bytes_eq-Decides f key).0 t in
          or_true (list_any (λ k. bytes_eq k key) ks) (ap (λ q. list_any (λ k. bytes_eq k q) ks) (sym same) ∙ old)
      again key false t = or_none (list_any (λ k. bytes_eq k key) ks)

  pub asked_once : AreAsked (any_matches (fs ++ f ∷ [])) (cond (list_any (λ k. bytes_eq k f) ks) ks (ks ++ f ∷ []))
  asked_once = by_test (list_any (λ k. bytes_eq k f) ks) refl
    where
      by_test : (b : Bool) → list_any (λ k. bytes_eq k f) ks ≡ b → AreAsked (any_matches (fs ++ f ∷ [])) (cond b ks (ks ++ f ∷ []))
      by_test true t = there t
      by_test false t = added t

-- no filter asks for no key
pub asked_none : AreAsked (any_matches []) []
unfolding IsDistinct
asked_none = record { each = λ key. refl; once = tt }

-- a list of one filter asks for what the filter does
pub asked_one : (f : List ℕ) (ks : List (List ℕ)) → is_filter f ≡ true → AreAsked (any_matches (parts f)) ks → AreAsked (matches f) ks
asked_one f ks filter asked = record {
  each = λ key. sym (or_none (matches f key)) ∙ ap (λ fs. any_matches fs key) (sym (parts_one f filter)) ∙ asked.each key;
  once = asked.once;
}

-- what a call tells of the text of a filter it tells of the filter
pub filter_asks : (o : Option (Vec (List ℕ) Global)) (text f : List ℕ) → text ≡ f → is_filter f ≡ true → IfSome o (λ keys. AreAsked (any_matches (parts text)) keys.items) → IfSome o (λ keys. AreAsked (matches f) keys.items)
filter_asks None text f same filter h = tt
filter_asks (Some keys) text f same filter h = asked_one f keys.items filter (subst (λ t. AreAsked (any_matches (parts t)) keys.items) same h)
