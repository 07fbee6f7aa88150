-- What is looked up of the keys that are asked for is what a walk of all entries finds, in another order.
use Rattle.std.proofs.Common.{◌≡◌, ℕ, ◌+◌, ◌<◌, Bool, true, false, cond, ◌||◌, List, [], ◌∷◌, ◌++◌, Option, Some, None, length, get_or, take, unwrap_or, refl, sym, subst, ap, ◌∙◌, append-nil, append_assoc}
use Rattle.std.specs.BTreeMap.{is_at}
use Rattle.std.specs.List.{AllByRecursion, IsDistinct, flat_map, list_any}
use Rattle.std.specs.List.Sorted.{IsPermutation}
use Rattle.std.specs.Map.{keys_of, lookup}
use Rattle.std.specs.Option.{option_map_or}
use Rattle.std.specs.Ordering.{nat_cmp}
use Rattle.std.specs.Str.{bytes_eq}
use Rattle.std.specs.Cmp.Lexicographic.{slice_cmp, nat_list_eq_equiv}
use Rattle.std.proofs.lemmas.List.Sorted.{IsPermutation-refl, IsPermutation-trans, IsPermutation-append_comm, IsPermutation-append_left, IsPermutation-append_right}
use Rattle.std.proofs.lemmas.List.{take_more}
use Rattle.std.proofs.lemmas.List.Concat.{flat_map-append}
use Rattle.std.proofs.lemmas.Map.Text.{is_eq-slice_cmp}
use Rattle.std.proofs.lemmas.Slice.Eq.{bytes_eq-Decides}
use Rattle.kv_trie.specs.Form.{Ascends, order}
use Rattle.kv_model.specs.declared.options.Start.{Start}
use Rattle.kv_model.specs.declared.options.Start.TheVariants.{Latest, History, Updates, From}
use Rattle.kv_store.specs.Asked.{AreAsked}
use Rattle.kv_store.specs.Stored.{KeyHistory}
use Rattle.kv_store.specs.inside.Fields.{kept_entries}
use Rattle.kv_store.specs.inside.Selected.{initial_revisions, initial_at, initial_of, last_numbered, last_of_entry, last_at_key}
use Rattle.kv_store.proofs.Lookups.{lookup-agree}
use Rattle.kv_store.proofs.Naming.{distinct_keys, distinct_kept}

abbrev has : List (List ℕ) → List ℕ → Bool
has ks key = list_any (λ k. bytes_eq k key) ks

none_alike : (k : List ℕ) (ks : List (List ℕ)) → AllByRecursion (λ x. bytes_eq k x ≡ false) ks → has ks k ≡ false
none_alike k [] h = refl
none_alike k (x ∷ xs) h = rw (nat_list_eq_equiv.symm x k ∙ h.0, none_alike k xs h.1) refl

module _ {V X : Type 0} (read : V → List X) where
  -- what is found in an entry, where its key is asked for
  abbrev of : List (List ℕ) → List ℕ × V → List X
  of ks e = cond (has ks e.0) (read e.1) []

  -- what is found at a key
  abbrev at : List (List ℕ × V) → List ℕ → List X
  at es k = option_map_or read (lookup (λ x. bytes_eq k x) es) []

  nothing_asked : (es : List (List ℕ × V)) → flat_map (of []) es ≡ []
  nothing_asked [] = refl
  nothing_asked (e ∷ es) = nothing_asked es

  -- entries of which none has the key
  without : (k : List ℕ) (ks : List (List ℕ)) (es : List (List ℕ × V)) → AllByRecursion (λ x. bytes_eq k x ≡ false) (keys_of es) → flat_map (of (k ∷ ks)) es ≡ flat_map (of ks) es
  without k ks [] h = refl
  without k ks (e ∷ es) h = rw (h.0, without k ks es h.1) refl

  swapped : (a b c d : List X) → IsPermutation b (c ++ d) → IsPermutation (a ++ b) (c ++ (a ++ d))
  swapped a b c d h =
      let first = IsPermutation-append_right a b (c ++ d) h in
      let crossed = IsPermutation-append_left d (a ++ c) (c ++ a) (IsPermutation-append_comm a c) in
      let second = subst (λ l. IsPermutation (a ++ (c ++ d)) l) (append_assoc c a d) (subst (λ l. IsPermutation l ((c ++ a) ++ d)) (append_assoc a c d) crossed) in
      IsPermutation-trans (a ++ b) (a ++ (c ++ d)) (c ++ (a ++ d)) first second

  one_more : (k : List ℕ) (ks : List (List ℕ)) (es : List (List ℕ × V)) → has ks k ≡ false → IsDistinct bytes_eq (keys_of es) → IsPermutation (flat_map (of (k ∷ ks)) es) (at es k ++ flat_map (of ks) es)
  unfolding IsDistinct
  one_more k ks [] new apart = IsPermutation-refl []
  one_more k ks (e ∷ es) new apart = by_test (one_more k ks es new apart.1) (bytes_eq k e.0) refl
    where
      by_test : IsPermutation (flat_map (of (k ∷ ks)) es) (at es k ++ flat_map (of ks) es) → (b : Bool) → bytes_eq k e.0 ≡ b → IsPermutation (cond (b || has ks e.0) (read e.1) [] ++ flat_map (of (k ∷ ks)) es) (option_map_or read (cond b (Some e.1) (lookup (λ x. bytes_eq k x) es)) [] ++ (of ks e ++ flat_map (of ks) es))
      by_test more true t =
          let same : k ≡ e.0 = (bytes_eq-Decides k e.0).0 t in
          let others = without k ks es (subst (λ x. AllByRecursion (λ y. bytes_eq x y ≡ false) (keys_of es)) (sym same) apart.0) in
          let unasked : has ks e.0 ≡ false = ap (has ks) (sym same) ∙ new in
          rw (others, unasked) (IsPermutation-refl (read e.1 ++ flat_map (of ks) es))
      by_test more false t = swapped (of ks e) (flat_map (of (k ∷ ks)) es) (at es k) (flat_map (of ks) es) more

  by_keys : (ks : List (List ℕ)) (es : List (List ℕ × V)) → IsDistinct bytes_eq ks → IsDistinct bytes_eq (keys_of es) → IsPermutation (flat_map (of ks) es) (flat_map (at es) ks)
  unfolding IsDistinct
  by_keys [] es once apart = rw (nothing_asked es) (IsPermutation-refl [])
  by_keys (k ∷ ks) es once apart =
      IsPermutation-trans (flat_map (of (k ∷ ks)) es) (at es k ++ flat_map (of ks) es) (flat_map (at es) (k ∷ ks))
      (one_more k ks es (none_alike k ks once.0) apart)
      (IsPermutation-append_right (at es k) (flat_map (of ks) es) (flat_map (at es) ks) (by_keys ks es once.1 apart))

initial_none : (start : Start) → initial_revisions start [] ≡ []
initial_none Latest = refl
initial_none History = refl
initial_none Updates = refl
initial_none (From first) = refl

of_entries : (wants : List ℕ → Bool) (start : Start) (ks : List (List ℕ)) → ((key : List ℕ) → wants key ≡ has ks key) → (es : List (List ℕ × KeyHistory)) → flat_map (initial_of wants start) es ≡ flat_map (of (initial_revisions start) ks) (kept_entries es)
of_entries wants start ks asked [] = refl
of_entries wants start ks asked (e ∷ es) = rw (asked e.0, of_entries wants start ks asked es) refl

at_kept : (start : Start) (o : Option (List ℕ)) → option_map_or (initial_revisions start) o [] ≡ initial_revisions start (unwrap_or o [])
at_kept start None = sym (initial_none start)
at_kept start (Some rs) = refl

all_at : (start : Start) (es : List (List ℕ × KeyHistory)) (ks : List (List ℕ)) → flat_map (at (initial_revisions start) (kept_entries es)) ks ≡ flat_map (initial_at start es) ks
all_at start es [] = refl
all_at start es (k ∷ ks) = rw (at_kept start (lookup (λ x. bytes_eq k x) (kept_entries es)), all_at start es ks) refl

-- the entries of the key trie have what is looked up of the keys that are asked for
pub looked_up_all : (wants : List ℕ → Bool) (start : Start) (ks : List (List ℕ)) (place : List ℕ → ℕ) (es : List (List ℕ × KeyHistory)) → AreAsked wants ks → Ascends (order (slice_cmp nat_cmp) place 7) es → IsPermutation (flat_map (initial_of wants start) es) (flat_map (initial_at start es) ks)
looked_up_all wants start ks place es asked ascends =
    subst (λ l. IsPermutation l (flat_map (initial_at start es) ks)) (sym (of_entries wants start ks asked.each es))
    (subst (λ l. IsPermutation (flat_map (of (initial_revisions start) ks) (kept_entries es)) l) (all_at start es ks)
    (by_keys (initial_revisions start) ks (kept_entries es) asked.once (distinct_kept place es ascends)))

lasts_of_entries : (wants : List ℕ → Bool) (ks : List (List ℕ)) → ((key : List ℕ) → wants key ≡ has ks key) → (es : List (List ℕ × KeyHistory)) → flat_map (last_of_entry wants) es ≡ flat_map (of last_numbered ks) es
lasts_of_entries wants ks asked [] = refl
lasts_of_entries wants ks asked (e ∷ es) = rw (asked e.0, lasts_of_entries wants ks asked es) refl

-- and the last writes that are looked up of them
pub lasts_looked_up : (wants : List ℕ → Bool) (ks : List (List ℕ)) (place : List ℕ → ℕ) (es : List (List ℕ × KeyHistory)) → AreAsked wants ks → Ascends (order (slice_cmp nat_cmp) place 7) es → IsPermutation (flat_map (last_of_entry wants) es) (flat_map (last_at_key es) ks)
lasts_looked_up wants ks place es asked ascends =
    subst (λ l. IsPermutation l (flat_map (last_at_key es) ks)) (sym (lasts_of_entries wants ks asked.each es))
    (by_keys last_numbered ks es asked.once (distinct_keys place 7 es ascends))

-- one more is looked up
pub one_more_key : (es : List (List ℕ × KeyHistory)) (keys : List (List ℕ)) (i : ℕ) (key : List ℕ) (o : Option KeyHistory) (before after : List (ℕ × KeyHistory)) → i < length keys → key ≡ get_or keys i key → o ≡ lookup (is_at (slice_cmp nat_cmp key)) es → before ≡ flat_map (last_at_key es) (take i keys) → after ≡ before ++ option_map_or last_numbered o [] → after ≡ flat_map (last_at_key es) (take (i + 1) keys)
one_more_key es keys i key o before after l is found h k =
    let bytes : o ≡ lookup (λ x. bytes_eq key x) es = found ∙ lookup-agree (is_at (slice_cmp nat_cmp key)) (λ x. bytes_eq key x) (λ x. is_eq-slice_cmp key x) es in
    let of_key : option_map_or last_numbered o [] ≡ last_at_key es (get_or keys i key) ++ [] = ap (λ p. option_map_or last_numbered p []) bytes ∙ ap (last_at_key es) is ∙ sym (append-nil (last_at_key es (get_or keys i key))) in
    k
    ∙ ap (λ xs. xs ++ option_map_or last_numbered o []) h
    ∙ ap (λ xs. flat_map (last_at_key es) (take i keys) ++ xs) of_key
    ∙ sym (ap (flat_map (last_at_key es)) (take_more keys i key l) ∙ flat_map-append (last_at_key es) (take i keys) (get_or keys i key ∷ []))
