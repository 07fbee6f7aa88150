-- What is found in the entries that stay of the two tries.
use Rattle.std.proofs.Common.{◌≡◌, ℕ, Bool, true, false, cond, ◌==◌, not, List, [], ◌∷◌, Option, Some, None, map, refl, sym, ap, ◌∙◌}
use Rattle.std.specs.BTreeMap.{is_at}
use Rattle.std.specs.Cmp.Lexicographic.{slice_cmp}
use Rattle.std.specs.List.{find}
use Rattle.std.specs.Map.{lookup}
use Rattle.std.specs.Option.{option_map}
use Rattle.std.specs.Ordering.{nat_cmp}
use Rattle.std.specs.Str.{bytes_eq}
use Rattle.std.proofs.lemmas.Bool.{eqb-true}
use Rattle.kv_model.specs.Acts.{Write}
use Rattle.kv_trie.specs.Retain.{wanted_value}
use Rattle.kv_store.specs.Stored.{KeyHistory}
use Rattle.kv_store.specs.inside.Compacted.{clears, is_left, left_of, spared}
use Rattle.kv_store.specs.inside.Fields.{last_entries}
use Rattle.kv_store.proofs.Lookups.{by_bytes, is_eq-nat_cmp, write_by_number}

lookup_find : {K X : Type 0} (p : K → Bool) (es : List (K × X)) → lookup p es ≡ option_map (λ (e : K × X). e.1) (find (λ (e : K × X). p e.0) es)
lookup_find p [] = refl
lookup_find {K} {X} p (e ∷ es) = by_test (p e.0) (lookup_find p es)
  where
    by_test : (b : Bool) → lookup p es ≡ option_map (λ (e : K × X). e.1) (find (λ (e : K × X). p e.0) es) → cond b (Some e.1) (lookup p es) ≡ option_map (λ (e : K × X). e.1) (cond b (Some e) (find (λ (e : K × X). p e.0) es))
    by_test true rest = refl
    by_test false rest = rest

found_passes : {X : Type 0} (p : X → Bool) (xs : List X) (x : X) → find p xs ≡ Some x → p x ≡ true
found_passes p [] x h = cc
found_passes {X} p (y ∷ ys) x h = by_test (λ k. found_passes p ys x k) (p y) refl h
  where
    by_test : (find p ys ≡ Some x → p x ≡ true) → (b : Bool) → p y ≡ b → cond b (Some y) (find p ys) ≡ Some x → p x ≡ true
    by_test rest true e k = let same : y ≡ x = cc in ap p (sym same) ∙ e
    by_test rest false e k = rest k

-- of a key that stays the same
pub spared_lookup : {X : Type 0} (part : KeyHistory → X) (floor : ℕ) (q : List ℕ) (old new : List (List ℕ × KeyHistory)) → lookup (is_at (slice_cmp nat_cmp q)) new ≡ wanted_value (λ key kept. not (clears floor (Some kept.last))) (find (λ p. is_at (slice_cmp nat_cmp q) p.0) old) → lookup (λ k. bytes_eq q k) (map (λ e. (e.0, part e.1)) new) ≡ spared floor (lookup (λ k. bytes_eq q k) (last_entries old)) (lookup (λ k. bytes_eq q k) (map (λ e. (e.0, part e.1)) old))
spared_lookup {X} part floor q old new h =
    by_bytes part q new
    ∙ ap (option_map part) h
    ∙ by_found (find (λ p. is_at (slice_cmp nat_cmp q) p.0) old)
    ∙ ap (λ o. spared floor (option_map (λ v. v.last) o) (option_map part o)) (sym (lookup_find (is_at (slice_cmp nat_cmp q)) old))
    ∙ ap (λ o. spared floor o (option_map part (lookup (is_at (slice_cmp nat_cmp q)) old))) (sym (by_bytes (λ v. v.last) q old))
    ∙ ap (spared floor (lookup (λ k. bytes_eq q k) (last_entries old))) (sym (by_bytes part q old))
  where
    by_test : (b : Bool) (p : List ℕ × KeyHistory) → option_map part (cond (not b) (Some p.1) None) ≡ cond b None (Some (part p.1))
    by_test true p = refl
    by_test false p = refl

    by_found : (o : Option (List ℕ × KeyHistory)) → option_map part (wanted_value (λ key kept. not (clears floor (Some kept.last))) o) ≡ spared floor (option_map (λ v. v.last) (option_map (λ (e : List ℕ × KeyHistory). e.1) o)) (option_map part (option_map (λ (e : List ℕ × KeyHistory). e.1) o))
    by_found None = refl
    by_found (Some p) = by_test (clears floor (Some p.1.last)) p

-- of a revision the write, where it stays
pub left_lookup : (floor : ℕ) (kept : List (List ℕ × List ℕ)) (q : ℕ) (old new : List (ℕ × Write)) → lookup (is_at (nat_cmp q)) new ≡ wanted_value (λ revision w. is_left floor kept revision w) (find (λ p. is_at (nat_cmp q) p.0) old) → lookup (λ r. q == r) new ≡ left_of floor kept q (lookup (λ r. q == r) old)
left_lookup floor kept q old new h =
    write_by_number q new
    ∙ h
    ∙ by_found (find (λ p. is_at (nat_cmp q) p.0) old) refl
    ∙ ap (left_of floor kept q) (sym (lookup_find (is_at (nat_cmp q)) old))
    ∙ ap (left_of floor kept q) (sym (write_by_number q old))
  where
    by_found : (o : Option (ℕ × Write)) → find (λ p. is_at (nat_cmp q) p.0) old ≡ o → wanted_value (λ revision w. is_left floor kept revision w) o ≡ left_of floor kept q (option_map (λ (e : ℕ × Write). e.1) o)
    by_found None e = refl
    by_found (Some p) e =
        let same : q ≡ p.0 = eqb-true q p.0 (sym (is_eq-nat_cmp q p.0) ∙ found_passes (λ (f : ℕ × Write). is_at (nat_cmp q) f.0) old p e) in
        ap (λ r. cond (is_left floor kept r p.1) (Some p.1) None) (sym same)
