-- The last writes that the entries of the key trie have are the latest writes.
use Rattle.std.proofs.Common.{◌≡◌, ℕ, ◌<◌, Bool, true, false, cond, List, [], ◌∷◌, ◌++◌, Option, Some, None, length, map, filter, refl, sym, subst, ap, ◌∙◌, ⊎_elim, arith}
use Rattle.std.specs.Borrow.{Bor}
use Rattle.std.specs.Cmp.Lexicographic.{slice_cmp, nat_list_eq_equiv}
use Rattle.std.specs.List.{Contains, IsDistinct, flat_map, last_or}
use Rattle.std.specs.List.Sorted.{IsNonDecreasingBy, IsPermutation}
use Rattle.std.specs.Map.{keys_of, lookup}
use Rattle.std.specs.Option.{option_map, option_to_list}
use Rattle.std.specs.Ordering.{nat_cmp}
use Rattle.std.specs.Str.{bytes_eq}
use Rattle.std.proofs.lemmas.List.{get_or-map, length-map, map-append}
use Rattle.std.proofs.lemmas.List.Sorted.{Contains-permutation, IsPermutation-map, IsPermutation-sym}
use Rattle.std.proofs.lemmas.Map.Views.{lookup-from_Contains}
use Rattle.kv_trie.specs.Form.{Ascends, order}
use Rattle.kv_model.specs.declared.options.Start.TheVariants.{Latest}
use Rattle.kv_model.specs.Acts.{Act, Write}
use Rattle.kv_model.specs.Reads.{unless_empty}
use Rattle.kv_model.specs.Retained.{kept, last_write, latest, revisions}
use Rattle.kv_model.proofs.Found.{last_contained, last_write-kept, unless_empty-some}
use Rattle.kv_model.proofs.Members.{Contains-cases, Contains-from_filter, Contains-from_flat_map, Contains-from_map, Contains-here, Contains-map, Contains-none, Contains-there}
use Rattle.kv_model.proofs.Numbered.{counts_from_lawful}
use Rattle.kv_store.specs.Standing.{StandsFor}
use Rattle.kv_store.specs.Stored.{KeyHistory, Stored, write_at}
use Rattle.kv_store.specs.inside.Fields.{kept_entries, last_entries}
use Rattle.kv_store.specs.inside.Selected.{initial_of, initial_revisions, last_numbered, last_of_entry}
use Rattle.kv_trie.specs.Numbered.{lent, numbered_pair}
use Rattle.kv_store.proofs.Naming.{distinct_keys, gathered_are_initial, kept_keys}
use Rattle.kv_store.proofs.Reading.{history_some, initial_stored, kept_stored}
use Rattle.kv_store.proofs.Selecting.{last_kept}

pub map_twice : {X Y Z : Type 0} (f : X → Y) (g : Y → Z) (xs : List X) → map g (map f xs) ≡ map (λ x. g (f x)) xs
map_twice f g [] = refl
map_twice f g (x ∷ xs) = ap (λ ys. g (f x) ∷ ys) (map_twice f g xs)

pub rising_map : {X : Type 0} (n : X → ℕ) (xs : List X) → IsNonDecreasingBy n xs → IsNonDecreasingBy (λ k. k) (map n xs)
rising_map n [] h i j d l w = absurd (omega (arith, w))
rising_map n (x ∷ xs) h i j d l w =
    let long = length-map (x ∷ xs) n in
    let upper : j < length (x ∷ xs) = omega (arith, w, long) in
    let lower : i < length (x ∷ xs) = omega (arith, l, upper) in
    omega (arith, get_or-map n (x ∷ xs) i x d lower, get_or-map n (x ∷ xs) j x d upper, h i j x l upper)

-- ---- the revisions beside the writes

-- beside the last write stands the last of the kept revisions
beside_last : (kept : KeyHistory) → map (λ (x : ℕ × KeyHistory). x.0) (last_numbered kept) ≡ initial_revisions Latest kept.revisions
beside_last kept = by_last (last_or None kept.revisions)
  where
    by_last : (o : Option ℕ) → map (λ (x : ℕ × KeyHistory). x.0) (map (λ r. (r, kept)) (option_to_list o)) ≡ option_to_list o
    by_last None = refl
    by_last (Some r) = refl

beside_lasts : (wants : List ℕ → Bool) (es : List (List ℕ × KeyHistory)) → map (λ (x : ℕ × KeyHistory). x.0) (flat_map (last_of_entry wants) es) ≡ flat_map (initial_of wants Latest) es
beside_lasts wants [] = refl
beside_lasts wants (e ∷ es) =
    map-append (λ (x : ℕ × KeyHistory). x.0) (last_of_entry wants e) (flat_map (last_of_entry wants) es)
    ∙ ap (λ l. l ++ map (λ (x : ℕ × KeyHistory). x.0) (flat_map (last_of_entry wants) es)) (one (wants e.0))
    ∙ ap (λ l. initial_of wants Latest e ++ l) (beside_lasts wants es)
  where
    one : (b : Bool) → map (λ (x : ℕ × KeyHistory). x.0) (cond b (last_numbered e.1) []) ≡ cond b (initial_revisions Latest e.1.revisions) []
    one true = beside_last e.1
    one false = refl

-- ---- the writes are stored of these revisions

last_keys : (es : List (List ℕ × KeyHistory)) → keys_of (last_entries es) ≡ keys_of es
last_keys [] = refl
last_keys (e ∷ es) = ap (λ ks. e.0 ∷ ks) (last_keys es)

of_option : (o : Option ℕ) (r : ℕ) → Contains (option_to_list o) r → o ≡ Some r
of_option None r m = absurd (Contains-none r m)
of_option (Some q) r m = ⊎_elim (λ p. ap Some p) (λ k. absurd (Contains-none r k)) (Contains-cases q [] r m)

module _ (acts : List Act) (version : Stored) (stands : StandsFor acts version) (es : List (List ℕ × KeyHistory)) (keeps : (key : List ℕ) → lookup (λ k. bytes_eq key k) (kept_entries es) ≡ unless_empty (revisions (kept version.config.history key acts))) (lasts : (key : List ℕ) → lookup (λ k. bytes_eq key k) (last_entries es) ≡ last_write key acts) (apart : IsDistinct bytes_eq (keys_of es)) where
  entry_stored : (e : List ℕ × KeyHistory) → Contains es e → (r : ℕ) → last_or None e.1.revisions ≡ Some r → write_at r version ≡ Some e.1.last
  entry_stored e m r l =
      let h = version.config.history in
      let some = history_some version.config stands.legal in
      let counts = counts_from_lawful version.config acts stands.lawful in
      let kept_there : lookup (λ k. bytes_eq e.0 k) (kept_entries es) ≡ Some e.1.revisions = lookup-from_Contains nat_list_eq_equiv e.0 e.1.revisions (kept_entries es) (subst (IsDistinct bytes_eq) (sym (kept_keys es)) apart) (Contains-map (λ (x : List ℕ × KeyHistory). (x.0, x.1.revisions)) es e m) in
      let last_there : lookup (λ k. bytes_eq e.0 k) (last_entries es) ≡ Some e.1.last = lookup-from_Contains nat_list_eq_equiv e.0 e.1.last (last_entries es) (subst (IsDistinct bytes_eq) (sym (last_keys es)) apart) (Contains-map (λ (x : List ℕ × KeyHistory). (x.0, x.1.last)) es e m) in
      let written : last_write e.0 acts ≡ Some e.1.last = sym (lasts e.0) ∙ last_there in
      let same : revisions (kept h e.0 acts) ≡ e.1.revisions = unless_empty-some (revisions (kept h e.0 acts)) e.1.revisions (sym (keeps e.0) ∙ kept_there) in
      let both : Some r ≡ Some e.1.last.revision = sym l ∙ ap (last_or None) (sym same) ∙ last_kept h acts some counts e.0 ∙ ap (option_map (λ (w : Write). w.revision)) written in
      let there : Contains (kept h e.0 acts) e.1.last = last_contained (kept h e.0 acts) e.1.last (sym (last_write-kept h e.0 acts some) ∙ written) in
      let number : r ≡ e.1.last.revision = cc in
      ap (λ n. write_at n version) number ∙ kept_stored acts version e.0 e.1.last stands there

  of_entry : (b : Bool) (e : List ℕ × KeyHistory) → Contains es e → (x : ℕ × KeyHistory) → Contains (cond b (last_numbered e.1) []) x → write_at x.0 version ≡ Some x.1.last
  of_entry true e m x k =
      let of = Contains-from_map (λ (r : ℕ). (r, e.1)) (option_to_list (last_or None e.1.revisions)) x k in
      subst (λ (y : ℕ × KeyHistory). write_at y.0 version ≡ Some y.1.last) of.2 (entry_stored e m of.0 (of_option (last_or None e.1.revisions) of.0 of.1))
  of_entry false e m x k = absurd (Contains-none x k)

  last_stored : (wants : List ℕ → Bool) (x : ℕ × KeyHistory) → Contains (flat_map (last_of_entry wants) es) x → write_at x.0 version ≡ Some x.1.last
  last_stored wants x m =
      let part = Contains-from_flat_map (last_of_entry wants) es x m in
      of_entry (wants part.0.0) part.0 part.1 x part.2

-- writes that are stored of the same revisions are the same
same_writes : (version : Stored) (xs : List (ℕ × KeyHistory)) (ws : List Write) → ((x : ℕ × KeyHistory) → Contains xs x → write_at x.0 version ≡ Some x.1.last) → ((w : Write) → Contains ws w → write_at w.revision version ≡ Some w) → map (λ (x : ℕ × KeyHistory). x.0) xs ≡ revisions ws → map (λ (x : ℕ × KeyHistory). x.1.last) xs ≡ ws
same_writes version [] [] a b e = refl
same_writes version [] (w ∷ ws) a b e = cc
same_writes version (x ∷ xs) [] a b e = cc
same_writes version (x ∷ xs) (w ∷ ws) a b e =
    let first : x.0 ≡ w.revision = cc in
    let others : map (λ (y : ℕ × KeyHistory). y.0) xs ≡ revisions ws = cc in
    let both : Some x.1.last ≡ Some w = sym (a x (Contains-here x xs)) ∙ ap (λ r. write_at r version) first ∙ b w (Contains-here w ws) in
    let same : x.1.last ≡ w = cc in
    let rest = same_writes version xs ws (λ y m. a y (Contains-there x xs y m)) (λ v m. b v (Contains-there w ws v m)) others in
    ap (λ v. v ∷ map (λ (y : ℕ × KeyHistory). y.1.last) xs) same ∙ ap (λ vs. w ∷ vs) rest

-- the last writes of wanted keys, sorted by the revisions beside them, are the latest writes of these keys
pub lasts_are_latest : (acts : List Act) (version : Stored) → StandsFor acts version → (wants : List ℕ → Bool) (place : List ℕ → ℕ) (es : List (List ℕ × KeyHistory)) → ((key : List ℕ) → lookup (λ k. bytes_eq key k) (kept_entries es) ≡ unless_empty (revisions (kept version.config.history key acts))) → ((key : List ℕ) → lookup (λ k. bytes_eq key k) (last_entries es) ≡ last_write key acts) → Ascends (order (slice_cmp nat_cmp) place 7) es → (found : List (ℕ × Bor KeyHistory)) → IsPermutation (flat_map (last_of_entry wants) es) (lent found) → IsNonDecreasingBy (λ f. f.0) found → map (λ f. f.1.now.last) found ≡ filter (λ w. wants w.key) (latest acts)
lasts_are_latest acts version stands wants place es keeps lasts ascends found p s =
    let all = flat_map (last_of_entry wants) es in
    let xs = lent found in
    let ws = filter (λ w. wants w.key) (latest acts) in
    let of_all = subst (λ l. IsPermutation l (map (λ (x : ℕ × KeyHistory). x.0) xs)) (beside_lasts wants es) (IsPermutation-map (λ (x : ℕ × KeyHistory). x.0) all xs p) in
    let rising : IsNonDecreasingBy (λ n. n) (map (λ (x : ℕ × KeyHistory). x.0) xs) = subst (IsNonDecreasingBy (λ n. n)) (sym (map_twice (λ (f : ℕ × Bor KeyHistory). (f.0, f.1.now)) (λ (x : ℕ × KeyHistory). x.0) found)) (rising_map (λ (f : ℕ × Bor KeyHistory). f.0) found s) in
    let named = gathered_are_initial version.config.history acts (history_some version.config stands.legal) (counts_from_lawful version.config acts stands.lawful) wants Latest place es keeps ascends (map (λ (x : ℕ × KeyHistory). x.0) xs) of_all rising in
    sym (map_twice (λ (f : ℕ × Bor KeyHistory). (f.0, f.1.now)) (λ (x : ℕ × KeyHistory). x.1.last) found)
    ∙ same_writes version xs ws
    (λ x m. last_stored acts version stands es keeps lasts (distinct_keys place 7 es ascends) wants x (Contains-permutation xs all x (IsPermutation-sym all xs p) m))
    (λ w m. initial_stored acts version Latest w stands (Contains-from_filter (λ v. wants v.key) (latest acts) w m).0) named

-- ---- the puts among them

-- the references that stay are those to what has a write that stays
pub puts_among : (p : Write → Bool) (found : List (ℕ × Bor KeyHistory)) → map (λ f. f.1.now.last) (filter (λ f. p f.1.now.last) found) ≡ filter p (map (λ f. f.1.now.last) found)
puts_among p [] = refl
puts_among p (f ∷ fs) =
    elim (p f.1.now.last) as (λ b. map (λ (g : ℕ × Bor KeyHistory). g.1.now.last) (cond b (f ∷ filter (λ g. p g.1.now.last) fs) (filter (λ g. p g.1.now.last) fs)) ≡ cond b (f.1.now.last ∷ filter p (map (λ (g : ℕ × Bor KeyHistory). g.1.now.last) fs)) (filter p (map (λ (g : ℕ × Bor KeyHistory). g.1.now.last) fs))) [
      | true ↦ ap (λ ws. f.1.now.last ∷ ws) (puts_among p fs)
      | false ↦ puts_among p fs
    ]

-- what is read of the last writes themselves
pub read_through : {Y : Type 0} (read : Write → Y) (found : List (ℕ × Bor KeyHistory)) → map (λ f. read f.1.now.last) found ≡ map read (map (λ f. f.1.now.last) found)
read_through read found = sym (map_twice (λ (f : ℕ × Bor KeyHistory). f.1.now.last) read found)

-- ---- what a walk finds

-- what has a number is what is stored of wanted keys
pub numbered_alike : (wants : List ℕ → Bool) (es : List (List ℕ × KeyHistory)) → flat_map (numbered_pair (λ key (kept : KeyHistory). cond (wants key) (last_or None kept.revisions) None)) es ≡ flat_map (last_of_entry wants) es
numbered_alike wants [] = refl
numbered_alike wants (e ∷ es) =
    ap (λ l. l ++ flat_map (numbered_pair (λ key (kept : KeyHistory). cond (wants key) (last_or None kept.revisions) None)) es) (one (wants e.0))
    ∙ ap (λ l. last_of_entry wants e ++ l) (numbered_alike wants es)
  where
    one : (b : Bool) → map (λ n. (n, e.1)) (option_to_list (cond b (last_or None e.1.revisions) None)) ≡ cond b (last_numbered e.1) []
    one true = refl
    one false = refl
