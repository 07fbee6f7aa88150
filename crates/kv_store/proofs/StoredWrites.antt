-- The entries of the trie of revisions, sorted by these, are the stored writes.
use Rattle.std.proofs.Common.{◌≡◌, ℕ, Bool, true, false, cond, eqb, ◌==◌, List, [], ◌∷◌, Some, map, refl, sym, subst, ap, ◌∙◌}
use Rattle.std.specs.Borrow.{Bor}
use Rattle.std.specs.List.{Contains, IsDistinct, AllByRecursion, find, flat_map}
use Rattle.std.specs.List.Sorted.{IsPermutation, IsNonDecreasingBy}
use Rattle.std.specs.Map.{keys_of}
use Rattle.std.specs.Prelude.{Result, Ok, Err, IfOk}
use Rattle.std.specs.Ordering.{nat_cmp}
use Rattle.std.specs.declared.cmp.Ordering.TheVariants.{Less, Equal}
use Rattle.std.proofs.lemmas.Bool.{eqb-true}
use Rattle.std.proofs.lemmas.Cmp.{tied_itself, nat_cmp_total, nat_eq_equiv}
use Rattle.std.proofs.lemmas.List.Sorted.{IsPermutation-map, IsPermutation-sym, Contains-permutation}
use Rattle.std.proofs.lemmas.Map.Keys.{IsStrictlyIncreasing-from_distinct, IsDistinct-IsPermutation}
use Rattle.std.proofs.lemmas.Map.Views.{Contains-from_lookup, lookup-from_Contains}
use Rattle.kv_trie.specs.Form.{Ascends, Each, order}
use Rattle.kv_trie.specs.Numbered.{lent, numbered_pair}
use Rattle.kv_trie.proofs.Maps.{order_total}
use Rattle.kv_model.specs.Acts.{Act, Write, writes_of}
use Rattle.kv_model.specs.Compaction.{is_stored, stored_writes}
use Rattle.kv_model.specs.Retained.{revisions}
use Rattle.kv_model.proofs.Found.{write_at-member}
use Rattle.kv_model.proofs.Members.{Contains-here, Contains-there, Contains-map, Contains-from_map, Contains-from_filter}
use Rattle.kv_model.proofs.Numbered.{counts_from_lawful, increasing_counted}
use Rattle.kv_model.proofs.Rising.{HaveSameMembers, same_rising}
use Rattle.kv_store.specs.Standing.{StandsFor}
use Rattle.kv_store.specs.Stored.{Stored, write_at}
use Rattle.kv_store.proofs.Latest.{map_twice, rising_map}
use Rattle.kv_store.proofs.Naming.{eqb_flips}

-- ---- the revisions of entries that ascend differ

module _ {V : Type 0} (place : ℕ → ℕ) (left : ℕ) where
  past : (e : ℕ × V) (es : List (ℕ × V)) → Each (λ f. order nat_cmp place left e.0 f.0 ≡ Less) es → AllByRecursion (λ k. eqb e.0 k ≡ false) (keys_of es)
  past e [] h = tt
  past e (f ∷ fs) h = (differ (eqb e.0 f.0) refl, past e fs h.1)
    where
      differ : (b : Bool) → eqb e.0 f.0 ≡ b → b ≡ false
      differ true t =
          let same : e.0 ≡ f.0 = eqb-true e.0 f.0 t in
          let tied = tied_itself (order_total nat_cmp_total place left) e.0 in
          let below = subst (λ k. order nat_cmp place left e.0 k ≡ Less) (sym same) h.0 in
          let clash : Equal ≡ Less = sym tied ∙ below in
          cc
      differ false t = refl

  apart : (es : List (ℕ × V)) → Ascends (order nat_cmp place left) es → IsDistinct eqb (keys_of es)
  unfolding IsDistinct
  apart [] a = tt
  apart (e ∷ es) a = (past e es a.0, apart es a.1)

-- ---- all entries are found behind their revisions

pub all_numbered : (es : List (ℕ × Write)) → flat_map (numbered_pair (λ revision (write : Write). Some revision)) es ≡ es
all_numbered [] = refl
all_numbered (e ∷ es) = ap (λ l. e ∷ l) (all_numbered es)

-- ---- they are the stored writes

-- writes that are stored of the same revisions are the same
same_writes : (version : Stored) (xs : List (ℕ × Write)) (ws : List Write) → ((x : ℕ × Write) → Contains xs x → write_at x.0 version ≡ Some x.1) → ((w : Write) → Contains ws w → write_at w.revision version ≡ Some w) → map (λ (x : ℕ × Write). x.0) xs ≡ revisions ws → map (λ (x : ℕ × Write). x.1) xs ≡ ws
same_writes version [] [] a b e = refl
same_writes version [] (w ∷ ws) a b e = cc
same_writes version (x ∷ xs) [] a b e = cc
same_writes version (x ∷ xs) (w ∷ ws) a b e =
    let first : x.0 ≡ w.revision = cc in
    let others : map (λ (y : ℕ × Write). y.0) xs ≡ revisions ws = cc in
    let both : Some x.1 ≡ Some w = sym (a x (Contains-here x xs)) ∙ ap (λ r. write_at r version) first ∙ b w (Contains-here w ws) in
    let same : x.1 ≡ w = cc in
    let rest = same_writes version xs ws (λ y m. a y (Contains-there x xs y m)) (λ v m. b v (Contains-there w ws v m)) others in
    ap (λ v. v ∷ map (λ (y : ℕ × Write). y.1) xs) same ∙ ap (λ vs. w ∷ vs) rest

-- what is found is there, and is what was looked for
found_there : (p : Write → Bool) (ws : List Write) (w : Write) → find p ws ≡ Some w → Contains ws w × (p w ≡ true)
found_there p [] w e = cc
found_there p (v ∷ vs) w e = by_test (found_there p vs w) (p v) refl e
  where
    by_test : (find p vs ≡ Some w → Contains vs w × (p w ≡ true)) → (b : Bool) → p v ≡ b → cond b (Some v) (find p vs) ≡ Some w → Contains (v ∷ vs) w × (p w ≡ true)
    by_test later true t k =
        let same : v ≡ w = cc in
        (subst (Contains (v ∷ vs)) same (Contains-here v vs), subst (λ u. p u ≡ true) same t)
    by_test later false t k =
        let rest = later k in
        (Contains-there v vs w rest.0, rest.1)

module _ (acts : List Act) (version : Stored) (stands : StandsFor acts version) (place : ℕ → ℕ) (ascends : Ascends (order nat_cmp place 7) version.by_revision) where
  entry_stored : (x : ℕ × Write) → Contains version.by_revision x → write_at x.0 version ≡ Some x.1
  entry_stored x m = lookup-from_Contains nat_eq_equiv x.0 x.1 version.by_revision (apart place 7 version.by_revision ascends) m

  write_stored : (w : Write) → Contains (stored_writes version.config.history acts) w → write_at w.revision version ≡ Some w
  write_stored w m =
      let passes = Contains-from_filter (is_stored version.config.history acts) (writes_of acts) w m in
      stands.written w.revision ∙ write_at-member version.config.history acts w (counts_from_lawful version.config acts stands.lawful) passes.0 passes.1

  same_members : HaveSameMembers (map (λ (x : ℕ × Write). x.0) version.by_revision) (revisions (stored_writes version.config.history acts))
  same_members n = (there, back)
    where
      there : Contains (map (λ (x : ℕ × Write). x.0) version.by_revision) n → Contains (revisions (stored_writes version.config.history acts)) n
      there m =
          let ws = stored_writes version.config.history acts in
          let entry = Contains-from_map (λ (x : ℕ × Write). x.0) version.by_revision n m in
          let written = found_there (λ w. w.revision == entry.0.0) ws entry.0.1 (sym (stands.written entry.0.0) ∙ entry_stored entry.0 entry.1) in
          subst (Contains (revisions ws)) (eqb-true entry.0.1.revision entry.0.0 written.1 ∙ entry.2) (Contains-map (λ (w : Write). w.revision) ws entry.0.1 written.0)

      back : Contains (revisions (stored_writes version.config.history acts)) n → Contains (map (λ (x : ℕ × Write). x.0) version.by_revision) n
      back m =
          let ws = stored_writes version.config.history acts in
          let found = Contains-from_map (λ (w : Write). w.revision) ws n m in
          let entry = Contains-from_lookup eqb-true found.0.revision found.0 version.by_revision (write_stored found.0 found.1) in
          subst (Contains (map (λ (x : ℕ × Write). x.0) version.by_revision)) found.2 (Contains-map (λ (x : ℕ × Write). x.0) version.by_revision (found.0.revision, found.0) entry)

  -- the entries, sorted, are the stored writes
  pub sorted_are_stored : (found : List (ℕ × Bor Write)) → IsPermutation version.by_revision (lent found) → IsNonDecreasingBy (λ f. f.0) found → map (λ f. f.1.now) found ≡ stored_writes version.config.history acts
  sorted_are_stored found p s =
      let xs = lent found in
      let ws = stored_writes version.config.history acts in
      let ns = map (λ (x : ℕ × Write). x.0) xs in
      let of_all = IsPermutation-map (λ (x : ℕ × Write). x.0) version.by_revision xs p in
      let rising : IsNonDecreasingBy (λ n. n) ns = subst (IsNonDecreasingBy (λ n. n)) (sym (map_twice (λ (f : ℕ × Bor Write). (f.0, f.1.now)) (λ (x : ℕ × Write). x.0) found)) (rising_map (λ (f : ℕ × Bor Write). f.0) found s) in
      let strictly = IsStrictlyIncreasing-from_distinct ns rising (IsDistinct-IsPermutation eqb eqb_flips (map (λ (x : ℕ × Write). x.0) version.by_revision) ns of_all (apart place 7 version.by_revision ascends)) in
      let named : ns ≡ revisions ws = same_rising ns (revisions ws) strictly (increasing_counted (is_stored version.config.history acts) (writes_of acts) (counts_from_lawful version.config acts stands.lawful))
      (λ n. ((λ m. (same_members n).0 (Contains-permutation ns (map (λ (x : ℕ × Write). x.0) version.by_revision) n (IsPermutation-sym (map (λ (x : ℕ × Write). x.0) version.by_revision) ns of_all) m)), (λ m. Contains-permutation (map (λ (x : ℕ × Write). x.0) version.by_revision) ns n of_all ((same_members n).1 m)))) in
      sym (map_twice (λ (f : ℕ × Bor Write). (f.0, f.1.now)) (λ (x : ℕ × Write). x.1) found)
      ∙ same_writes version xs ws (λ x m. entry_stored x (Contains-permutation xs version.by_revision x (IsPermutation-sym version.by_revision xs p) m)) write_stored named

-- the same of writes that were found, if they were
pub found_are_stored : {R E : Type 0} (version : Stored) (place : ℕ → ℕ) → Ascends (order nat_cmp place 7) version.by_revision → (items : R → List (ℕ × Bor Write)) (r : Result R E) → IfOk r (λ v. IsPermutation version.by_revision (lent (items v))) → IfOk r (λ v. IsNonDecreasingBy (λ f. f.0) (items v)) → IfOk r (λ v. (acts : List Act) → StandsFor acts version → map (λ f. f.1.now) (items v) ≡ stored_writes version.config.history acts)
found_are_stored version place ascends items (Ok v) p s = λ acts stands. sorted_are_stored acts version stands place ascends (items v) p s
found_are_stored version place ascends items (Err error) p s = tt
