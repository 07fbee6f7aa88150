-- The entries of the key trie name the selected writes, each once.
use Rattle.std.proofs.Common.{◌≡◌, ℕ, ◌<◌, Bool, true, false, cond, eqb, List, [], ◌∷◌, ◌++◌, Some, length, filter, refl, sym, subst, ap, ◌∙◌, arith}
use Rattle.std.specs.List.{Contains, IsDistinct, flat_map, AllByRecursion}
use Rattle.std.specs.List.Sorted.{IsStrictlyIncreasing, IsPermutation, IsNonDecreasingBy}
use Rattle.std.specs.Map.{lookup, keys_of}
use Rattle.std.specs.Ordering.{nat_cmp}
use Rattle.std.specs.Str.{bytes_eq}
use Rattle.std.specs.Cmp.Lexicographic.{slice_cmp, nat_list_eq_equiv, nat_list_cmp_total}
use Rattle.std.specs.declared.cmp.Ordering.TheVariants.{Less, Equal}
use Rattle.std.proofs.lemmas.Bool.Decides.{nat_tests}
use Rattle.std.proofs.lemmas.Cmp.{tied_itself}
use Rattle.std.proofs.lemmas.List.{length-map}
use Rattle.std.proofs.lemmas.List.Sorted.{IsPermutation-sym, Contains-permutation}
use Rattle.std.proofs.lemmas.Map.Keys.{IsStrictlyIncreasing-from_distinct, IsDistinct-IsPermutation}
use Rattle.std.proofs.lemmas.Map.Views.{Contains-from_lookup, lookup-from_Contains}
use Rattle.std.proofs.lemmas.Slice.Eq.{bytes_eq-Decides}
use Rattle.kv_trie.specs.Form.{Ascends, Each, order}
use Rattle.kv_trie.proofs.Maps.{order_total}
use Rattle.kv_model.specs.declared.options.Start.{Start}
use Rattle.kv_model.specs.declared.options.Start.TheVariants.{Latest, History, Updates, From}
use Rattle.kv_model.specs.Acts.{Act, Write, writes_of}
use Rattle.kv_model.specs.Given.{initial}
use Rattle.kv_store.specs.Stored.{KeyHistory}
use Rattle.kv_store.specs.inside.Fields.{kept_entries}
use Rattle.kv_model.specs.Reads.{unless_empty}
use Rattle.kv_model.specs.Retained.{kept, retained, revisions}
use Rattle.kv_store.specs.inside.Compacted.{all_kept}
use Rattle.kv_store.specs.inside.Selected.{initial_revisions, initial_of}
use Rattle.kv_store.proofs.Distinct.{AllApart, distinct_parts, distinct_rising, same_length}
use Rattle.kv_model.proofs.Members.{Contains-none, Contains-map, Contains-from_map, Contains-filter, Contains-from_filter, Contains-flat_map, Contains-from_flat_map, filter_all}
use Rattle.kv_model.proofs.Numbered.{CountsFrom}
use Rattle.kv_model.proofs.Rising.{HaveSameMembers, same_rising}
use Rattle.kv_store.proofs.Selecting.{initial_of_key, increasing_initial, initial_is_written, one_write}

-- ---- the keys of entries that ascend differ

module _ {V : Type 0} (place : List ℕ → ℕ) (left : ℕ) where
  keys_past : (e : List ℕ × V) (es : List (List ℕ × V)) → Each (λ f. order (slice_cmp nat_cmp) place left e.0 f.0 ≡ Less) es → AllByRecursion (λ k. bytes_eq e.0 k ≡ false) (keys_of es)
  keys_past e [] h = tt
  keys_past e (f ∷ fs) h = (differ (bytes_eq e.0 f.0) refl, keys_past e fs h.1)
    where
      differ : (b : Bool) → bytes_eq e.0 f.0 ≡ b → b ≡ false
      differ true t =
          let same : e.0 ≡ f.0 = (bytes_eq-Decides e.0 f.0).0 t in
          let tied = tied_itself (order_total nat_list_cmp_total place left) e.0 in
          let below = subst (λ k. order (slice_cmp nat_cmp) place left e.0 k ≡ Less) (sym same) h.0 in
          let clash : Equal ≡ Less = sym tied ∙ below in
          cc
      differ false t = refl

  pub distinct_keys : (es : List (List ℕ × V)) → Ascends (order (slice_cmp nat_cmp) place left) es → IsDistinct bytes_eq (keys_of es)
  unfolding IsDistinct
  distinct_keys [] a = tt
  distinct_keys (e ∷ es) a = (keys_past e es a.0, distinct_keys es a.1)

all_keys : (P : List ℕ → Type 0) (es : List (List ℕ × List ℕ)) → AllByRecursion P (keys_of es) → AllByRecursion (λ e. P e.0) es
all_keys P [] h = tt
all_keys P (e ∷ es) h = (h.0, all_keys P es h.1)

keys_apart : (es : List (List ℕ × List ℕ)) → IsDistinct bytes_eq (keys_of es) → AllApart (λ p q. bytes_eq p.0 q.0 ≡ false) es
unfolding IsDistinct
keys_apart [] d = tt
keys_apart (e ∷ es) d = (all_keys (λ k. bytes_eq e.0 k ≡ false) es d.0, keys_apart es d.1)

-- ---- what is read of the key trie

pub kept_keys : (es : List (List ℕ × KeyHistory)) → keys_of (kept_entries es) ≡ keys_of es
kept_keys [] = refl
kept_keys (e ∷ es) = ap (λ ks. e.0 ∷ ks) (kept_keys es)

named : (List ℕ → Bool) → Start → List ℕ × List ℕ → List ℕ
named wants start e = cond (wants e.0) (initial_revisions start e.1) []

-- the entries of the key trie have each key once
pub distinct_kept : (place : List ℕ → ℕ) (es : List (List ℕ × KeyHistory)) → Ascends (order (slice_cmp nat_cmp) place 7) es → IsDistinct bytes_eq (keys_of (kept_entries es))
distinct_kept place es ascends = subst (IsDistinct bytes_eq) (sym (kept_keys es)) (distinct_keys place 7 es ascends)

named_kept : (wants : List ℕ → Bool) (start : Start) (es : List (List ℕ × KeyHistory)) → flat_map (initial_of wants start) es ≡ flat_map (named wants start) (kept_entries es)
unfolding named
named_kept wants start [] = refl
named_kept wants start (e ∷ es) = ap (λ rs. initial_of wants start e ++ rs) (named_kept wants start es)

present : (start : Start) (rs : List ℕ) (n : ℕ) → Contains (initial_revisions start rs) n → unless_empty rs ≡ Some rs
present Latest [] n m = absurd (Contains-none n m)
present History [] n m = absurd (Contains-none n m)
present Updates [] n m = absurd (Contains-none n m)
present Updates (r ∷ rs) n m = absurd (Contains-none n m)
present (From first) [] n m = absurd (Contains-none n m)
present start (r ∷ rs) n m = refl

unless_empty-some : {X : Type 0} (xs ys : List X) → unless_empty xs ≡ Some ys → xs ≡ ys
unless_empty-some [] ys h = cc
unless_empty-some (x ∷ xs) ys h = cc

pub eqb_flips : (x y : ℕ) → eqb x y ≡ eqb y x
eqb_flips x y = grind (arith, nat_tests)

module _ (h : ℕ) (acts : List Act) (some : 0 < h) (counts : CountsFrom 1 (writes_of acts)) (wants : List ℕ → Bool) (start : Start) (entries : List (List ℕ × List ℕ)) (keeps : (key : List ℕ) → lookup (λ k. bytes_eq key k) entries ≡ unless_empty (revisions (kept h key acts))) (apart : IsDistinct bytes_eq (keys_of entries)) where
  entry_kept : (e : List ℕ × List ℕ) → Contains entries e → revisions (kept h e.0 acts) ≡ e.1
  entry_kept e m = unless_empty-some (revisions (kept h e.0 acts)) e.1 (sym (keeps e.0) ∙ lookup-from_Contains nat_list_eq_equiv e.0 e.1 entries apart m)

  entry_initial : (e : List ℕ × List ℕ) → Contains entries e → revisions (filter (λ w. bytes_eq w.key e.0) (initial h start acts)) ≡ initial_revisions start e.1
  entry_initial e m = initial_of_key h acts some counts start e.0 ∙ ap (initial_revisions start) (entry_kept e m)

  -- what an entry names is the revision of a selected write of its key
  owner : (e : List ℕ × List ℕ) (n : ℕ) → Contains entries e → Contains (named wants start e) n → (w : Write) × Contains (initial h start acts) w × (w.key ≡ e.0) × (w.revision ≡ n) × (wants e.0 ≡ true)
  unfolding named
  owner e n m k = by_test (wants e.0) refl k
    where
      by_test : (b : Bool) → wants e.0 ≡ b → Contains (cond b (initial_revisions start e.1) []) n → (w : Write) × Contains (initial h start acts) w × (w.key ≡ e.0) × (w.revision ≡ n) × (wants e.0 ≡ true)
      by_test true t j =
          let of = filter (λ w. bytes_eq w.key e.0) (initial h start acts) in
          let found = Contains-from_map (λ (w : Write). w.revision) of n (subst (λ rs. Contains rs n) (sym (entry_initial e m)) j) in
          let passes = Contains-from_filter (λ w. bytes_eq w.key e.0) (initial h start acts) found.0 found.1 in
          (found.0, passes.0, (bytes_eq-Decides found.0.key e.0).0 passes.1, found.2, t)
      by_test false t j = absurd (Contains-none n j)

  by_test : (b : Bool) (rs : List ℕ) → IsStrictlyIncreasing rs → IsDistinct eqb (cond b rs [])
  by_test true rs r = distinct_rising rs r
  by_test false rs r = distinct_rising [] (λ k l. absurd (omega (arith, l)))

  alone : (e : List ℕ × List ℕ) → Contains entries e → IsDistinct eqb (named wants start e)
  unfolding named
  alone e m =
      by_test (wants e.0) (initial_revisions start e.1) (subst IsStrictlyIncreasing (entry_initial e m) (increasing_initial h acts some counts start (λ w. bytes_eq w.key e.0)))

  distinct_named : IsDistinct eqb (flat_map (named wants start) entries)
  distinct_named = distinct_parts (named wants start) (λ p q. bytes_eq p.0 q.0 ≡ false) entries alone two (keys_apart entries apart)
    where
      two : (p q : List ℕ × List ℕ) (n : ℕ) → Contains entries p → Contains entries q → Contains (named wants start p) n → Contains (named wants start q) n → bytes_eq p.0 q.0 ≡ false → ⊥
      two p q n mp mq kp kq f =
          let v = owner p n mp kp in
          let w = owner q n mq kq in
          let written = initial_is_written h acts some counts start in
          let same = one_write 1 (writes_of acts) v.0 w.0 counts (written v.0 v.1) (written w.0 w.1) (v.3 ∙ sym w.3) in
          let keys : p.0 ≡ q.0 = sym v.2 ∙ ap (λ (u : Write). u.key) same ∙ w.2 in
          let clash : bytes_eq p.0 q.0 ≡ true = (bytes_eq-Decides p.0 q.0).1 keys in
          cc

  members_named : HaveSameMembers (flat_map (named wants start) entries) (revisions (filter (λ w. wants w.key) (initial h start acts)))
  unfolding named
  members_named n = (there, back)
    where
      there : Contains (flat_map (named wants start) entries) n → Contains (revisions (filter (λ w. wants w.key) (initial h start acts))) n
      there m =
          let part = Contains-from_flat_map (named wants start) entries n m in
          let w = owner part.0 n part.1 part.2 in
          let passes = Contains-filter (λ v. wants v.key) (initial h start acts) w.0 w.1 (ap wants w.2 ∙ w.4) in
          subst (λ r. Contains (revisions (filter (λ v. wants v.key) (initial h start acts))) r) w.3 (Contains-map (λ v. v.revision) (filter (λ v. wants v.key) (initial h start acts)) w.0 passes)

      back : Contains (revisions (filter (λ w. wants w.key) (initial h start acts))) n → Contains (flat_map (named wants start) entries) n
      back m =
          let found = Contains-from_map (λ (w : Write). w.revision) (filter (λ w. wants w.key) (initial h start acts)) n m in
          let w = found.0 in
          let passes = Contains-from_filter (λ v. wants v.key) (initial h start acts) w found.1 in
          let rs = revisions (kept h w.key acts) in
          let own = Contains-filter (λ v. bytes_eq v.key w.key) (initial h start acts) w passes.0 ((bytes_eq-Decides w.key w.key).1 refl) in
          let listed : Contains (initial_revisions start rs) n = subst (λ r. Contains (initial_revisions start rs) r) found.2 (subst (λ l. Contains l w.revision) (initial_of_key h acts some counts start w.key) (Contains-map (λ v. v.revision) (filter (λ v. bytes_eq v.key w.key) (initial h start acts)) w own)) in
          let entry = Contains-from_lookup (λ x y t. (bytes_eq-Decides x y).0 t) w.key rs entries (keeps w.key ∙ present start rs n listed) in
          Contains-flat_map (named wants start) entries (w.key, rs) n entry (subst (λ b. Contains (cond b (initial_revisions start rs) []) n) (sym passes.1) listed)

  -- as many are named
  count_named : length (flat_map (named wants start) entries) ≡ length (filter (λ w. wants w.key) (initial h start acts))
  count_named =
      let ws = filter (λ w. wants w.key) (initial h start acts) in
      same_length (flat_map (named wants start) entries) (revisions ws) distinct_named (distinct_rising (revisions ws) (increasing_initial h acts some counts start (λ w. wants w.key))) members_named
      ∙ length-map ws (λ w. w.revision)

  -- what is named, in order, are the revisions of the selected writes of wanted keys
  sorted_named : (xs : List ℕ) → IsPermutation (flat_map (named wants start) entries) xs → IsNonDecreasingBy (λ n. n) xs → xs ≡ revisions (filter (λ w. wants w.key) (initial h start acts))
  sorted_named xs p s =
      let all = flat_map (named wants start) entries in
      let rising = IsStrictlyIncreasing-from_distinct xs s (IsDistinct-IsPermutation eqb eqb_flips all xs p distinct_named) in
      same_rising xs (revisions (filter (λ w. wants w.key) (initial h start acts))) rising (increasing_initial h acts some counts start (λ w. wants w.key))
      (λ n. ((λ m. (members_named n).0 (Contains-permutation xs all n (IsPermutation-sym all xs p) m)), (λ m. Contains-permutation all xs n p ((members_named n).1 m))))

-- all entries together keep as many revisions as there are retained writes
pub kept_counted : (h : ℕ) (acts : List Act) → 0 < h → CountsFrom 1 (writes_of acts) → (entries : List (List ℕ × List ℕ)) → ((key : List ℕ) → lookup (λ k. bytes_eq key k) entries ≡ unless_empty (revisions (kept h key acts))) → IsDistinct bytes_eq (keys_of entries) → length (all_kept entries) ≡ length (retained h acts)
unfolding named
kept_counted h acts some counts entries keeps apart =
    count_named h acts some counts (λ key. true) History entries keeps apart
    ∙ ap length (filter_all (λ w. true) (retained h acts) (λ w m. refl))

-- the same of the key trie
pub gathered_are_initial : (h : ℕ) (acts : List Act) → 0 < h → CountsFrom 1 (writes_of acts) → (wants : List ℕ → Bool) (start : Start) (place : List ℕ → ℕ) (es : List (List ℕ × KeyHistory)) → ((key : List ℕ) → lookup (λ k. bytes_eq key k) (kept_entries es) ≡ unless_empty (revisions (kept h key acts))) → Ascends (order (slice_cmp nat_cmp) place 7) es → (xs : List ℕ) → IsPermutation (flat_map (initial_of wants start) es) xs → IsNonDecreasingBy (λ n. n) xs → xs ≡ revisions (filter (λ w. wants w.key) (initial h start acts))
gathered_are_initial h acts some counts wants start place es keeps ascends xs p s =
    sorted_named h acts some counts wants start (kept_entries es) keeps
    (distinct_kept place es ascends)
    xs (subst (λ l. IsPermutation l xs) (named_kept wants start es) p) s
