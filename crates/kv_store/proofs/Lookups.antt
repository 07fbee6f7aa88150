-- What is found in the entries of the two tries.
use Rattle.std.proofs.Common.{◌≡◌, ℕ, suc, ◌+◌, ◌<◌, ◌≤◌, Bool, true, false, cond, ◌==◌, List, [], ◌∷◌, Some, None, length, refl, sym, ap, ◌∙◌, arith, rules, Ordering}
use Rattle.std.specs.Prelude.{All, map}
use Rattle.std.specs.declared.cmp.Ordering.TheVariants.{Less, Equal, Greater}
use Rattle.std.specs.BTreeMap.{is_at}
use Rattle.std.specs.Ordering.{nat_cmp, is_eq, match_ordering}
use Rattle.std.specs.Cmp.Lexicographic.{slice_cmp}
use Rattle.std.specs.Map.{lookup}
use Rattle.std.specs.Option.{option_map}
use Rattle.std.specs.Str.{bytes_eq}
use Rattle.std.proofs.lemmas.Bool.{ne_eqb}
use Rattle.std.proofs.lemmas.List.Elements.{All-cons, All-head, All-tail}
use Rattle.std.proofs.lemmas.Map.Made.{lookup-map_values}
use Rattle.std.proofs.lemmas.Map.Text.{is_eq-slice_cmp}
use Rattle.kv_trie.specs.Form.{put_pair}
use Rattle.kv_store.specs.Stored.{KeyHistory}
use Rattle.kv_store.specs.inside.Fields.{kept_entries}

-- two tests that say the same find the same
pub lookup-agree : {K X : Type 0} (p q : K → Bool) → ((k : K) → p k ≡ q k) → (es : List (K × X)) → lookup p es ≡ lookup q es
lookup-agree p q h [] = refl
lookup-agree p q h (e ∷ es) = rw (h e.0, lookup-agree p q h es) refl

-- something of the entries of the key trie is found by the bytes of the key
pub by_bytes : {X : Type 0} (part : KeyHistory → X) (key : List ℕ) (es : List (List ℕ × KeyHistory)) → lookup (λ k. bytes_eq key k) (map (λ e. (e.0, part e.1)) es) ≡ option_map part (lookup (is_at (slice_cmp nat_cmp key)) es)
by_bytes part key es =
    lookup-map_values part (λ k. bytes_eq key k) es
    ∙ ap (option_map part) (lookup-agree (λ k. bytes_eq key k) (is_at (slice_cmp nat_cmp key)) (λ k. sym (is_eq-slice_cmp key k)) es)

pub is_eq-nat_cmp : (a b : ℕ) → is_eq (nat_cmp a b) ≡ (a == b)
is_eq-nat_cmp a b = search rules

-- a revision is found by its number
pub write_by_number : {X : Type 0} (revision : ℕ) (es : List (ℕ × X)) → lookup (λ r. revision == r) es ≡ lookup (is_at (nat_cmp revision)) es
write_by_number revision es = lookup-agree (λ r. revision == r) (is_at (nat_cmp revision)) (λ r. sym (is_eq-nat_cmp revision r)) es

-- and none above all that are stored
pub none_above : {X : Type 0} (revision last : ℕ) (es : List (ℕ × X)) → All (λ (e : ℕ × X). e.0 ≤ last) es → last < revision → lookup (λ r. revision == r) es ≡ None
none_above revision last [] h l = refl
none_above {X} revision last (e ∷ es) h l =
    let small : e.0 ≤ last = All-head (λ (e : ℕ × X). e.0 ≤ last) e es h in
    rw (ne_eqb revision e.0 (λ same. omega (arith, same, small)), none_above revision last es (All-tail (λ (e : ℕ × X). e.0 ≤ last) e es h) l) refl

pub length-kept_entries : (es : List (List ℕ × KeyHistory)) → length (kept_entries es) ≡ length es
length-kept_entries [] = refl
length-kept_entries (e ∷ es) = ap suc (length-kept_entries es)

-- ---- after a pair is put

pub more_by_bytes : {X : Type 0} (part : KeyHistory → X) (key q : List ℕ) (kept : KeyHistory) (old new : List (List ℕ × KeyHistory)) → lookup (is_at (slice_cmp nat_cmp q)) new ≡ cond (is_at (slice_cmp nat_cmp key) q) (Some kept) (lookup (is_at (slice_cmp nat_cmp q)) old) → lookup (λ k. bytes_eq q k) (map (λ e. (e.0, part e.1)) new) ≡ cond (bytes_eq key q) (Some (part kept)) (lookup (λ k. bytes_eq q k) (map (λ e. (e.0, part e.1)) old))
more_by_bytes part key q kept old new h =
    by_bytes part q new
    ∙ ap (option_map part) h
    ∙ inside (is_at (slice_cmp nat_cmp key) q)
    ∙ ap (λ b. cond b (Some (part kept)) (option_map part (lookup (is_at (slice_cmp nat_cmp q)) old))) (is_eq-slice_cmp key q)
    ∙ ap (cond (bytes_eq key q) (Some (part kept))) (sym (by_bytes part q old))
  where
    inside : (b : Bool) → option_map part (cond b (Some kept) (lookup (is_at (slice_cmp nat_cmp q)) old)) ≡ cond b (Some (part kept)) (option_map part (lookup (is_at (slice_cmp nat_cmp q)) old))
    inside true = refl
    inside false = refl

pub written_more : {X : Type 0} (number r : ℕ) (x : X) (old new : List (ℕ × X)) → lookup (is_at (nat_cmp r)) new ≡ cond (is_at (nat_cmp number) r) (Some x) (lookup (is_at (nat_cmp r)) old) → lookup (λ n. r == n) new ≡ cond (number == r) (Some x) (lookup (λ n. r == n) old)
written_more number r x old new h =
    write_by_number r new
    ∙ h
    ∙ ap (λ b. cond b (Some x) (lookup (is_at (nat_cmp r)) old)) (is_eq-nat_cmp number r)
    ∙ ap (cond (number == r) (Some x)) (sym (write_by_number r old))

-- a put adds at most one entry
pub length-put_pair : {K X : Type 0} (R : K → K → Ordering) (p : K × X) (es : List (K × X)) → length (put_pair R p es) ≤ length es + 1
length-put_pair R p [] = omega arith
length-put_pair {K} {X} R p (e ∷ es) = by_order (R p.0 e.0) (length-put_pair R p es)
  where
    by_order : (o : Ordering) → length (put_pair R p es) ≤ length es + 1 → length (match_ordering o (p ∷ e ∷ es) (p ∷ es) (e ∷ put_pair R p es)) ≤ suc (length es) + 1
    by_order Less h = omega arith
    by_order Equal h = omega arith
    by_order Greater h = omega (arith, h)

-- what holds of each entry, and of the one that is put, holds of each after
pub All-put_pair : {K X : Type 0} (P : K × X → Type 0) (R : K → K → Ordering) (p : K × X) (es : List (K × X)) → P p → All P es → All P (put_pair R p es)
All-put_pair P R p [] h all = All-cons P p [] h all
All-put_pair {K} {X} P R p (e ∷ es) h all = by_order (R p.0 e.0) (All-put_pair P R p es h (All-tail P e es all))
  where
    by_order : (o : Ordering) → All P (put_pair R p es) → All P (match_ordering o (p ∷ e ∷ es) (p ∷ es) (e ∷ put_pair R p es))
    by_order Less rest = All-cons P p (e ∷ es) h all
    by_order Equal rest = All-cons P p es h (All-tail P e es all)
    by_order Greater rest = All-cons P e (put_pair R p es) (All-head P e es all) rest
