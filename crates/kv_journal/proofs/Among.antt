-- Beginnings of writes whose revisions rise: where such lists split, what is kept among a beginning, and how many revisions stand between two.
use Rattle.std.proofs.Common.{◌≡◌, ℕ, zero, suc, ◌+◌, ◌-◌, ◌<◌, ◌≤◌, Bool, true, false, cond, ◌&&◌, List, [], ◌∷◌, ◌++◌, Some, None, Option, inl, inr, ◌⊎◌, ⊎_elim, length, drop, filter, refl, sym, subst, ap, ◌∙◌, arith, length-append}
use Rattle.std.specs.Prelude.{nat_lt, nat_le}
use Rattle.std.specs.List.{Contains, last_or}
use Rattle.std.proofs.lemmas.Bool.Decides.{nat_tests}
use Rattle.std.proofs.lemmas.List.Elements.{Contains-append_cases, Contains-append_right, filter-append, filter_agree}
use Rattle.std.specs.Str.{bytes_eq}
use Rattle.kv_model.specs.Acts.{Write}
use Rattle.kv_model.specs.Retained.{last_n, revisions, since_purge}
use Rattle.kv_model.proofs.Members.{any_from_Contains, Contains-from_any, Contains-from_filter, Contains-from_map, Contains-map, Contains-there, filter-filter}
use Rattle.kv_model.proofs.Numbered.{CountsFrom}
use Rattle.kv_journal.specs.Restored.{those_of}
use Rattle.kv_journal.specs.inside.Reachable.{is_kept_among, kept_among, RiseWithin}
use Rattle.kv_journal.proofs.Ends.{any_purge, since_is_end, with_purge, without_purge}
use Rattle.kv_journal.proofs.RisingWrites.{rise_apart}

-- ---- where a list splits

none_left : {X : Type 0} (xs ys : List X) → [] ≡ xs ++ ys → xs ≡ []
none_left [] ys e = refl
none_left (x ∷ xs) ys e = absurd (omega (arith, ap (λ zs. length zs) e))

-- a beginning of a list with one more element is all of it, or a beginning of the list
pub split_push : {X : Type 0} (xs : List X) (x : X) (before after : List X) → xs ++ x ∷ [] ≡ before ++ after → (before ≡ xs ++ x ∷ []) ⊎ ((rest : List X) × (xs ≡ before ++ rest))
split_push xs x [] after e = inr (xs, refl)
split_push [] x (b ∷ bs) after e =
    let first : x ≡ b = cc in
    let rest : [] ≡ bs ++ after = cc in
    let none = none_left bs after rest in
    inl (cc (first, none))
split_push {X} (y ∷ ys) x (b ∷ bs) after e =
    let first : y ≡ b = cc in
    let rest : ys ++ x ∷ [] ≡ bs ++ after = cc in
    ⊎_elim (λ all. inl (cc (first, all))) (λ part. inr (part.0, cc (first, part.1))) (split_push ys x bs after rest)

pub push_same : {X : Type 0} (xs ys : List X) (x y : X) → xs ++ x ∷ [] ≡ ys ++ y ∷ [] → (xs ≡ ys) × (x ≡ y)
push_same [] [] x y e = (refl, cc)
push_same [] (z ∷ zs) x y e = absurd (omega (arith, ap (λ ws. length ws) e, length-append zs (y ∷ [])))
push_same (z ∷ zs) [] x y e = absurd (omega (arith, ap (λ ws. length ws) e, length-append zs (x ∷ [])))
push_same (z ∷ zs) (v ∷ vs) x y e =
    let first : z ≡ v = cc in
    let rest : zs ++ x ∷ [] ≡ vs ++ y ∷ [] = cc in
    let both = push_same zs vs x y rest in
    (cc (first, both.0), both.1)

-- where what passes a test splits at an element, the whole list does
abbrev pub SplitsSo : (Write → Bool) → List Write → List Write → Write → Type 0
SplitsSo p ws before w = (front : List Write) × (back : List Write) × (ws ≡ front ++ w ∷ back) × (filter p front ≡ before)

pub split_filter : (p : Write → Bool) (ws before after : List Write) (w : Write) → filter p ws ≡ before ++ w ∷ after → SplitsSo p ws before w
split_filter p [] before after w e = absurd (omega (arith, ap (λ (vs : List Write). length vs) e, length-append before (w ∷ after)))
split_filter p (v ∷ vs) before after w e = by (p v) refl before e (λ b f. split_filter p vs b after w f)
  where
    by : (b : Bool) → p v ≡ b → (before : List Write) → cond b (v ∷ filter p vs) (filter p vs) ≡ before ++ w ∷ after → ((before : List Write) → filter p vs ≡ before ++ w ∷ after → SplitsSo p vs before w) → SplitsSo p (v ∷ vs) before w
    by true t [] e rest = let first : v ≡ w = cc in ([], vs, ap (λ (x : Write). x ∷ vs) first, refl)
    by true t (x ∷ xs) e rest =
        let first : v ≡ x = cc in
        let behind : filter p vs ≡ xs ++ w ∷ after = cc in
        let s = rest xs behind in
        (v ∷ s.0, s.1, ap (λ (ys : List Write). v ∷ ys) s.2, ap (λ (b : Bool). cond b (v ∷ filter p s.0) (filter p s.0)) t ∙ ap (λ (ys : List Write). v ∷ ys) s.3 ∙ ap (λ (y : Write). y ∷ xs) first)
    by false t before e rest =
        let s = rest before e in
        (v ∷ s.0, s.1, ap (λ (ys : List Write). v ∷ ys) s.2, ap (λ (b : Bool). cond b (v ∷ filter p s.0) (filter p s.0)) t ∙ s.3)

-- a test leaves fewer, or the same
pub fewer_or_same : (p : Write → Bool) (ws : List Write) → (length (filter p ws) < length ws) ⊎ (filter p ws ≡ ws)
fewer_or_same p [] = inr refl
fewer_or_same p (w ∷ ws) = by (p w) (fewer_or_same p ws)
  where
    by : (b : Bool) → (length (filter p ws) < length ws) ⊎ (filter p ws ≡ ws) → (length (cond b (w ∷ filter p ws) (filter p ws)) < length (w ∷ ws)) ⊎ (cond b (w ∷ filter p ws) (filter p ws) ≡ w ∷ ws)
    by true s = ⊎_elim (λ l. inl (omega (arith, l))) (λ e. inr (ap (λ (vs : List Write). w ∷ vs) e)) s
    by false s = ⊎_elim (λ l. inl (omega (arith, l))) (λ e. inl (omega (arith, ap (λ (vs : List Write). length vs) e))) s

-- where all that pass one test pass another, no more pass the first
pub no_more : (p q : Write → Bool) → ((w : Write) → p w ≡ true → q w ≡ true) → (ws : List Write) → length (filter p ws) ≤ length (filter q ws)
no_more p q h [] = omega arith
no_more p q h (w ∷ ws) = by (p w) refl (q w) refl (no_more p q h ws)
  where
    by : (a : Bool) → p w ≡ a → (b : Bool) → q w ≡ b → length (filter p ws) ≤ length (filter q ws) → length (cond a (w ∷ filter p ws) (filter p ws)) ≤ length (cond b (w ∷ filter q ws) (filter q ws))
    by true e true f rest = omega (arith, rest)
    by true e false f rest = let t = h w e in cc
    by false e true f rest = omega (arith, rest)
    by false e false f rest = rest

-- two tests in the other order
pub filter_turned : (p q : Write → Bool) (ws : List Write) → filter p (filter q ws) ≡ filter q (filter p ws)
filter_turned p q ws = filter-filter p q ws ∙ filter_agree (λ w. q w && p w) (λ w. p w && q w) (λ w. turned (q w) (p w)) ws ∙ sym (filter-filter q p ws)
  where
    turned : (a b : Bool) → (a && b) ≡ (b && a)
    turned true true = refl
    turned true false = refl
    turned false true = refl
    turned false false = refl

-- the last element stays the last where it passes
pub last_passes : (p : Write → Bool) (ws : List Write) (u : Write) → last_or None ws ≡ Some u → p u ≡ true → last_or None (filter p ws) ≡ Some u
last_passes p ws u e t = from ws None None (λ none. none) e
  where
    from : (ws : List Write) (a b : Option Write) → (a ≡ Some u → b ≡ Some u) → last_or a ws ≡ Some u → last_or b (filter p ws) ≡ Some u
    from [] a b h e = h e
    from (w ∷ ws) a b h e = in_turn (p w) refl (from ws (Some w) (Some w) (λ s. s) e) (λ not. from ws (Some w) b (λ s. let same : w ≡ u = cc in absurd (not same)) e)
      where
        in_turn : (c : Bool) → p w ≡ c → last_or (Some w) (filter p ws) ≡ Some u → ((w ≡ u → ⊥) → last_or b (filter p ws) ≡ Some u) → last_or b (cond c (w ∷ filter p ws) (filter p ws)) ≡ Some u
        in_turn true f passes not = passes
        in_turn false f passes not = not (λ same. let clash : true ≡ false = sym t ∙ ap p (sym same) ∙ f in absurd cc)

-- ---- what is kept among a beginning

Contains-drop : {X : Type 0} (k : ℕ) (xs : List X) (y : X) → Contains (drop k xs) y → Contains xs y
Contains-drop zero xs y m = m
Contains-drop (suc k) [] y m = m
Contains-drop (suc k) (x ∷ xs) y m = Contains-there x xs y (Contains-drop k xs y m)

drop_less : {X : Type 0} (i k : ℕ) (xs : List X) (y : X) → i ≤ k → Contains (drop k xs) y → Contains (drop i xs) y
drop_less zero k xs y l m = Contains-drop k xs y m
drop_less (suc i) zero xs y l m = absurd (omega (arith, l))
drop_less (suc i) (suc k) [] y l m = m
drop_less (suc i) (suc k) (x ∷ xs) y l m = drop_less i k xs y (omega (arith, l)) m

drop_front : {X : Type 0} (k : ℕ) (xs ys : List X) (y : X) → (Contains ys y → ⊥) → Contains (drop k (xs ++ ys)) y → Contains (drop k xs) y
drop_front zero xs ys y not m = ⊎_elim (λ n. n) (λ n. absurd (not n)) (Contains-append_cases xs ys y m)
drop_front (suc k) [] ys y not m = absurd (not (Contains-drop (suc k) ys y m))
drop_front (suc k) (x ∷ xs) ys y not m = drop_front k xs ys y not m

-- what is kept of a list of one key's writes, and stands in a beginning of it alone, is kept of the beginning
pub kept_front : (h : ℕ) (xs ys : List Write) (v : Write) → (Contains ys v → ⊥) → Contains (last_n h (since_purge (xs ++ ys))) v → Contains (last_n h (since_purge xs)) v
kept_front h xs ys v not m = by (any_purge ys) refl
  where
    by : (b : Bool) → any_purge ys ≡ b → Contains (last_n h (since_purge xs)) v
    by true t =
        let among : Contains (last_n h (since_purge ys)) v = subst (λ (ws : List Write). Contains (last_n h ws) v) (with_purge xs ys t) m in
        let since = Contains-drop (length (since_purge ys) - h) (since_purge ys) v among in
        let end = since_is_end ys in
        absurd (not (subst (λ (ws : List Write). Contains ws v) end.1 (Contains-append_right end.0 (since_purge ys) v since)))
    by false t =
        let front = since_purge xs in
        let among : Contains (last_n h (front ++ ys)) v = subst (λ (ws : List Write). Contains (last_n h ws) v) (without_purge xs ys t) m in
        drop_less (length front - h) (length (front ++ ys) - h) front v (omega (arith, length-append front ys)) (drop_front (length (front ++ ys) - h) front ys v not among)

-- ---- revisions that rise

-- a write of a beginning that is kept among all is kept among the beginning
pub kept_among_front : (h low last : ℕ) (before after : List Write) (w : Write) → RiseWithin low last (before ++ after) → Contains before w → is_kept_among h (before ++ after) w ≡ true → is_kept_among h before w ≡ true
kept_among_front h low last before after w r m k =
    let there = Contains-from_any w.revision (revisions (kept_among h w.key (before ++ after))) k in
    let v = Contains-from_map (λ (x : Write). x.revision) (kept_among h w.key (before ++ after)) w.revision there in
    let among : Contains (last_n h (since_purge (those_of w.key before ++ those_of w.key after))) v.0 = subst (λ (ws : List Write). Contains (last_n h (since_purge ws)) v.0) (filter-append (λ x. bytes_eq x.key w.key) before after) v.1 in
    let not : Contains (those_of w.key after) v.0 → ⊥ = λ n. omega (arith, v.2, rise_apart low last before after w v.0 r m (Contains-from_filter (λ x. bytes_eq x.key w.key) after v.0 n).0) in
    let front = kept_front h (those_of w.key before) (those_of w.key after) v.0 not among in
    any_from_Contains w.revision (revisions (kept_among h w.key before))
    (subst (λ (n : ℕ). Contains (revisions (kept_among h w.key before)) n) v.2 (Contains-map (λ (x : Write). x.revision) (kept_among h w.key before) v.0 front))

-- ---- revisions that count

-- so many are above this one
pub count_above : (low n : ℕ) (ws : List Write) → CountsFrom n ws → length (filter (λ w. nat_lt low w.revision) ws) ≡ length ws - (suc low - n)
count_above low n [] c = omega arith
count_above low n (w ∷ ws) c = by (nat_lt low w.revision) refl (count_above low (suc n) ws c.1)
  where
    by : (b : Bool) → nat_lt low w.revision ≡ b → length (filter (λ v. nat_lt low v.revision) ws) ≡ length ws - (suc low - suc n) → length (cond b (w ∷ filter (λ v. nat_lt low v.revision) ws) (filter (λ v. nat_lt low v.revision) ws)) ≡ length (w ∷ ws) - (suc low - n)
    by true t rest = let l : low < w.revision = grind (arith, nat_tests, t) in omega (arith, l, c.0, rest)
    by false t rest = let l : w.revision ≤ low = grind (arith, nat_tests, t) in omega (arith, l, c.0, rest)

-- so many are from one on and below another
abbrev pub is_between : ℕ → ℕ → Write → Bool
is_between low high w = nat_le low w.revision && nat_lt w.revision high

pub count_between : (low high n : ℕ) (ws : List Write) → CountsFrom n ws → high ≤ n + length ws → length (filter (is_between low high) ws) ≡ (high - n) - (low - n)
count_between low high n [] c l = omega (arith, l)
count_between low high n (w ∷ ws) c l = by (nat_le low w.revision) refl (nat_lt w.revision high) refl (count_between low high (suc n) ws c.1 (omega (arith, l)))
  where
    by : (a : Bool) → nat_le low w.revision ≡ a → (b : Bool) → nat_lt w.revision high ≡ b → length (filter (is_between low high) ws) ≡ (high - suc n) - (low - suc n) → length (cond (a && b) (w ∷ filter (is_between low high) ws) (filter (is_between low high) ws)) ≡ (high - n) - (low - n)
    by true t true s rest = let l : low ≤ w.revision = grind (arith, nat_tests, t) in let k : w.revision < high = grind (arith, nat_tests, s) in omega (arith, l, k, c.0, rest)
    by true t false s rest = let k : high ≤ w.revision = grind (arith, nat_tests, s) in omega (arith, k, c.0, rest)
    by false t b s rest = let k : w.revision < low = grind (arith, nat_tests, t) in omega (arith, k, c.0, rest)
