-- The writes of one key among some: the last of them, whether a compaction clears the key, and what is kept of a key that ends with a purge.
use Rattle.std.proofs.Common.{◌≡◌, ℕ, zero, suc, ◌+◌, ◌-◌, ◌<◌, ◌≤◌, Bool, true, false, cond, ◌&&◌, ◌||◌, ◌==◌, not, List, [], ◌∷◌, ◌++◌, Option, Some, None, inl, inr, ◌⊎◌, ⊎_elim, drop, refl, sym, ap, ◌∙◌, arith, append-nil}
use Rattle.std.specs.Prelude.{nat_le}
use Rattle.std.specs.List.{Contains, last_or, list_any}
use Rattle.std.specs.Option.{option_map_or}
use Rattle.std.specs.Str.{bytes_eq}
use Rattle.std.proofs.lemmas.Bool.{and_parts, leb-true, leb-false, lt-leb, not-true, ne_eqb}
use Rattle.std.proofs.lemmas.List.{drop_all}
use Rattle.std.proofs.lemmas.List.Elements.{filter-append}
use Rattle.std.proofs.lemmas.Slice.Eq.{bytes_eq-Decides}
use Rattle.kv_model.specs.Acts.{Write, is_purge, is_put}
use Rattle.kv_model.specs.Retained.{is_cleared, last_n, revisions, since_purge}
use Rattle.kv_model.specs.declared.write.Op.{Op}
use Rattle.kv_model.specs.declared.write.Op.TheVariants.{Put, Delete, Purge}
use Rattle.kv_model.proofs.Found.{last_contained}
use Rattle.kv_model.proofs.Members.{Contains-cases, Contains-from_filter, Contains-here, Contains-none, Contains-there}
use Rattle.kv_journal.specs.Restored.{those_of}

-- ---- the last write of a key

-- it is among the writes, and of the key
pub last_is : (key : List ℕ) (ws : List Write) (m : Write) → last_or None (those_of key ws) ≡ Some m → Contains ws m × (m.key ≡ key)
last_is key ws m e =
    let both = Contains-from_filter (λ w. bytes_eq w.key key) ws m (last_contained (those_of key ws) m e) in
    (both.0, (bytes_eq-Decides m.key key).0 both.1)

-- what clears a key is a marker at or below the floor
pub cleared_by : (floor : ℕ) (ws : List Write) → is_cleared floor ws ≡ true → (m : Write) × (last_or None ws ≡ Some m) × (is_put m.op ≡ false) × (m.revision ≤ floor)
cleared_by floor ws h = by_last (last_or None ws) refl h
  where
    by_last : (o : Option Write) → last_or None ws ≡ o → option_map_or (λ w. not (is_put w.op) && nat_le w.revision floor) o false ≡ true → (m : Write) × (last_or None ws ≡ Some m) × (is_put m.op ≡ false) × (m.revision ≤ floor)
    by_last None e k = cc
    by_last (Some m) e k =
        let both = and_parts (not (is_put m.op)) (nat_le m.revision floor) k in
        (m, e, not-true (is_put m.op) both.0, leb-true m.revision floor both.1)

-- a marker that doesn't is above the floor
pub marker_above : (floor : ℕ) (ws : List Write) (m : Write) → last_or None ws ≡ Some m → is_put m.op ≡ false → is_cleared floor ws ≡ false → floor < m.revision
marker_above floor ws m e marker h =
    let k : (not (is_put m.op) && nat_le m.revision floor) ≡ false = sym (ap (λ (o : Option Write). option_map_or (λ w. not (is_put w.op) && nat_le w.revision floor) o false) e) ∙ h in
    let l : nat_le m.revision floor ≡ false = sym (ap (λ (b : Bool). not b && nat_le m.revision floor) marker) ∙ k in
    leb-false m.revision floor l

-- a last write above the floor keeps its key from being cleared
pub above_spares : (floor : ℕ) (ws : List Write) (m : Write) → last_or None ws ≡ Some m → floor < m.revision → is_cleared floor ws ≡ false
above_spares floor ws m e l =
    ap (λ (o : Option Write). option_map_or (λ w. not (is_put w.op) && nat_le w.revision floor) o false) e
    ∙ ap (λ (b : Bool). not (is_put m.op) && b) (lt-leb m.revision floor l) ∙ and_false (not (is_put m.op))
  where
    and_false : (b : Bool) → (b && false) ≡ false
    and_false true = refl
    and_false false = refl

-- ---- which keys are cleared

-- a test that no element passes
pub none_passes : (p : Write → Bool) (ws : List Write) (w : Write) → list_any p ws ≡ false → Contains ws w → p w ≡ false
none_passes p [] w h m = absurd (Contains-none w m)
none_passes p (v ∷ ws) w h m =
    let both = parts (p v) (list_any p ws) h in
    ⊎_elim (λ e. ap p (sym e) ∙ both.0) (λ k. none_passes p ws w both.1 k) (Contains-cases v ws w m)
  where
    parts : (a b : Bool) → (a || b) ≡ false → (a ≡ false) × (b ≡ false)
    parts true b e = cc
    parts false b e = (refl, e)

-- and one that some does
pub some_passes : (p : Write → Bool) (ws : List Write) → list_any p ws ≡ true → (w : Write) × Contains ws w × (p w ≡ true)
some_passes p [] h = cc
some_passes p (v ∷ ws) h = by_test (p v) refl h (some_passes p ws)
  where
    by_test : (b : Bool) → p v ≡ b → (b || list_any p ws) ≡ true → (list_any p ws ≡ true → (w : Write) × Contains ws w × (p w ≡ true)) → (w : Write) × Contains (v ∷ ws) w × (p w ≡ true)
    by_test true e k later = (v, Contains-here v ws, e)
    by_test false e k later = let rest = later k in (rest.0, Contains-there v ws rest.0 rest.1, rest.2)

-- where no key of these writes is cleared, no key is
pub none_cleared : (floor : ℕ) (ws : List Write) → list_any (λ w. is_cleared floor (those_of w.key ws)) ws ≡ false → (key : List ℕ) → is_cleared floor (those_of key ws) ≡ false
none_cleared floor ws h key = by_last (last_or None (those_of key ws)) refl
  where
    by_last : (o : Option Write) → last_or None (those_of key ws) ≡ o → is_cleared floor (those_of key ws) ≡ false
    by_last None e = ap (λ (o : Option Write). option_map_or (λ w. not (is_put w.op) && nat_le w.revision floor) o false) e
    by_last (Some m) e =
        let is = last_is key ws m e in
        ap (λ (k : List ℕ). is_cleared floor (those_of k ws)) (sym is.1) ∙ none_passes (λ w. is_cleared floor (those_of w.key ws)) ws m h is.0

-- ---- the first write of a key

-- there is none, or a first one
pub first_of : (key : List ℕ) (ws : List Write) → (those_of key ws ≡ []) ⊎ ((front : List Write) × (n : Write) × (rest : List Write) × (ws ≡ front ++ n ∷ rest) × (n.key ≡ key) × (those_of key front ≡ []))
first_of key [] = inl refl
first_of key (w ∷ ws) = by_test (bytes_eq w.key key) refl (first_of key ws)
  where
    by_test : (b : Bool) → bytes_eq w.key key ≡ b → (those_of key ws ≡ []) ⊎ ((front : List Write) × (n : Write) × (rest : List Write) × (ws ≡ front ++ n ∷ rest) × (n.key ≡ key) × (those_of key front ≡ []))
        → (cond b (w ∷ those_of key ws) (those_of key ws) ≡ []) ⊎ ((front : List Write) × (n : Write) × (rest : List Write) × (w ∷ ws ≡ front ++ n ∷ rest) × (n.key ≡ key) × (those_of key front ≡ []))
    by_test true e later = inr ([], w, ws, refl, (bytes_eq-Decides w.key key).0 e, refl)
    by_test false e (inl none) = inl none
    by_test false e (inr found) = inr (w ∷ found.0, found.1, found.2, ap (λ (vs : List Write). w ∷ vs) found.3, found.4, ap (λ (b : Bool). cond b (w ∷ those_of key found.0) (those_of key found.0)) e ∙ found.5)

-- a marker next above a floor among those that are done, and the next write of its key among those to do
pub record Follower (floor : ℕ) (done todo : List Write) : Type 0 where
  pub marker : Write
  pub next : Write
  pub between : List Write
  pub rest : List Write
  pub parts : todo ≡ between ++ next ∷ rest
  pub last : last_or None (those_of next.key (done ++ between)) ≡ Some marker
  pub is_marker : is_put marker.op ≡ false
  pub at : marker.revision ≡ floor + 1

-- the next write of a marker's key follows it
follower_of : (floor high : ℕ) (done todo : List Write) (key : List ℕ) (m : Write) → floor < high → ((key : List ℕ) → is_cleared high (those_of key (done ++ todo)) ≡ false)
    → last_or None (those_of key done) ≡ Some m → is_put m.op ≡ false → m.revision ≡ floor + 1 → Follower floor done todo
follower_of floor high done todo key m l then last marker at = by_first (first_of key todo)
  where
    by_first : (those_of key todo ≡ []) ⊎ ((front : List Write) × (n : Write) × (rest : List Write) × (todo ≡ front ++ n ∷ rest) × (n.key ≡ key) × (those_of key front ≡ [])) → Follower floor done todo
    by_first (inl none) =
        let same : those_of key (done ++ todo) ≡ those_of key done = filter-append (λ w. bytes_eq w.key key) done todo ∙ ap (λ (vs : List Write). those_of key done ++ vs) none ∙ append-nil (those_of key done) in
        let over = marker_above high (those_of key done) m last marker (sym (ap (is_cleared high) same) ∙ then key) in
        absurd (omega (arith, over, at))
    by_first (inr f) =
        let same : those_of key (done ++ f.0) ≡ those_of key done = filter-append (λ w. bytes_eq w.key key) done f.0 ∙ ap (λ (vs : List Write). those_of key done ++ vs) f.5 ∙ append-nil (those_of key done) in
        record {
          marker = m;
          next = f.1;
          between = f.0;
          rest = f.2;
          parts = f.3;
          last = ap (λ (k : List ℕ). last_or None (those_of k (done ++ f.0))) f.4 ∙ ap (last_or None) same ∙ last;
          is_marker = marker;
          at = at;
        }

-- there is one where the next floor would clear a key that a greater one doesn't clear of all
pub follower : (floor high : ℕ) (done todo : List Write) → floor < high → ((key : List ℕ) → is_cleared floor (those_of key done) ≡ false) → ((key : List ℕ) → is_cleared high (those_of key (done ++ todo)) ≡ false)
    → list_any (λ w. is_cleared (floor + 1) (those_of w.key done)) done ≡ true → Follower floor done todo
follower floor high done todo l now then h =
    let some = some_passes (λ w. is_cleared (floor + 1) (those_of w.key done)) done h in
    let by = cleared_by (floor + 1) (those_of some.0.key done) some.2 in
    let over = marker_above floor (those_of some.0.key done) by.0 by.1 by.2 (now some.0.key) in
    follower_of floor high done todo some.0.key by.0 l then by.1 by.2 (omega (arith, by.3, over))

-- ---- a key that ends with a purge

-- a purge gives no value
purge_is_marker : (op : Op) → is_purge op ≡ true → is_put op ≡ false
purge_is_marker Put e = sym e
purge_is_marker Delete e = refl
purge_is_marker Purge e = refl

-- writes that end with a purge have one
last_any : (ws : List Write) (q : Write) → last_or None ws ≡ Some q → is_purge q.op ≡ true → list_any (λ v. is_purge v.op) ws ≡ true
last_any [] q e p = cc
last_any (w ∷ []) q e p = let same : w ≡ q = cc in ap (λ (b : Bool). b || false) (ap (λ (v : Write). is_purge v.op) same ∙ p)
last_any (w ∷ v ∷ vs) q e p = or_true (is_purge w.op) (list_any (λ u. is_purge u.op) (v ∷ vs)) (last_any (v ∷ vs) q e p)
  where
    or_true : (a b : Bool) → b ≡ true → (a || b) ≡ true
    or_true true b t = refl
    or_true false b t = t

-- from its last purge on there is only that purge
pub since_last_purge : (ws : List Write) (q : Write) → last_or None ws ≡ Some q → is_purge q.op ≡ true → since_purge ws ≡ q ∷ []
since_last_purge [] q e p = cc
since_last_purge (w ∷ []) q e p = let same : w ≡ q = cc in ap (λ (v : Write). v ∷ []) same
since_last_purge (w ∷ v ∷ vs) q e p =
    ap (λ (b : Bool). cond b (since_purge (v ∷ vs)) (w ∷ v ∷ vs)) (last_any (v ∷ vs) q e p) ∙ since_last_purge (v ∷ vs) q e p

-- where there is no last write there is none
last_none : (ws : List Write) (o : Option Write) → last_or o ws ≡ None → ws ≡ []
last_none [] o e = refl
last_none (w ∷ ws) o e = later w ws e
  where
    later : (v : Write) (vs : List Write) → last_or (Some v) vs ≡ None → w ∷ ws ≡ []
    later v [] e = cc
    later v (u ∷ vs) e = later u vs e

-- of no writes none is left
nothing_left : (k : ℕ) → drop {A = Write} k [] ≡ []
nothing_left k = drop_all k [] (omega arith)

-- of such a key nothing is kept at or below a floor that doesn't clear it
pub unkept_below : (h : ℕ) (ws : List Write) (floor r : ℕ) → ((q : Write) → last_or None ws ≡ Some q → is_purge q.op ≡ true) → is_cleared floor ws ≡ false → r ≤ floor
    → list_any (λ n. n == r) (revisions (last_n h (since_purge ws))) ≡ false
unkept_below h ws floor r purges spared l = by_last (last_or None ws) refl
  where
    by_last : (o : Option Write) → last_or None ws ≡ o → list_any (λ n. n == r) (revisions (last_n h (since_purge ws))) ≡ false
    by_last None e =
        ap (λ (vs : List Write). list_any (λ n. n == r) (revisions (last_n h (since_purge vs)))) (last_none ws None e)
        ∙ ap (λ (vs : List Write). list_any (λ n. n == r) (revisions vs)) (nothing_left (0 - h))
    by_last (Some q) e =
        let p = purges q e in
        let over = marker_above floor ws q e (purge_is_marker q.op p) spared in
        ap (λ (vs : List Write). list_any (λ n. n == r) (revisions (last_n h vs))) (since_last_purge ws q e p)
        ∙ one (1 - h) (ne_eqb q.revision r (λ same. omega (arith, over, same)))
      where
        one : (k : ℕ) → (q.revision == r) ≡ false → list_any (λ n. n == r) (revisions (drop k (q ∷ []))) ≡ false
        one zero t = ap (λ (b : Bool). b || false) t
        one (suc k) t = ap (λ (vs : List Write). list_any (λ n. n == r) (revisions vs)) (nothing_left k)
