-- Writes with other revisions in the same order: the same ones of them are kept.
use Rattle.std.proofs.Common.{◌≡◌, ℕ, zero, suc, ◌+◌, ◌-◌, ◌<◌, Bool, true, false, cond, ◌||◌, ◌==◌, List, [], ◌∷◌, length, drop, map, filter, ⊎_elim, refl, sym, ap, subst, ◌∙◌, arith}
use Rattle.std.specs.List.{Contains, list_any}
use Rattle.std.specs.List.Sorted.{IsStrictlyIncreasing}
use Rattle.std.specs.Str.{bytes_eq}
use Rattle.std.proofs.lemmas.Bool.{eq-eqb, eqb-true, eqb-false, ne_eqb}
use Rattle.std.proofs.lemmas.List.{length-map}
use Rattle.std.proofs.lemmas.List.Elements.{Contains-append_right}
use Rattle.kv_model.specs.Acts.{Write, is_purge}
use Rattle.kv_model.specs.Retained.{last_n, revisions, since_purge}
use Rattle.kv_model.specs.declared.write.Op.{Op}
use Rattle.kv_model.proofs.Members.{Contains-cases, Contains-from_filter, Contains-here, Contains-map, Contains-none, Contains-there}
use Rattle.kv_model.proofs.Rising.{below_members, rising_tail}
use Rattle.kv_journal.proofs.Ends.{kept_is_an_end}
use Rattle.kv_durable_script.specs.Stored.{AreSameButRevisions, at_revision, renumbered}

-- what is kept of a key, of these writes
abbrev pub kept_among : ℕ → List ℕ → List Write → List Write
kept_among h key ws = last_n h (since_purge (filter (λ w. bytes_eq w.key key) ws))

abbrev pub is_kept_among : ℕ → List Write → Write → Bool
is_kept_among h ws w = list_any (λ r. r == w.revision) (revisions (kept_among h w.key ws))

-- a write with the revision that its own becomes
abbrev pub moved : (ℕ → ℕ) → Write → Write
moved to w = at_revision (to w.revision) w

-- ---- what is chosen by keys and by what was done

map_drop : (f : Write → Write) (k : ℕ) (ws : List Write) → map f (drop k ws) ≡ drop k (map f ws)
map_drop f zero ws = refl
map_drop f (suc k) [] = refl
map_drop f (suc k) (w ∷ ws) = map_drop f k ws

map_last : (f : Write → Write) (n : ℕ) (ws : List Write) → map f (last_n n ws) ≡ last_n n (map f ws)
map_last f n ws = map_drop f (length ws - n) ws ∙ ap (λ (m : ℕ). drop (m - n) (map f ws)) (sym (length-map ws f))

module _ (f : Write → Write) (same_key : (w : Write) → (f w).key ≡ w.key) (same_op : (w : Write) → (f w).op ≡ w.op) where
  any_mapped : (ws : List Write) → list_any (λ v. is_purge v.op) (map f ws) ≡ list_any (λ v. is_purge v.op) ws
  any_mapped [] = refl
  any_mapped (w ∷ ws) =
      ap (λ (op : Op). is_purge op || list_any (λ v. is_purge v.op) (map f ws)) (same_op w)
      ∙ ap (λ (b : Bool). is_purge w.op || b) (any_mapped ws)

  since_mapped : (ws : List Write) → map f (since_purge ws) ≡ since_purge (map f ws)
  since_mapped [] = refl
  since_mapped (w ∷ ws) = by (list_any (λ v. is_purge v.op) ws) refl (since_mapped ws)
    where
      by : (b : Bool) → list_any (λ v. is_purge v.op) ws ≡ b → map f (since_purge ws) ≡ since_purge (map f ws) → map f (cond b (since_purge ws) (w ∷ ws)) ≡ since_purge (map f (w ∷ ws))
      by true e more = more ∙ ap (λ (b : Bool). cond b (since_purge (map f ws)) (f w ∷ map f ws)) (sym (any_mapped ws ∙ e))
      by false e more = ap (λ (b : Bool). cond b (since_purge (map f ws)) (f w ∷ map f ws)) (sym (any_mapped ws ∙ e))

  those_mapped : (key : List ℕ) (ws : List Write) → map f (filter (λ w. bytes_eq w.key key) ws) ≡ filter (λ w. bytes_eq w.key key) (map f ws)
  those_mapped key [] = refl
  those_mapped key (w ∷ ws) = by (bytes_eq w.key key) refl (those_mapped key ws)
    where
      those : List Write
      those = filter (λ w. bytes_eq w.key key) (map f ws)

      by : (b : Bool) → bytes_eq w.key key ≡ b → map f (filter (λ w. bytes_eq w.key key) ws) ≡ those
          → map f (cond b (w ∷ filter (λ w. bytes_eq w.key key) ws) (filter (λ w. bytes_eq w.key key) ws)) ≡ filter (λ w. bytes_eq w.key key) (map f (w ∷ ws))
      by true e more = ap (λ (vs : List Write). f w ∷ vs) more ∙ ap (λ (b : Bool). cond b (f w ∷ those) those) (sym (ap (λ (k : List ℕ). bytes_eq k key) (same_key w) ∙ e))
      by false e more = more ∙ ap (λ (b : Bool). cond b (f w ∷ those) those) (sym (ap (λ (k : List ℕ). bytes_eq k key) (same_key w) ∙ e))

  pub kept_mapped : (h : ℕ) (key : List ℕ) (ws : List Write) → map f (kept_among h key ws) ≡ kept_among h key (map f ws)
  kept_mapped h key ws =
      let those = filter (λ w. bytes_eq w.key key) ws in
      map_last f h (since_purge those) ∙ ap (last_n h) (since_mapped those ∙ ap since_purge (those_mapped key ws))

filter_mapped : (f : Write → Write) (p q : Write → Bool) (ws : List Write) → ((w : Write) → Contains ws w → q (f w) ≡ p w) → filter q (map f ws) ≡ map f (filter p ws)
filter_mapped f p q [] same = refl
filter_mapped f p q (w ∷ ws) same =
    ap (λ (b : Bool). cond b (f w ∷ filter q (map f ws)) (filter q (map f ws))) (same w (Contains-here w ws))
    ∙ by (p w) (filter_mapped f p q ws (λ v m. same v (Contains-there w ws v m)))
  where
    by : (b : Bool) → filter q (map f ws) ≡ map f (filter p ws) → cond b (f w ∷ filter q (map f ws)) (filter q (map f ws)) ≡ map f (cond b (w ∷ filter p ws) (filter p ws))
    by true more = ap (λ (vs : List Write). f w ∷ vs) more
    by false more = more

-- ---- revisions that stay apart

module _ (to : ℕ → ℕ) (ws : List Write) (apart : (v w : Write) → Contains ws v → Contains ws w → (to v.revision == to w.revision) ≡ (v.revision == w.revision)) where
  any_moved : (xs : List Write) (w : Write) → ((v : Write) → Contains xs v → Contains ws v) → Contains ws w
      → list_any (λ r. r == to w.revision) (revisions (map (moved to) xs)) ≡ list_any (λ r. r == w.revision) (revisions xs)
  any_moved [] w within m = refl
  any_moved (x ∷ xs) w within m =
      ap (λ (b : Bool). b || list_any (λ r. r == to w.revision) (revisions (map (moved to) xs))) (apart x w (within x (Contains-here x xs)) m)
      ∙ ap (λ (b : Bool). (x.revision == w.revision) || b) (any_moved xs w (λ v n. within v (Contains-there x xs v n)) m)

  among : (h : ℕ) (key : List ℕ) (v : Write) → Contains (kept_among h key ws) v → Contains ws v
  among h key v m =
      let end = kept_is_an_end h (filter (λ w. bytes_eq w.key key) ws) in
      (Contains-from_filter (λ w. bytes_eq w.key key) ws v (subst (λ (vs : List Write). Contains vs v) end.1 (Contains-append_right end.0 (kept_among h key ws) v m))).0

  is_kept_moved : (h : ℕ) (w : Write) → Contains ws w → is_kept_among h (map (moved to) ws) (moved to w) ≡ is_kept_among h ws w
  is_kept_moved h w m =
      ap (λ (vs : List Write). list_any (λ r. r == to w.revision) (revisions vs)) (sym (kept_mapped (moved to) (λ v. refl) (λ v. refl) h w.key ws))
      ∙ any_moved (kept_among h w.key ws) w (λ v n. among h w.key v n) m

  pub all_kept_moved : (h : ℕ) → filter (is_kept_among h (map (moved to) ws)) (map (moved to) ws) ≡ map (moved to) (filter (is_kept_among h ws) ws)
  all_kept_moved h = filter_mapped (moved to) (is_kept_among h ws) (is_kept_among h (map (moved to) ws)) ws (λ w m. is_kept_moved h w m)

pub but_revisions : (to : ℕ → ℕ) (ws : List Write) → AreSameButRevisions (map (moved to) ws) ws
but_revisions to [] = refl
but_revisions to (w ∷ ws) = ap (λ (vs : List Write). at_revision 0 w ∷ vs) (but_revisions to ws)

-- ---- revisions by index

-- the revision that a write with this one gets
abbrev pub number_of : ℕ → List Write → ℕ → ℕ
number_of last [] r = 0
number_of last (w ∷ ws) r = cond (w.revision == r) (last + 1) (number_of (last + 1) ws r)

further : (w : Write) (ws : List Write) (r : ℕ) → (w.revision == r) ≡ false → Contains (revisions (w ∷ ws)) r → Contains (revisions ws) r
further w ws r is m = ⊎_elim (λ e. absurd (eqb-false w.revision r is e)) (λ n. n) (Contains-cases w.revision (revisions ws) r m)

number_above : (last : ℕ) (ws : List Write) (r : ℕ) → Contains (revisions ws) r → last < number_of last ws r
number_above last [] r m = absurd (Contains-none r m)
number_above last (w ∷ ws) r m = by (w.revision == r) refl (λ n. number_above (last + 1) ws r n)
  where
    by : (b : Bool) → (w.revision == r) ≡ b → (Contains (revisions ws) r → last + 1 < number_of (last + 1) ws r) → last < cond b (last + 1) (number_of (last + 1) ws r)
    by true e later = omega arith
    by false e later = omega (arith, later (further w ws r e m))

numbers_apart : (last : ℕ) (ws : List Write) (r s : ℕ) → Contains (revisions ws) r → Contains (revisions ws) s → number_of last ws r ≡ number_of last ws s → r ≡ s
numbers_apart last [] r s m n e = absurd (Contains-none r m)
numbers_apart last (w ∷ ws) r s m n e = by (w.revision == r) refl (w.revision == s) refl e (λ p q. numbers_apart (last + 1) ws r s p q)
  where
    by : (a : Bool) → (w.revision == r) ≡ a → (b : Bool) → (w.revision == s) ≡ b → cond a (last + 1) (number_of (last + 1) ws r) ≡ cond b (last + 1) (number_of (last + 1) ws s)
        → (Contains (revisions ws) r → Contains (revisions ws) s → number_of (last + 1) ws r ≡ number_of (last + 1) ws s → r ≡ s) → r ≡ s
    by true p true q e later = sym (eqb-true w.revision r p) ∙ eqb-true w.revision s q
    by true p false q e later = absurd (omega (arith, e, number_above (last + 1) ws s (further w ws s q n)))
    by false p true q e later = absurd (omega (arith, e, number_above (last + 1) ws r (further w ws r p m)))
    by false p false q e later = later (further w ws r p m) (further w ws s q n) e

pub numbered_apart : (ws : List Write) (v w : Write) → Contains ws v → Contains ws w → (number_of 0 ws v.revision == number_of 0 ws w.revision) ≡ (v.revision == w.revision)
numbered_apart ws v w m n = by (v.revision == w.revision) refl
  where
    by : (b : Bool) → (v.revision == w.revision) ≡ b → (number_of 0 ws v.revision == number_of 0 ws w.revision) ≡ (v.revision == w.revision)
    by true e = eq-eqb (number_of 0 ws v.revision) (number_of 0 ws w.revision) (ap (number_of 0 ws) (eqb-true v.revision w.revision e)) ∙ sym e
    by false e =
        ne_eqb (number_of 0 ws v.revision) (number_of 0 ws w.revision)
        (λ same. eqb-false v.revision w.revision e (numbers_apart 0 ws v.revision w.revision (Contains-map (λ (u : Write). u.revision) ws v m) (Contains-map (λ (u : Write). u.revision) ws w n) same))
        ∙ sym e

map_agree : (f g : Write → Write) (ws : List Write) → ((w : Write) → Contains ws w → f w ≡ g w) → map f ws ≡ map g ws
map_agree f g [] same = refl
map_agree f g (w ∷ ws) same = ap (λ (v : Write). v ∷ map f ws) (same w (Contains-here w ws)) ∙ ap (λ (vs : List Write). g w ∷ vs) (map_agree f g ws (λ v m. same v (Contains-there w ws v m)))

-- where the revisions rise, each gets its index
pub renumbered_is : (last : ℕ) (ws : List Write) → IsStrictlyIncreasing (revisions ws) → renumbered last ws ≡ map (moved (number_of last ws)) ws
renumbered_is last [] rise = refl
renumbered_is last (w ∷ ws) rise =
    let to = number_of last (w ∷ ws) in
    let first : at_revision (last + 1) w ≡ moved to w = ap (λ (b : Bool). at_revision (cond b (last + 1) (number_of (last + 1) ws w.revision)) w) (sym (eq-eqb w.revision w.revision refl)) in
    let other : (v : Write) → Contains ws v → (w.revision == v.revision) ≡ false = λ v m.
    ne_eqb w.revision v.revision (λ e. omega (arith, e, below_members w.revision (revisions ws) v.revision rise (Contains-map (λ (u : Write). u.revision) ws v m))) in
    let rest : renumbered (last + 1) ws ≡ map (moved to) ws =
    renumbered_is (last + 1) ws (rising_tail w.revision (revisions ws) rise)
    ∙ map_agree (moved (number_of (last + 1) ws)) (moved to) ws
    (λ v m. ap (λ (b : Bool). at_revision (cond b (last + 1) (number_of (last + 1) ws v.revision)) v) (sym (other v m))) in
    ap (λ (v : Write). v ∷ renumbered (last + 1) ws) first ∙ ap (λ (vs : List Write). moved to w ∷ vs) rest
