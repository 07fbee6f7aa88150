-- What one more act leaves of the stored writes, as lists: a write comes behind them, and a compaction keeps some of them.
use Rattle.std.proofs.Common.{◌≡◌, ℕ, ◌+◌, ◌-◌, ◌<◌, ◌≤◌, Bool, true, false, cond, ◌&&◌, not, List, [], ◌∷◌, ◌++◌, Option, Some, None, ⊎_elim, length, filter, refl, sym, subst, ap, ◌∙◌, arith, append_assoc, append-nil, length-append}
use Rattle.std.specs.Prelude.{nat_lt, nat_le}
use Rattle.std.specs.List.{Contains, last_or}
use Rattle.std.specs.Option.{option_map_or}
use Rattle.std.specs.Str.{bytes_eq}
use Rattle.std.proofs.lemmas.Bool.{and_parts, le-leb}
use Rattle.std.proofs.lemmas.Bool.Decides.{nat_tests}
use Rattle.std.proofs.lemmas.List.Elements.{Contains-append_left, Contains-append_right, filter-append}
use Rattle.std.proofs.lemmas.List.Filters.{length-filter_both}
use Rattle.std.proofs.lemmas.Slice.Eq.{bytes_eq-Decides}
use Rattle.kv_model.specs.Acts.{Write, is_put}
use Rattle.kv_model.specs.Configuration.{Configuration}
use Rattle.kv_model.specs.Retained.{is_cleared}
use Rattle.kv_model.proofs.Found.{last_contained}
use Rattle.kv_model.proofs.Members.{Contains-cases, Contains-filter, Contains-from_filter, Contains-here, Contains-none, filter-filter, filter_none}
use Rattle.kv_store.proofs.Standings.{last_or-push}
use Rattle.kv_journal.specs.Restored.{those_of}
use Rattle.kv_journal.specs.inside.Reachable.{Follows, IsCompactedAt, RiseWithin, is_kept_among, last_among, least_stored}
use Rattle.kv_journal.proofs.Among.{fewer_or_same, filter_turned, is_between, kept_among_front, last_passes, no_more, push_same, split_filter, split_push}
use Rattle.kv_journal.proofs.RisingWrites.{last_greatest, rise_behind, rise_filter, rise_left, rise_members}

-- the fields of a checkpoint that each act keeps up
pub record Stands (config : Configuration) (ws : List Write) (last floor : ℕ) : Type 0 where
  pub few : length ws ≤ config.write_limit
  pub room : last_among ws < last → length ws < config.write_limit
  pub time : ℕ
  pub by : time ≤ last
  pub compacted : IsCompactedAt config ws floor time

last_none : (ws : List Write) (o : Option Write) → last_or o ws ≡ None → ws ≡ []
last_none [] o e = refl
last_none (w ∷ ws) o e = later w ws e
  where
    later : (v : Write) (vs : List Write) → last_or (Some v) vs ≡ None → w ∷ ws ≡ []
    later v [] e = absurd cc
    later v (u ∷ vs) e = later u vs e

-- ---- no act

pub stands_first : (config : Configuration) → Stands config [] 0 0
stands_first config = record {
  few = omega arith;
  room = λ l. absurd (omega (arith, l));
  time = 0;
  by = omega arith;
  compacted = record {
    late = omega arith;
    followed = λ before after w marker e f. absurd (omega (arith, ap (λ (ws : List Write). length ws) e, length-append before (w ∷ after)));
    spared = λ key. refl;
    kept = λ before after w e l m low. absurd (Contains-none w (subst (λ (ws : List Write). Contains ws w) (sym e) (Contains-append_left before after w m)));
  };
}

-- ---- one more write

-- a list whose last write is a marker at or below the floor is cleared
pub clears_so : (floor : ℕ) (ws : List Write) (marker : Write) → last_or None ws ≡ Some marker → is_put marker.op ≡ false → marker.revision ≤ floor → is_cleared floor ws ≡ true
clears_so floor ws marker e f l =
    ap (λ (o : Option Write). option_map_or (λ w. not (is_put w.op) && nat_le w.revision floor) o false) e
    ∙ ap (λ (b : Bool). not b && nat_le marker.revision floor) f ∙ le-leb marker.revision floor l

module _ (config : Configuration) (ws : List Write) (last floor : ℕ) (w : Write) (s : Stands config ws last floor) (low : floor ≤ last) (next : w.revision ≡ last + 1) (space : length ws < config.write_limit) where
  last_is : last_among (ws ++ w ∷ []) ≡ w.revision
  last_is = ap (λ (o : Option Write). option_map_or (λ v. v.revision) o 0) (last_or-push ws w None)

  -- a write that follows a marker at or below the floor was there before: the new one's key was spared
  followed_still : (before after : List Write) (v marker : Write) → ws ++ w ∷ [] ≡ before ++ v ∷ after → Follows floor before marker v → (v.revision ≤ s.time) × (least_stored before marker v < config.write_limit)
  followed_still before after v marker e f =
      ⊎_elim
      (λ all.
      let both = push_same before ws v w all in
      let ends : last_or None (those_of v.key ws) ≡ Some marker = subst (λ (vs : List Write). last_or None (those_of v.key vs) ≡ Some marker) both.0 f.0 in
      let clash : true ≡ false = sym (clears_so floor (those_of v.key ws) marker ends f.1 f.2) ∙ s.compacted.spared v.key in
      absurd cc)
      (λ part. s.compacted.followed before part.0 v marker (part.1 ∙ append_assoc before (v ∷ []) part.0) f)
      (split_push ws w (before ++ v ∷ []) after (e ∙ sym (append_assoc before (v ∷ []) after)))

  spared_still : (key : List ℕ) → is_cleared floor (those_of key (ws ++ w ∷ [])) ≡ false
  spared_still key = ap (is_cleared floor) (filter-append (λ v. bytes_eq v.key key) ws (w ∷ [])) ∙ by (bytes_eq w.key key)
    where
      above : (a b : Bool) → b ≡ false → (a && b) ≡ false
      above true b e = e
      above false b e = refl

      by : (b : Bool) → is_cleared floor (those_of key ws ++ cond b (w ∷ []) []) ≡ false
      by true =
          let late : nat_le w.revision floor ≡ false = grind (arith, nat_tests, low, next) in
          ap (λ (o : Option Write). option_map_or (λ v. not (is_put v.op) && nat_le v.revision floor) o false) (last_or-push (those_of key ws) w None) ∙ above (not (is_put w.op)) (nat_le w.revision floor) late
      by false = ap (is_cleared floor) (append-nil (those_of key ws)) ∙ s.compacted.spared key

  -- a beginning that was there when the last compaction was made doesn't hold the new one
  kept_still : (before after : List Write) (v : Write) → ws ++ w ∷ [] ≡ before ++ after → last_among before ≤ s.time → Contains before v → v.revision ≤ floor → is_kept_among config.history before v ≡ true
  kept_still before after v e l m at =
      ⊎_elim
      (λ all. let now : last_among before ≡ w.revision = ap last_among all ∙ last_is in absurd (omega (arith, l, now, next, s.by)))
      (λ part. s.compacted.kept before part.0 v part.1 l m at)
      (split_push ws w before after e)

  pub stands_wrote : Stands config (ws ++ w ∷ []) (last + 1) floor
  stands_wrote = record {
    few = omega (arith, length-append ws (w ∷ []), space);
    room = λ l. absurd (omega (arith, l, last_is, next));
    time = s.time;
    by = omega (arith, s.by);
    compacted = record { late = s.compacted.late; followed = followed_still; spared = spared_still; kept = kept_still };
  }

-- ---- a compaction

-- a compaction to this floor leaves those that pass: it clears no key of which it leaves writes, and what it leaves at or below the floor is kept, as is each later write of that key
pub record Leaves (config : Configuration) (ws : List Write) (last old floor : ℕ) (p : Write → Bool) : Type 0 where
  pub low : floor ≤ last
  pub rise : RiseWithin 0 last ws
  pub spared : (key : List ℕ) → is_cleared floor (those_of key (filter p ws)) ≡ false
  pub keeps : (w : Write) → Contains (filter p ws) w → w.revision ≤ floor → is_kept_among config.history (filter p ws) w ≡ true
  pub later : (m u : Write) → Contains (filter p ws) m → m.revision ≤ floor → Contains ws u → bytes_eq u.key m.key ≡ true → m.revision ≤ u.revision → p u ≡ true
  pub between : (from to : ℕ) → old < from → to ≤ 1 + last → length (filter (is_between from to) ws) ≡ to - from

module _ (config : Configuration) (ws : List Write) (last old floor : ℕ) (p : Write → Bool) (s : Stands config ws last old) (c : Leaves config ws last old floor p) where
  few_left : length (filter p ws) ≤ config.write_limit
  few_left = ⊎_elim (λ l. omega (arith, l, s.few)) (λ e. omega (arith, ap (λ (vs : List Write). length vs) e, s.few)) (fewer_or_same p ws)

  room_left : last_among (filter p ws) < last → length (filter p ws) < config.write_limit
  room_left r =
      ⊎_elim
      (λ l. omega (arith, l, s.few))
      (λ e. omega (arith, ap (λ (vs : List Write). length vs) e, s.room (subst (λ (vs : List Write). last_among vs < last) e r)))
      (fewer_or_same p ws)

  rise_spared : RiseWithin 0 last (filter p ws)
  rise_spared = rise_filter p 0 last ws c.rise

  kept_left : (before after : List Write) (w : Write) → filter p ws ≡ before ++ after → last_among before ≤ last → Contains before w → w.revision ≤ floor → is_kept_among config.history before w ≡ true
  kept_left before after w e l m at =
      let among : Contains (filter p ws) w = subst (λ (vs : List Write). Contains vs w) (sym e) (Contains-append_left before after w m) in
      let all : is_kept_among config.history (before ++ after) w ≡ true = subst (λ (vs : List Write). is_kept_among config.history vs w ≡ true) e (c.keeps w among at) in
      kept_among_front config.history 0 last before after w (subst (RiseWithin 0 last) e rise_spared) m all

  module _ (before after : List Write) (w marker : Write) (e : filter p ws ≡ before ++ w ∷ after) (f : Follows floor before marker w) (front back : List Write) (splits : ws ≡ front ++ w ∷ back) (left : filter p front ≡ before) where
    rise_front : RiseWithin 0 last (front ++ w ∷ back)
    rise_front = subst (RiseWithin 0 last) splits c.rise

    marker_of : Contains before marker × (bytes_eq marker.key w.key ≡ true)
    marker_of = Contains-from_filter (λ v. bytes_eq v.key w.key) before marker (last_contained (those_of w.key before) marker f.0)

    marker_left : Contains (filter p ws) marker
    marker_left = subst (λ (vs : List Write). Contains vs marker) (sym e) (Contains-append_left before (w ∷ after) marker marker_of.0)

    marker_front : Contains (those_of w.key front) marker
    marker_front =
        let there : Contains front marker = (Contains-from_filter p front marker (subst (λ (vs : List Write). Contains vs marker) (sym left) marker_of.0)).0 in
        Contains-filter (λ v. bytes_eq v.key w.key) front marker there marker_of.1

    w_bounds : (0 < w.revision) × (w.revision ≤ last)
    w_bounds = rise_members 0 last (front ++ w ∷ back) w rise_front (Contains-append_right front (w ∷ back) w (Contains-here w back))

    -- the last write of the key before it was the same one: what was made of the key behind a kept write is kept
    last_front : last_or None (those_of w.key front) ≡ Some marker
    last_front = by (last_or None (those_of w.key front)) refl
      where
        by : (o : Option Write) → last_or None (those_of w.key front) ≡ o → last_or None (those_of w.key front) ≡ Some marker
        by None t = absurd (Contains-none marker (subst (λ (vs : List Write). Contains vs marker) (last_none (those_of w.key front) None t) marker_front))
        by (Some u) t =
            let rises : RiseWithin 0 last (those_of w.key front) = rise_filter (λ v. bytes_eq v.key w.key) 0 last front (rise_left 0 last front (w ∷ back) rise_front) in
            let later : marker.revision ≤ u.revision = last_greatest 0 last (those_of w.key front) u marker rises t marker_front in
            let u_is = Contains-from_filter (λ v. bytes_eq v.key w.key) front u (last_contained (those_of w.key front) u t) in
            let u_there : Contains ws u = subst (λ (vs : List Write). Contains vs u) (sym splits) (Contains-append_left front (w ∷ back) u u_is.0) in
            let same_key : bytes_eq u.key marker.key ≡ true = subst (λ (k : List ℕ). bytes_eq u.key k ≡ true) (sym ((bytes_eq-Decides marker.key w.key).0 marker_of.1)) u_is.1 in
            let passes : p u ≡ true = c.later marker u marker_left f.2 u_there same_key later in
            let still : last_or None (filter p (those_of w.key front)) ≡ Some u = last_passes p (those_of w.key front) u t passes in
            let turned : filter p (those_of w.key front) ≡ those_of w.key before = filter_turned p (λ v. bytes_eq v.key w.key) front ∙ ap (those_of w.key) left in
            t ∙ sym still ∙ ap (λ (vs : List Write). last_or None vs) turned ∙ f.0

    abbrev is_earlier : Write → Bool
    is_earlier v = nat_lt v.revision marker.revision

    fewer_earlier : length (filter is_earlier before) ≤ length (filter is_earlier front)
    fewer_earlier =
        let both : filter is_earlier (filter p front) ≡ filter (λ v. p v && is_earlier v) front = filter-filter is_earlier p front in
        let less = no_more (λ v. p v && is_earlier v) is_earlier (λ v t. (and_parts (p v) (is_earlier v) t).1) front in
        omega (arith, ap (λ (vs : List Write). length (filter is_earlier vs)) left, ap (λ (vs : List Write). length vs) both, less)

    -- where the old floor had reached the marker so few were stored, and else all from the marker on were
    least_by : (b : Bool) → nat_le marker.revision old ≡ b → least_stored before marker w < config.write_limit
    least_by true t =
        let at : marker.revision ≤ old = grind (arith, nat_tests, t) in
        let then = (s.compacted.followed front back w marker splits (last_front, f.1, at)).1 in
        omega (arith, then, fewer_earlier)
    least_by false t =
        let above : old < marker.revision = grind (arith, nat_tests, t) in
        let count = c.between marker.revision w.revision above (omega (arith, w_bounds.1)) in
        let none : filter (is_between marker.revision w.revision) (w ∷ back) ≡ [] = filter_none (is_between marker.revision w.revision) (w ∷ back) (λ v m. not_between v (not_before v m)) in
        let all : filter (is_between marker.revision w.revision) ws ≡ filter (is_between marker.revision w.revision) front =
        ap (filter (is_between marker.revision w.revision)) splits ∙ filter-append (is_between marker.revision w.revision) front (w ∷ back)
        ∙ ap (λ (vs : List Write). filter (is_between marker.revision w.revision) front ++ vs) none ∙ append-nil (filter (is_between marker.revision w.revision) front) in
        let some = no_more (is_between marker.revision w.revision) (λ v. not (is_earlier v)) (λ v h. not_earlier v (and_parts (nat_le marker.revision v.revision) (nat_lt v.revision w.revision) h).0) front in
        let parts = length-filter_both is_earlier (λ v. not (is_earlier v)) (λ v. refl) front in
        let whole : length ws ≡ length front + length (w ∷ back) = ap (λ (vs : List Write). length vs) splits ∙ length-append front (w ∷ back) in
        let counted : length (filter (is_between marker.revision w.revision) ws) ≡ length (filter (is_between marker.revision w.revision) front) = ap (λ (vs : List Write). length vs) all in
        omega (arith, count, counted, some, parts, whole, s.few, fewer_earlier)
      where
        not_before : (v : Write) → Contains (w ∷ back) v → w.revision ≤ v.revision
        not_before v m =
            ⊎_elim (λ same. omega (arith, ap (λ (x : Write). x.revision) same)) (λ n. omega (arith, rise_behind 0 last front back w v rise_front n)) (Contains-cases w back v m)

        not_between : (v : Write) → w.revision ≤ v.revision → is_between marker.revision w.revision v ≡ false
        not_between v l =
            let late : nat_lt v.revision w.revision ≡ false = grind (arith, nat_tests, l) in
            rw late (elim (nat_le marker.revision v.revision) as (λ b. (b && false) ≡ false) [ true ↦ refl | false ↦ refl ])

        not_earlier : (v : Write) → nat_le marker.revision v.revision ≡ true → not (nat_lt v.revision marker.revision) ≡ true
        not_earlier v t =
            let late : nat_lt v.revision marker.revision ≡ false = grind (arith, nat_tests, t) in
            ap not late

    followed_by : (w.revision ≤ last) × (least_stored before marker w < config.write_limit)
    followed_by = (w_bounds.1, least_by (nat_le marker.revision old) refl)

  followed_left : (before after : List Write) (w marker : Write) → filter p ws ≡ before ++ w ∷ after → Follows floor before marker w → (w.revision ≤ last) × (least_stored before marker w < config.write_limit)
  followed_left before after w marker e f =
      let parts = split_filter p ws before after w e in
      followed_by before after w marker e f parts.0 parts.1 parts.2 parts.3

  pub stands_compacted : Stands config (filter p ws) last floor
  stands_compacted = record {
    few = few_left;
    room = room_left;
    time = last;
    by = omega arith;
    compacted = record { late = c.low; followed = followed_left; spared = c.spared; kept = kept_left };
  }
