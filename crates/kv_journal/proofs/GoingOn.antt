-- What one more write shows behind writes that are put back: that no acts lead to it, or that they may, and the course with it.
use Rattle.std.proofs.Common.{◌≡◌, ℕ, ◌+◌, ◌-◌, ◌<◌, ◌≤◌, Bool, true, false, cond, ◌||◌, nat_lt, List, [], ◌∷◌, ◌++◌, Option, Some, None, unwrap_or, inl, inr, ◌⊎◌, ⊎_elim, length, filter, refl, sym, subst, ap, ◌∙◌, arith, append_assoc, length-append}
use Rattle.std.specs.Global.{Vec}
use Rattle.std.specs.List.{Contains, last_or}
use Rattle.std.specs.List.Sorted.{IsStrictlyIncreasing}
use Rattle.std.specs.Option.{option_map_or}
use Rattle.std.proofs.lemmas.Bool.{ltb-false, ltb-true}
use Rattle.std.proofs.lemmas.List.{map-append}
use Rattle.std.proofs.lemmas.List.Elements.{Contains-append_right, Contains-push_cases}
use Rattle.kv_model.specs.Acts.{Write, is_put}
use Rattle.kv_model.specs.Configuration.{Configuration, IsLegal}
use Rattle.kv_model.specs.Retained.{revisions}
use Rattle.kv_model.proofs.Found.{or_empty}
use Rattle.kv_model.proofs.Members.{Contains-here, Contains-none}
use Rattle.kv_model.proofs.Rising.{Rises, Rises-none, Rises-more, increasing_from_Rises}
use Rattle.kv_store.specs.PuttingBack.{PutsBack}
use Rattle.kv_store.specs.Standing.{StandsFor}
use Rattle.kv_store.specs.Stored.{Stored, kept_at, last_at}
use Rattle.kv_store.proofs.Standings.{history_some, last_or-push}
use Rattle.kv_journal.specs.declared.course.Course.{Course}
use Rattle.kv_journal.specs.inside.Courses.{AreKept, GoesOn, IsCourse, IsPast, loses}
use Rattle.kv_journal.specs.inside.Reachable.{Follows, IsReachable, IsWritable, RiseWithin, kept_among, last_among, least_stored}
use Rattle.kv_journal.proofs.PuttingBack.{one_more_back}
use Rattle.kv_journal.proofs.RisingWrites.{rise_members, rise_push}
use Rattle.kv_journal.proofs.Tracking.{kept_on, lost_by}

-- ---- lists

-- where a list with one more element splits at an element, the list does, or it is the one more
split_one : {X : Type 0} (xs : List X) (x : X) (before after : List X) (y : X) → xs ++ x ∷ [] ≡ before ++ y ∷ after → ((rest : List X) × (xs ≡ before ++ y ∷ rest)) ⊎ ((xs ≡ before) × (x ≡ y))
split_one [] x [] after y e = inr (refl, cc)
split_one [] x (b ∷ bs) after y e = absurd (omega (arith, ap (λ zs. length zs) e, length-append bs (y ∷ after)))
split_one (z ∷ zs) x [] after y e = let first : z ≡ y = cc in inl (zs, cc)
split_one (z ∷ zs) x (b ∷ bs) after y e =
    let first : z ≡ b = cc in
    let rest : zs ++ x ∷ [] ≡ bs ++ y ∷ after = cc in
    ⊎_elim (λ p. inl (p.0, cc (first, p.1))) (λ p. inr (cc (first, p.0), p.1)) (split_one zs x bs after y rest)

-- the revision of the last of one more write
last_among-push : (ws : List Write) (w : Write) → last_among (ws ++ w ∷ []) ≡ w.revision
last_among-push ws w = ap (λ (o : Option Write). option_map_or (λ v. v.revision) o 0) (last_or-push ws w None)

-- so many of the revisions are lower as of the writes
lower_among : (n : ℕ) (ws : List Write) → length (filter (λ r. nat_lt r n) (revisions ws)) ≡ length (filter (λ v. nat_lt v.revision n) ws)
lower_among n [] = refl
lower_among n (w ∷ ws) = by (nat_lt w.revision n) (lower_among n ws)
  where
    by : (b : Bool) → length (filter (λ r. nat_lt r n) (revisions ws)) ≡ length (filter (λ v. nat_lt v.revision n) ws)
        → length (cond b (w.revision ∷ filter (λ r. nat_lt r n) (revisions ws)) (filter (λ r. nat_lt r n) (revisions ws))) ≡ length (cond b (w ∷ filter (λ v. nat_lt v.revision n) ws) (filter (λ v. nat_lt v.revision n) ws))
    by true e = omega (arith, e)
    by false e = e

-- the revisions of writes that rise
rises_from : (low last : ℕ) (ws : List Write) → RiseWithin low last ws → Rises (low + 1) (last + 1) (revisions ws)
rises_from low last [] r = Rises-none (low + 1) (last + 1) (omega (arith, r))
rises_from low last (w ∷ ws) r = Rises-more (low + 1) (last + 1) w.revision (revisions ws) (omega (arith, r.0)) (subst (λ n. Rises n (last + 1) (revisions ws)) (omega arith) (rises_from w.revision last ws r.1))

-- ---- what is known of a course

-- the revisions rise
pub revisions_rise : (ws : List Write) (course : Course) → IsCourse ws course → IsStrictlyIncreasing course.revisions.items
revisions_rise ws course i = subst IsStrictlyIncreasing (sym i.revisions_of) (increasing_from_Rises 1 (last_among ws + 1) (revisions ws) (rises_from 0 (last_among ws) ws i.rise))

-- the version has the kept revisions of each key
kept_there : (ws : List Write) (course : Course) (key : List ℕ) → IsCourse ws course → unwrap_or (kept_at key course.version) [] ≡ revisions (kept_among course.config.now.history key ws)
kept_there ws course key i =
    ap (λ (o : Option (List ℕ)). unwrap_or o []) (i.put.kept key)
    ∙ or_empty (revisions (kept_among course.version.config.history key ws))
    ∙ ap (λ (c : Configuration). revisions (kept_among c.history key ws)) i.same

-- whether a write at or below the floor is kept no more behind this one
abbrev pub loses_next : Course → Write → Bool
loses_next course w = loses course.config.now.history course.floor w.op (unwrap_or (kept_at w.key course.version) [])

-- where it is so, they are not all kept
not_kept : (ws : List Write) (course : Course) (w : Write) → IsCourse ws course → course.version.last < w.revision → loses_next course w ≡ true → AreKept course.config.now.history course.floor (ws ++ w ∷ []) → ⊥
not_kept ws course w i later lost all =
    let h = course.config.now.history in
    let x = lost_by h course.floor (last_among ws) ws w (unwrap_or (kept_at w.key course.version) []) i.some i.rise (subst (λ n. n < w.revision) i.last later) (kept_there ws course w.key i) lost in
    let clash : true ≡ false = sym (all x.0 x.1 x.2) ∙ x.3 in
    absurd cc

-- where the version has a marker at or below the floor as the last write of the key, the next one follows it
pub follows_it : (ws : List Write) (course : Course) (key : List ℕ) (w m : Write) → IsCourse ws course → key ≡ w.key → last_at key course.version ≡ Some m → is_put m.op ≡ false → m.revision ≤ course.floor → Follows course.floor ws m w
follows_it ws course key w m i same last marker under = (sym (i.put.last_of w.key) ∙ ap (λ (k : List ℕ). last_at k course.version) (sym same) ∙ last, marker, under)

-- what it follows is what the version has
pub last_there : (ws : List Write) (course : Course) (key : List ℕ) (w m : Write) → IsCourse ws course → key ≡ w.key → Follows course.floor ws m w → last_at key course.version ≡ Some m
last_there ws course key w m i same f = ap (λ (k : List ℕ). last_at k course.version) same ∙ i.put.last_of w.key ∙ f.0

-- ---- where no acts lead to the next write

-- when the last compaction was made each write at or below its floor was kept among the writes so far
kept_then : (config : Configuration) (front back ws : List Write) (w : Write) (last count floor : ℕ) → ws ≡ front ++ w ∷ back → (r : IsReachable config ws last count floor) → w.revision ≤ r.time → AreKept config.history floor (front ++ w ∷ [])
kept_then config front back ws w last count floor is r within x m under =
    r.compacted.kept (front ++ w ∷ []) back x (is ∙ sym (append_assoc front (w ∷ []) back)) (subst (λ n. n ≤ r.time) (sym (last_among-push front w)) within) m under

-- it loses one at or below the floor
pub never_lost : (ws more : List Write) (last count : ℕ) (course : Course) (w : Write) → IsCourse ws course → course.version.last < w.revision → loses_next course w ≡ true → w.revision ≤ course.floor
    → IsReachable course.config.now (ws ++ w ∷ more) last count course.floor → ⊥
never_lost ws more last count course w i later lost under r =
    not_kept ws course w i later lost (kept_then course.config.now ws more (ws ++ w ∷ more) w last count course.floor refl r (omega (arith, under, r.compacted.late)))

-- it follows a marker at or below the floor where the last compaction is past
pub never_past : (ws more : List Write) (last count : ℕ) (course : Course) (w m : Write) → IsCourse ws course → course.version.last < w.revision → Follows course.floor ws m w → (course.past || loses_next course w) ≡ true
    → IsReachable course.config.now (ws ++ w ∷ more) last count course.floor → ⊥
never_past ws more last count course w m i later follows past r = by course.past refl past
  where
    within : w.revision ≤ r.time
    within = (r.compacted.followed ws more w m refl follows).0

    by : (b : Bool) → course.past ≡ b → (b || loses_next course w) ≡ true → ⊥
    by true e t =
        let p = i.past_by e in
        let is : ws ++ w ∷ more ≡ p.front ++ p.by ∷ (p.back ++ w ∷ more) = ap (λ (vs : List Write). vs ++ w ∷ more) p.all ∙ append_assoc p.front (p.by ∷ p.back) (w ∷ more) in
        let among : Contains ws p.by = subst (λ (vs : List Write). Contains vs p.by) (sym p.all) (Contains-append_right p.front (p.by ∷ p.back) p.by (Contains-here p.by p.back)) in
        let least : p.by.revision ≤ r.time = omega (arith, (rise_members 0 (last_among ws) ws p.by i.rise among).1, i.last, later, within) in
        p.lost (kept_then course.config.now p.front (p.back ++ w ∷ more) (ws ++ w ∷ more) p.by last count course.floor is r least)
    by false e t = not_kept ws course w i later t (kept_then course.config.now ws more (ws ++ w ∷ more) w last count course.floor refl r within)

-- so many were stored at least, by the revisions
stored_least : (ws : List Write) (course : Course) (w m : Write) (at : ℕ) → IsCourse ws course → m.revision ≡ at → least_stored ws m w ≡ (w.revision - at) + length (filter (λ r. nat_lt r at) course.revisions.items)
stored_least ws course w m at i is =
    ap (λ (n : ℕ). (w.revision - n) + length (filter (λ (v : Write). nat_lt v.revision n) ws)) is
    ∙ ap (λ (n : ℕ). (w.revision - at) + n) (sym (lower_among at ws) ∙ ap (λ (rs : List ℕ). length (filter (λ r. nat_lt r at) rs)) (sym i.revisions_of))

-- it follows a marker at or below the floor, and there was no room for it
pub never_room : (ws more : List Write) (last count : ℕ) (course : Course) (w m : Write) (at : ℕ) → IsCourse ws course → Follows course.floor ws m w → m.revision ≡ at
    → nat_lt ((w.revision - at) + length (filter (λ r. nat_lt r at) course.revisions.items)) course.config.now.write_limit ≡ false
    → IsReachable course.config.now (ws ++ w ∷ more) last count course.floor → ⊥
never_room ws more last count course w m at i follows is none r =
    omega (arith, stored_least ws course w m at i is, ltb-false ((w.revision - at) + length (filter (λ r. nat_lt r at) course.revisions.items)) course.config.now.write_limit none, (r.compacted.followed ws more w m refl follows).1)

-- it is not above the last one
pub never_below : (ws more : List Write) (last count : ℕ) (course : Course) (w : Write) → IsCourse ws course → w.revision ≤ course.version.last → IsReachable course.config.now (ws ++ w ∷ more) last count course.floor → ⊥
never_below ws more last count course w i under r = absurd (omega (arith, above ws r.rise, i.last, under))
  where
    -- the last of the writes before is lower
    from : (low : ℕ) (o : Option Write) (vs : List Write) → option_map_or (λ v. v.revision) o 0 ≤ low → RiseWithin low last (vs ++ w ∷ more) → option_map_or (λ v. v.revision) (last_or o vs) 0 < w.revision
    from low o [] l h = omega (arith, l, h.0)
    from low o (v ∷ vs) l h = from v.revision (Some v) vs (omega arith) h.1

    above : (vs : List Write) → RiseWithin 0 last (vs ++ w ∷ more) → last_among vs < w.revision
    above vs h = from 0 None vs (omega arith) h

-- it is above the greatest revision
pub never_above : (ws more : List Write) (last count floor : ℕ) (config : Configuration) (w : Write) → config.revision_limit < w.revision → IsReachable config (ws ++ w ∷ more) last count floor → ⊥
never_above ws more last count floor config w over r =
    omega (arith, over, (rise_members 0 last (ws ++ w ∷ more) w r.rise (Contains-append_right ws (w ∷ more) w (Contains-here w more))).1, r.limit)

-- no request has it
pub never_written : (ws more : List Write) (last count floor : ℕ) (config : Configuration) (w : Write) → (IsWritable config w → ⊥) → IsReachable config (ws ++ w ∷ more) last count floor → ⊥
never_written ws more last count floor config w not r = not (r.writable w (Contains-append_right ws (w ∷ more) w (Contains-here w more)))

-- ---- where acts may lead to it

-- each write that follows a marker at or below the floor stands below this one
before_this : (floor : ℕ) (ws : List Write) (w : Write) (least : ℕ) → ((m : Write) → Follows floor ws m w → ⊥) → ((before after : List Write) (v m : Write) → ws ≡ before ++ v ∷ after → Follows floor before m v → v.revision < least)
    → (before after : List Write) (v m : Write) → ws ++ w ∷ [] ≡ before ++ v ∷ after → Follows floor before m v → v.revision < least
before_this floor ws w least free old before after v m e f =
    ⊎_elim
    (λ p. old before p.0 v m p.1 f)
    (λ p. absurd (free m (subst (λ (x : Write). Follows floor ws m x) (sym p.1) (subst (λ (vs : List Write). Follows floor vs m v) (sym p.0) f))))
    (split_one ws w before after v e)

-- the last compaction stays past
still_past : (h floor : ℕ) (ws : List Write) (w : Write) → ((m : Write) → Follows floor ws m w → ⊥) → IsPast h floor ws → IsPast h floor (ws ++ w ∷ [])
still_past h floor ws w free p = record {
  front = p.front;
  by = p.by;
  back = p.back ++ w ∷ [];
  all = ap (λ (vs : List Write). vs ++ w ∷ []) p.all ∙ append_assoc p.front (p.by ∷ p.back) (w ∷ []);
  late = p.late;
  kept = p.kept;
  lost = p.lost;
  none = before_this floor ws w p.by.revision free p.none;
}

-- it is past by this write
past_now : (ws : List Write) (course : Course) (w : Write) → IsCourse ws course → course.version.last < w.revision → course.past ≡ false → loses_next course w ≡ true → course.floor < w.revision → ((m : Write) → Follows course.floor ws m w → ⊥)
    → IsPast course.config.now.history course.floor (ws ++ w ∷ [])
past_now ws course w i later was lost above free = record {
  front = ws;
  by = w;
  back = [];
  all = refl;
  late = above;
  kept = i.kept was;
  lost = not_kept ws course w i later lost;
  none = before_this course.floor ws w w.revision free (λ before after v m e f.
      let among : Contains ws v = subst (λ (vs : List Write). Contains vs v) (sym e) (Contains-append_right before (v ∷ after) v (Contains-here v after)) in
      omega (arith, (rise_members 0 (last_among ws) ws v i.rise among).1, i.last, later));
}

-- what is known of the next write
pub goes_on : (ws : List Write) (course : Course) (w : Write) (past : Bool) → IsCourse ws course → course.version.last < w.revision → (course.past || loses_next course w) ≡ past → (loses_next course w ≡ true → course.floor < w.revision)
    → ((m : Write) → Follows course.floor ws m w → least_stored ws m w < course.config.now.write_limit) → ((m : Write) → Follows course.floor ws m w → past ≡ true → ⊥) → GoesOn course.config.now course.floor ws w past
goes_on ws course w past i later is above room free = record {
  room = room;
  kept = λ e. kept_by course.past refl (loses_next course w) refl (is ∙ e);
  past_by = λ e. past_by course.past refl (is ∙ e) (λ m f. free m f e);
}
  where
    kept_by : (a : Bool) → course.past ≡ a → (b : Bool) → loses_next course w ≡ b → (a || b) ≡ false → AreKept course.config.now.history course.floor (ws ++ w ∷ [])
    kept_by true e b f none = absurd cc
    kept_by false e true f none = absurd cc
    kept_by false e false f none =
        kept_on course.config.now.history course.floor (last_among ws) ws w (unwrap_or (kept_at w.key course.version) []) i.some i.rise (subst (λ n. n < w.revision) i.last later) (i.kept e) (kept_there ws course w.key i) f

    past_by : (a : Bool) → course.past ≡ a → (a || loses_next course w) ≡ true → ((m : Write) → Follows course.floor ws m w → ⊥) → IsPast course.config.now.history course.floor (ws ++ w ∷ [])
    past_by true e t none = still_past course.config.now.history course.floor ws w none (i.past_by e)
    past_by false e t none = past_now ws course w i later e t (above t) none

-- there was room for a write that follows this marker
pub room_for : (ws : List Write) (course : Course) (w m : Write) (at : ℕ) → IsCourse ws course → m.revision ≡ at
    → nat_lt ((w.revision - at) + length (filter (λ r. nat_lt r at) course.revisions.items)) course.config.now.write_limit ≡ true → least_stored ws m w < course.config.now.write_limit
room_for ws course w m at i is there =
    omega (arith, stored_least ws course w m at i is, ltb-true ((w.revision - at) + length (filter (λ r. nat_lt r at) course.revisions.items)) course.config.now.write_limit there)

-- ---- the course

-- of no writes
pub no_course : (course : Course) → StandsFor [] course.version → course.version.config ≡ course.config.now → course.revisions.items ≡ [] → course.past ≡ false → IsCourse [] course
no_course course s same none fresh = record {
  put = record { written = s.written; kept = s.kept; last_of = s.last_of };
  revisions_of = none;
  same = same;
  some = history_some course.config.now (subst IsLegal same s.legal);
  last = s.last;
  rise = omega arith;
  limit = omega arith;
  writable = λ w m. absurd (Contains-none w m);
  followed = λ before after w m e f. absurd (omega (arith, ap (λ (vs : List Write). length vs) e, length-append before (w ∷ after)));
  kept = λ e x m under. absurd (Contains-none x m);
  past_by = λ e. absurd (cc (e, fresh));
}

-- with one more write
pub one_more_course : (ws : List Write) (course : Course) (w : Write) (version : Stored) (rs : Vec ℕ) (past : Bool) → IsCourse ws course → course.version.last < w.revision → w.revision ≤ course.config.now.revision_limit
    → IsWritable course.config.now w → GoesOn course.config.now course.floor ws w past → PutsBack w course.version version → rs.items ≡ course.revisions.items ++ w.revision ∷ []
    → IsCourse (ws ++ w ∷ []) record { config = course.config; floor = course.floor; version = version; revisions = rs; past = past }
one_more_course ws course w version rs past i later within writable on puts pushed = record {
  put = one_more_back ws w course.version version (subst (λ (c : Configuration). 0 < c.history) (sym i.same) i.some) i.put (λ v m. omega (arith, (rise_members 0 (last_among ws) ws v i.rise m).1, i.last, later)) puts;
  revisions_of = pushed ∙ ap (λ (ns : List ℕ). ns ++ w.revision ∷ []) i.revisions_of ∙ sym (map-append (λ (v : Write). v.revision) ws (w ∷ []));
  same = puts.config ∙ i.same;
  some = i.some;
  last = puts.last ∙ sym (last_among-push ws w);
  rise = subst (λ n. RiseWithin 0 n (ws ++ w ∷ [])) (sym (last_among-push ws w)) (rise_push 0 (last_among ws) ws w i.rise (omega (arith, i.last, later)));
  limit = subst (λ n. n ≤ course.config.now.revision_limit) (sym (last_among-push ws w)) within;
  writable = λ v m. ⊎_elim (λ n. i.writable v n) (λ e. subst (IsWritable course.config.now) e writable) (Contains-push_cases ws w v m);
  followed = λ before after v m e f. ⊎_elim
      (λ p. i.followed before p.0 v m p.1 f)
      (λ p. along before v m p.0 p.1 f)
      (split_one ws w before after v e);
  kept = on.kept;
  past_by = on.past_by;
}
  where
    along : (before : List Write) (v m : Write) → ws ≡ before → w ≡ v → Follows course.floor before m v → least_stored before m v < course.config.now.write_limit
    along before v m e f follows =
        subst (λ (x : Write). least_stored before m x < course.config.now.write_limit) f
        (subst (λ (vs : List Write). least_stored vs m w < course.config.now.write_limit) e
        (on.room m (subst (λ (x : Write). Follows course.floor ws m x) (sym f) (subst (λ (vs : List Write). Follows course.floor vs m v) (sym e) follows))))
