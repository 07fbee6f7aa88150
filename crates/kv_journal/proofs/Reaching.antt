-- When acts lead to writes that are put back and to these numbers.
use Rattle.std.proofs.Common.{◌≡◌, ℕ, ◌-◌, ◌<◌, ◌≤◌, Bool, true, false, List, [], ◌∷◌, ◌++◌, Option, Some, None, inl, inr, ◌⊎◌, ⊎_elim, length, filter, refl, sym, subst, ap, ◌∙◌, arith}
use Rattle.std.specs.Prelude.{◌==◌, nat_lt}
use Rattle.std.specs.List.{Contains, last_or}
use Rattle.std.specs.Option.{option_map_or}
use Rattle.std.proofs.lemmas.Bool.{eq-eqb}
use Rattle.std.proofs.lemmas.List.Elements.{Contains-append_right}
use Rattle.kv_model.specs.Acts.{Write}
use Rattle.kv_model.specs.Configuration.{Configuration}
use Rattle.kv_model.specs.Retained.{is_cleared}
use Rattle.kv_model.proofs.Members.{Contains-cases, Contains-here, Contains-none, Contains-there}
use Rattle.kv_journal.specs.Restored.{those_of}
use Rattle.kv_journal.specs.declared.course.Course.{Course}
use Rattle.kv_journal.specs.inside.Courses.{AreKept, IsCourse, IsPast}
use Rattle.kv_journal.specs.inside.Reachable.{Follows, IsCompactedAt, IsReachable, RiseWithin, is_kept_among, last_among, least_stored}
use Rattle.kv_journal.proofs.RisingWrites.{filter_fewer, rise_count, rise_higher, rise_left, rise_members}
use Rattle.kv_journal.proofs.Tracking.{kept_of_beginning}

-- ---- revisions that rise

-- each revision is at most the last one
pub member_last : (low last : ℕ) (ws : List Write) (x : Write) → RiseWithin low last ws → Contains ws x → x.revision ≤ last_among ws
member_last low last ws x h m = from low ws None h m
  where
    above : (n : ℕ) (ws : List Write) (o : Option Write) → RiseWithin n last ws → n ≤ option_map_or (λ w. w.revision) o 0 → n ≤ option_map_or (λ w. w.revision) (last_or o ws) 0
    above n [] o h k = k
    above n (w ∷ ws) o h k = omega (arith, h.0, above w.revision ws (Some w) h.1 (omega arith))

    from : (low : ℕ) (ws : List Write) (o : Option Write) → RiseWithin low last ws → Contains ws x → x.revision ≤ option_map_or (λ w. w.revision) (last_or o ws) 0
    from low [] o h m = absurd (Contains-none x m)
    from low (w ∷ ws) o h m =
        ⊎_elim
        (λ e. let same : w.revision ≡ x.revision = ap (λ (v : Write). v.revision) e in omega (arith, above w.revision ws (Some w) h.1 (omega arith)))
        (λ k. from w.revision ws (Some w) h.1 k)
        (Contains-cases w ws x m)

-- ---- beginnings

-- a beginning is one of what stands before this write, or has this write
pub before_or_with : (front : List Write) (by : Write) (back before after : List Write) → front ++ by ∷ back ≡ before ++ after → ((rest : List Write) × (front ≡ before ++ rest)) ⊎ Contains before by
before_or_with front by back [] after e = inl (front, refl)
before_or_with [] by back (b ∷ before) after e =
    let same : by ≡ b = cc in
    inr (subst (λ (v : Write). Contains (b ∷ before) v) (sym same) (Contains-here b before))
before_or_with (f ∷ front) by back (b ∷ before) after e =
    let head : f ≡ b = cc in
    let tail : front ++ by ∷ back ≡ before ++ after = cc in
    ⊎_elim
    (λ (rest, k). inl (rest, ap (λ (v : Write). v ∷ front) head ∙ ap (λ (vs : List Write). b ∷ vs) k))
    (λ m. inr (Contains-there b before by m))
    (before_or_with front by back before after tail)

-- the write at which a list splits is of the list
pub at_split : (ws before after : List Write) (w : Write) → ws ≡ before ++ w ∷ after → Contains ws w
at_split ws before after w e = subst (λ (vs : List Write). Contains vs w) (sym e) (Contains-append_right before (w ∷ after) w (Contains-here w after))

-- ---- the last compaction

-- it can have been made when some revision was the last one
pub compacted : (config : Configuration) (floor last : ℕ) (ws : List Write) (past : Bool) → RiseWithin 0 last ws → floor ≤ last
    → ((before after : List Write) (w marker : Write) → ws ≡ before ++ w ∷ after → Follows floor before marker w → least_stored before marker w < config.write_limit)
    → ((key : List ℕ) → is_cleared floor (those_of key ws) ≡ false) → (past ≡ false → AreKept config.history floor ws) → (past ≡ true → IsPast config.history floor ws)
    → (time : ℕ) × (time ≤ last) × IsCompactedAt config ws floor time
compacted config floor last ws false rise late followed spared kept past_by = (
  last,
  omega arith,
  record {
    late = late;
    followed = λ before after w marker e f. ((rise_members 0 last ws w rise (at_split ws before after w e)).1, followed before after w marker e f);
    spared = spared;
    kept = λ before after w e l m under.
        kept_of_beginning config.history floor last before after (subst (RiseWithin 0 last) e rise) (subst (AreKept config.history floor) e (kept refl)) w m under;
  },
)
compacted config floor last ws true rise late followed spared kept past_by =
    let is = past_by refl in
    let within = rise_members 0 last ws is.by rise (at_split ws is.front is.back is.by is.all) in
    let at = is.late in (
      is.by.revision - 1,
      omega (arith, within.1),
      record {
        late = omega (arith, is.late);
        followed = λ before after w marker e f. let first = is.none before after w marker e f in (omega (arith, first), followed before after w marker e f);
        spared = spared;
        kept = λ before after w e l m under.
            ⊎_elim
            (λ (rest, k).
            kept_of_beginning config.history floor last before rest
            (subst (RiseWithin 0 last) k (rise_left 0 last is.front (is.by ∷ is.back) (subst (RiseWithin 0 last) is.all rise)))
            (subst (AreKept config.history floor) k is.kept)
            w m under)
            (λ n.
            absurd (omega (arith, l, is.late, member_last 0 last before is.by (rise_left 0 last before after (subst (RiseWithin 0 last) e rise)) n)))
            (before_or_with is.front is.by is.back before after (sym is.all ∙ e));
      },
    )

-- ---- what is to be seen of the numbers

-- where all that is to be seen of them fits, acts lead to the writes and them
pub is_reachable : (ws : List Write) (course : Course) (last count floor : ℕ) → IsCourse ws course → course.floor ≡ floor → last ≤ course.config.now.revision_limit → last_among ws ≤ last → floor ≤ last
    → length ws ≤ course.config.now.write_limit → (last_among ws < last → length ws < course.config.now.write_limit) → length (filter (λ w. nat_lt floor w.revision) ws) ≡ last - floor
    → length (filter (is_kept_among course.config.now.history ws) ws) ≡ count → ((key : List ℕ) → is_cleared floor (those_of key ws) ≡ false) → IsReachable course.config.now ws last count floor
is_reachable ws course last count floor is here limit within late few room above retained spared =
    let config = course.config.now in
    let rise = rise_higher 0 (last_among ws) last ws is.rise within in
    let compaction =
    compacted config floor last ws course.past rise late
    (λ before after w marker e f. is.followed before after w marker e (subst (λ (n : ℕ). Follows n before marker w) (sym here) f))
    spared
    (λ e. subst (λ (n : ℕ). AreKept config.history n ws) here (is.kept e))
    (λ e. subst (λ (n : ℕ). IsPast config.history n ws) here (is.past_by e)) in
    record {
      rise = rise;
      limit = limit;
      writable = is.writable;
      above = omega (arith, above);
      few = few;
      room = room;
      retained = retained;
      time = compaction.0;
      by = compaction.1;
      compacted = compaction.2;
    }

-- no more than the most, and not as many
pub fewer : (count most : ℕ) → count ≤ most → (count == most) ≡ false → count < most
fewer count most l e = omega (arith, l, other)
  where
    other : count ≡ most → ⊥
    other same = let wrong : true ≡ false = sym (eq-eqb count most same) ∙ e in absurd cc

-- no more entries are retained than there were writes
pub few_retained : (config : Configuration) (ws : List Write) (last count floor : ℕ) → IsReachable config ws last count floor → count ≤ last
few_retained config ws last count floor r = omega (arith, r.retained, filter_fewer (is_kept_among config.history ws) ws, rise_count 0 last ws r.rise)

-- the same of equal writes and numbers
pub reachable_along : (config other : Configuration) (ws vs : List Write) (last count floor level : ℕ) → config ≡ other → ws ≡ vs → floor ≡ level → IsReachable config ws last count floor → IsReachable other vs last count level
reachable_along config other ws vs last count floor level c w f r =
    subst (λ (n : ℕ). IsReachable other vs last count n) f (subst (λ (us : List Write). IsReachable other us last count floor) w (subst (λ (k : Configuration). IsReachable k ws last count floor) c r))
