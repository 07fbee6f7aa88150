-- Each list of writes that can be the stored ones of a bucket is: some lawful acts lead to it, with these numbers.
use Rattle.std.proofs.Common.{◌≡◌, ℕ, zero, suc, ◌+◌, ◌-◌, ◌<◌, ◌≤◌, Bool, true, false, ◌&&◌, List, [], ◌∷◌, ◌++◌, inl, inr, ◌⊎◌, length, ◌==◌, filter, refl, sym, subst, ap, ◌∙◌, arith, append-nil}
use Rattle.std.specs.List.{Contains, list_any}
use Rattle.std.specs.Str.{bytes_eq}
use Rattle.std.proofs.lemmas.Bool.{cases_eq, cases_lt}
use Rattle.std.proofs.lemmas.List.Elements.{filter_agree}
use Rattle.kv_keys.specs.Grammar.{is_key}
use Rattle.kv_model.specs.Acceptance.{IsLawful}
use Rattle.kv_model.specs.Acts.{Act, Compact, Seal, Write, Wrote, floor_of, is_sealed, writes_of}
use Rattle.kv_model.specs.Compaction.{is_stored, stored_writes}
use Rattle.kv_model.specs.Configuration.{Configuration, IsLegal}
use Rattle.kv_model.specs.Retained.{is_cleared, is_kept, last_n, retained, revisions, since_purge}
use Rattle.kv_model.proofs.Keeping.{retained_seal}
use Rattle.kv_model.proofs.Members.{Contains-none, filter-filter}
use Rattle.kv_model.proofs.Numbered.{writes_of-seal}
use Rattle.kv_model.proofs.Storing.{floor_of-seal, kept_is_stored, stored-push}
use Rattle.kv_store.proofs.Standings.{is_sealed-seal, lawful-push}
use Rattle.kv_journal.specs.Restored.{those_of}
use Rattle.kv_journal.specs.inside.Reachable.{IsReachable, RiseWithin, is_kept_among}
use Rattle.kv_journal.proofs.Asking.{all_others, filter_alike}
use Rattle.kv_journal.proofs.Underway.{At, Blocked, Goal, at_floor, at_last, blocked_or, by_marker, each_to_do, flip, follows, none_at_floor}
use Rattle.kv_journal.proofs.FillerStep.{filled, filler}
use Rattle.kv_journal.proofs.FloorStep.{compacted_once}
use Rattle.kv_journal.proofs.OfOneKey.{none_cleared}
use Rattle.kv_journal.proofs.RisingWrites.{rise_bounds, rise_first}
use Rattle.kv_journal.proofs.WriteStep.{wrote_next}

-- ---- the start

-- no acts are on the way
start : (g : Goal) → At g [] 0 0 [] g.ws
start g = record {
  lawful = tt;
  split = refl;
  number = refl;
  below = omega arith;
  behind = g.reach.rise;
  floor_is = refl;
  unsealed = refl;
  within = omega arith;
  low = omega arith;
  timely = λ l. omega arith;
  spared = λ key. refl;
  of_key = λ key e. refl;
  of_spare = λ q e. cc;
  real = refl;
  fillers = λ w m t. absurd (Contains-none w m);
}

-- ---- one more write

-- the acts with one more write, whichever it is
record OneMore (g : Goal) (r f : ℕ) : Type 0 where
  acts : List Act
  done : List Write
  todo : List Write
  is : At g acts (r + 1) f done todo

-- it is the next of those to do, or a filler
one_more : (g : Goal) (acts : List Act) (r f : ℕ) (done todo : List Write) → At g acts r f done todo → Blocked g r f done todo → r < g.last → OneMore g r f
one_more g acts r f done [] a b l =
    let under : r < g.floor = below (cases_lt r g.floor) in
    record { acts = acts ++ Wrote (filler g.spare (r + 1)) ∷ []; done = done; todo = []; is = filled g acts r f done [] a b l under (omega arith) }
  where
    below : (r < g.floor) ⊎ (g.floor ≤ r) → r < g.floor
    below (inl k) = k
    below (inr k) = absurd (omega (arith, each_to_do g acts r f done [] a k))
one_more g acts r f done (w ∷ todo) a b l = by_first (cases_eq w.revision (r + 1))
  where
    below : (w.revision ≡ r + 1 → ⊥) → (r < g.floor) ⊎ (g.floor ≤ r) → r < g.floor
    below other (inl k) = k
    below other (inr k) = absurd (other (rise_first r g.last w todo a.behind (each_to_do g acts r f done (w ∷ todo) a k)))

    by_first : (w.revision ≡ r + 1) ⊎ (w.revision ≡ r + 1 → ⊥) → OneMore g r f
    by_first (inl next) = record { acts = acts ++ Wrote w ∷ []; done = done ++ w ∷ []; todo = todo; is = wrote_next g acts r f done w todo a b next }
    by_first (inr other) =
        let rest : RiseWithin (r + 1) g.last (w ∷ todo) = (omega (arith, a.behind.0, other), a.behind.1) in
        record {
          acts = acts ++ Wrote (filler g.spare (r + 1)) ∷ [];
          done = done;
          todo = w ∷ todo;
          is = filled g acts r f done (w ∷ todo) a b l (below other (cases_lt r g.floor)) rest;
        }

-- ---- the end

-- acts that have come to the end
record Arrived (g : Goal) : Type 0 where
  acts : List Act
  is : At g acts g.last g.floor g.ws []

-- those at the last revision are, where no compaction can be made
arrived : (g : Goal) (acts : List Act) (r f : ℕ) (done todo : List Write) → At g acts r f done todo → Blocked g r f done todo → g.last ≤ r → Arrived g
arrived g acts r f done todo a b l = by_todo todo a none_left
  where
    end : r ≡ g.last
    end = omega (arith, rise_bounds r g.last todo a.behind)

    at : Blocked g r f done todo → f ≡ g.floor
    at (at_floor e) = e
    at (at_last e k) = absurd (omega (arith, g.reach.compacted.late, g.reach.by))
    at (by_marker k w found) = let facts = follows g acts r f done todo a found k in absurd (omega (arith, facts.0, facts.1))

    none_left : todo ≡ []
    none_left = by_first todo a.behind
      where
        by_first : (ts : List Write) → RiseWithin r g.last ts → ts ≡ []
        by_first [] h = refl
        by_first (t ∷ ts) h = absurd (omega (arith, h.0, rise_bounds t.revision g.last ts h.1))

    by_todo : (ts : List Write) → At g acts r f done ts → ts ≡ [] → Arrived g
    by_todo ts a e =
        let now : At g acts r f done [] = subst (λ (vs : List Write). At g acts r f done vs) e a in
        let all : done ≡ g.ws = sym (now.split ∙ append-nil done) in
        record {
          acts = acts;
          is = subst (λ (n : ℕ). At g acts n g.floor g.ws []) end (subst (λ (n : ℕ). At g acts r n g.ws []) (at b) (subst (λ (vs : List Write). At g acts r f vs []) all now));
        }

-- ---- all steps

-- how many steps are left
abbrev left : Goal → ℕ → ℕ → ℕ
left g r f = (g.last - r) + (g.floor - f)

-- acts that are one step further
record Ahead (g : Goal) (r f : ℕ) : Type 0 where
  acts : List Act
  last : ℕ
  floor : ℕ
  done : List Write
  todo : List Write
  is : At g acts last floor done todo
  less : (g.last - last) + (g.floor - floor) < (g.last - r) + (g.floor - f)

-- from each acts on the way there is a step, but from those at the end
step : (g : Goal) (acts : List Act) (r f : ℕ) (done todo : List Write) → At g acts r f done todo → (Arrived g) ⊎ (Ahead g r f)
step g acts r f done todo a = by (blocked_or g acts r f done todo a)
  where
    by_last : Blocked g r f done todo → (r < g.last) ⊎ (g.last ≤ r) → (Arrived g) ⊎ (Ahead g r f)
    by_last b (inl l) =
        let more = one_more g acts r f done todo a b l in
        inr (record { acts = more.acts; last = r + 1; floor = f; done = more.done; todo = more.todo; is = more.is; less = omega (arith, l) })
    by_last b (inr l) = inl (arrived g acts r f done todo a b l)

    by : (Blocked g r f done todo) ⊎ ((f < g.floor) × (f + 1 ≤ r) × (list_any (λ w. is_cleared (f + 1) (those_of w.key done)) done ≡ false)) → (Arrived g) ⊎ (Ahead g r f)
    by (inl b) = by_last b (cases_lt r g.last)
    by (inr x) = inr (record {
      acts = acts ++ Compact (f + 1) ∷ [];
      last = r;
      floor = f + 1;
      done = done;
      todo = todo;
      is = compacted_once g acts r f done todo a x.0 x.1 (none_cleared (f + 1) done x.2);
      less = omega (arith, x.0);
    })

-- after enough steps the acts are at the end
run : (fuel : ℕ) (g : Goal) (acts : List Act) (r f : ℕ) (done todo : List Write) → At g acts r f done todo → (g.last - r) + (g.floor - f) ≤ fuel → Arrived g
run zero g acts r f done todo a enough = by (step g acts r f done todo a)
  where
    by : (Arrived g) ⊎ (Ahead g r f) → Arrived g
    by (inl end) = end
    by (inr next) = absurd (omega (arith, next.less, enough))
run (suc fuel) g acts r f done todo a enough = by (step g acts r f done todo a) (λ next. run fuel g next.acts next.last next.floor next.done next.todo next.is)
  where
    by : (Arrived g) ⊎ (Ahead g r f) → ((next : Ahead g r f) → (g.last - next.last) + (g.floor - next.floor) ≤ fuel → Arrived g) → Arrived g
    by (inl end) later = end
    by (inr next) later = later next (omega (arith, next.less, enough))

-- ---- what they lead to

module _ (g : Goal) (acts : List Act) (a : At g acts g.last g.floor g.ws []) where
  -- the stored writes are those of the goal
  pub same_stored : stored_writes g.config.history acts ≡ g.ws
  same_stored = all_others g.spare (stored_writes g.config.history acts) g.ws a.real (none_at_floor g acts g.last g.floor g.ws [] a refl)

  -- what is kept is stored, and as it is kept among the goal's writes
  pub same_retained : length (retained g.config.history acts) ≡ g.count
  same_retained =
      let h = g.config.history in
      ap (λ (ws : List Write). length ws)
      (sym (filter-filter (is_kept h acts) (is_stored h acts) (writes_of acts) ∙ filter_agree (λ w. is_stored h acts w && is_kept h acts w) (is_kept h acts) both (writes_of acts))
      ∙ ap (filter (is_kept h acts)) same_stored
      ∙ filter_alike (is_kept h acts) (is_kept_among h g.ws) g.ws alike)
      ∙ g.reach.retained
    where
      and_is : (x y : Bool) → (y ≡ true → x ≡ true) → (x && y) ≡ y
      and_is true y k = refl
      and_is false true k = k refl
      and_is false false k = refl

      both : (w : Write) → (is_stored g.config.history acts w && is_kept g.config.history acts w) ≡ is_kept g.config.history acts w
      both w = and_is (is_stored g.config.history acts w) (is_kept g.config.history acts w) (λ k. kept_is_stored g.config g.config.history acts w a.lawful k)

      alike : (w : Write) → Contains g.ws w → is_kept g.config.history acts w ≡ is_kept_among g.config.history g.ws w
      alike w m = ap (λ (vs : List Write). list_any (λ n. n == w.revision) (revisions (last_n g.config.history (since_purge vs)))) (a.of_key w.key (flip w.key g.spare (g.other w m)))

-- writes and numbers that can be those of a bucket are those of some lawful acts, where there is a key that none of the writes is of
pub acts_leading : (config : Configuration) (spare : List ℕ) (ws : List Write) (last count floor : ℕ) (sealed : Bool) → IsLegal config → is_key spare ≡ true → ((w : Write) → Contains ws w → bytes_eq w.key spare ≡ false) → IsReachable config ws last count floor
    → (acts : List Act) × IsLawful config acts × (stored_writes config.history acts ≡ ws) × (length (writes_of acts) ≡ last) × (length (retained config.history acts) ≡ count) × (floor_of acts ≡ floor) × (is_sealed acts ≡ sealed)
acts_leading config spare ws last count floor sealed legal is other reach = by_seal sealed
  where
    goal : Goal
    goal = record { config = config; spare = spare; ws = ws; last = last; count = count; floor = floor; is = is; other = other; reach = reach }

    end : Arrived goal
    end = run (left goal 0 0) goal [] 0 0 [] ws (start goal) (omega arith)

    by_seal : (b : Bool) → (acts : List Act) × IsLawful config acts × (stored_writes config.history acts ≡ ws) × (length (writes_of acts) ≡ last) × (length (retained config.history acts) ≡ count) × (floor_of acts ≡ floor) × (is_sealed acts ≡ b)
    by_seal false = (end.acts, end.is.lawful, same_stored goal end.acts end.is, end.is.number, same_retained goal end.acts end.is, end.is.floor_is, end.is.unsealed)
    by_seal true = (
      end.acts ++ Seal ∷ [],
      lawful-push config end.acts Seal end.is.lawful tt,
      stored-push config config.history end.acts Seal end.is.lawful tt ∙ same_stored goal end.acts end.is,
      ap (λ (vs : List Write). length vs) (writes_of-seal end.acts) ∙ end.is.number,
      ap (λ (vs : List Write). length vs) (retained_seal config.history end.acts) ∙ same_retained goal end.acts end.is,
      floor_of-seal end.acts ∙ end.is.floor_is,
      is_sealed-seal end.acts,
    )
