-- One more compaction on the way to given stored writes.
use Rattle.std.proofs.Common.{◌≡◌, ℕ, ◌+◌, ◌<◌, ◌≤◌, Bool, true, false, ◌&&◌, ◌==◌, not, List, [], ◌∷◌, ◌++◌, Some, None, inl, inr, ◌⊎◌, length, filter, refl, sym, subst, ap, ◌∙◌, arith}
use Rattle.std.specs.Prelude.{nat_lt, nat_le}
use Rattle.std.specs.List.{Contains, last_or, list_any}
use Rattle.std.specs.Str.{bytes_eq}
use Rattle.std.proofs.lemmas.Bool.{ne_eqb, le-leb, leb-true, le-ltb, cases_lt}
use Rattle.std.proofs.lemmas.List.Elements.{filter_agree}
use Rattle.std.proofs.lemmas.Slice.Eq.{bytes_eq-Decides}
use Rattle.kv_model.specs.Acts.{Act, Compact, Write, floor_of, is_purge, writes_of}
use Rattle.kv_model.specs.Compaction.{is_bad_floor, stored_writes}
use Rattle.kv_model.specs.Retained.{is_cleared, is_kept, kept, last_n, last_write, revisions, since_purge, writes_of_key}
use Rattle.kv_model.specs.further.OneByOne.{removes}
use Rattle.kv_model.proofs.Keeping.{writes_of_key-cleared, writes_of_key-spared}
use Rattle.kv_model.proofs.Members.{Contains-from_filter, filter-filter, filter_all}
use Rattle.kv_model.proofs.Numbered.{writes_of-compact}
use Rattle.kv_model.proofs.Storing.{floor_of-compact, stored-push}
use Rattle.kv_store.proofs.Standings.{is_sealed-compact, lawful-push}
use Rattle.kv_journal.specs.Restored.{those_of}
use Rattle.kv_journal.specs.inside.Reachable.{last_among}
use Rattle.kv_journal.proofs.OfOneKey.{unkept_below}
use Rattle.kv_journal.proofs.RisingWrites.{rise_last}
use Rattle.kv_journal.proofs.Underway.{Goal, At, done_other, flip}

-- ---- a compaction to the next floor

module _ (g : Goal) (acts : List Act) (r f : ℕ) (done todo : List Write) (a : At g acts r f done todo) (below : f < g.floor) (within : f + 1 ≤ r) (none : (key : List ℕ) → is_cleared (f + 1) (those_of key done) ≡ false) where
  abbrev h : ℕ
  h = g.config.history

  abbrev stored : List Write
  stored = stored_writes g.config.history acts

  abbrev after : List Act
  after = acts ++ Compact (f + 1) ∷ []

  abbrev stays : Write → Bool
  stays w = not (removes (f + 1) g.config.history acts w)

  -- the floor is a good one
  good : is_bad_floor (f + 1) acts ≡ false
  good =
      let one : (f + 1 == 0) ≡ false = ne_eqb (f + 1) 0 (λ e. omega (arith, e)) in
      let two : nat_lt (length (writes_of acts)) (f + 1) ≡ false = le-ltb (length (writes_of acts)) (f + 1) (omega (arith, a.number)) in
      let three : nat_lt (f + 1) (floor_of acts) ≡ false = le-ltb (f + 1) (floor_of acts) (omega (arith, a.floor_is)) in
      rw (one, two, three) refl

  -- no key but the spare one loses writes
  of_key_after : (key : List ℕ) → bytes_eq g.spare key ≡ false → writes_of_key key after ≡ those_of key done
  of_key_after key e =
      let same = a.of_key key e in
      writes_of_key-spared key acts (f + 1) (ap (is_cleared (f + 1)) same ∙ none key) ∙ same

  -- the writes that are done stay
  done_stays : (w : Write) → Contains done w → stays w ≡ true
  done_stays w m = by_test (nat_le w.revision (f + 1)) refl
    where
      time : last_among done ≤ g.reach.time
      time = omega (arith, rise_last 0 r done a.below, a.timely below)

      kept_still : w.revision ≤ f + 1 → is_kept g.config.history (acts ++ Compact (f + 1) ∷ []) w ≡ true
      kept_still l =
          ap (λ (vs : List Write). list_any (λ n. n == w.revision) (revisions (last_n g.config.history (since_purge vs)))) (of_key_after w.key (flip w.key g.spare (done_other g acts r f done todo a w m)))
          ∙ g.reach.compacted.kept done todo w a.split time m (omega arith)

      by_test : (b : Bool) → nat_le w.revision (f + 1) ≡ b → not (b && not (is_kept g.config.history (acts ++ Compact (f + 1) ∷ []) w)) ≡ true
      by_test true e = ap (λ (b : Bool). not (true && not b)) (kept_still (leb-true w.revision (f + 1) e))
      by_test false e = refl

  -- what is stored behind it
  stored_after_is : stored_writes h after ≡ filter stays stored
  stored_after_is = stored-push g.config h acts (Compact (f + 1)) a.lawful good

  -- of other keys than the spare one just those that are done
  real_after : filter (λ w. not (bytes_eq w.key g.spare)) (stored_writes h after) ≡ done
  real_after =
      let other : Write → Bool = λ w. not (bytes_eq w.key g.spare) in
      ap (filter other) stored_after_is
      ∙ both_ways other stays stored
      ∙ ap (filter stays) a.real
      ∙ filter_all stays done done_stays
    where
      and_turned : (x y : Bool) → (x && y) ≡ (y && x)
      and_turned true true = refl
      and_turned true false = refl
      and_turned false true = refl
      and_turned false false = refl

      both_ways : (p q : Write → Bool) (vs : List Write) → filter p (filter q vs) ≡ filter q (filter p vs)
      both_ways p q vs = filter-filter p q vs ∙ filter_agree (λ w. q w && p w) (λ w. p w && q w) (λ w. and_turned (q w) (p w)) vs ∙ sym (filter-filter q p vs)

  -- no filler at or below the floor stays
  gone : (w : Write) → w.key ≡ g.spare → w.revision ≤ f + 1 → is_kept h after w ≡ false
  gone w e l =
      ap (λ (k : List ℕ). list_any (λ n. n == w.revision) (revisions (kept g.config.history k (acts ++ Compact (f + 1) ∷ [])))) e
      ∙ by_test (is_cleared (f + 1) (writes_of_key g.spare acts)) refl
    where
      by_test : (b : Bool) → is_cleared (f + 1) (writes_of_key g.spare acts) ≡ b → list_any (λ n. n == w.revision) (revisions (kept g.config.history g.spare (acts ++ Compact (f + 1) ∷ []))) ≡ false
      by_test true t =
          ap (λ (vs : List Write). list_any (λ n. n == w.revision) (revisions (last_n g.config.history (since_purge vs)))) (writes_of_key-cleared g.spare acts (f + 1) t)
          ∙ unkept_below g.config.history [] (f + 1) w.revision (λ q e. nothing q e) refl l
        where
          nothing : (q : Write) → None ≡ Some q → is_purge q.op ≡ true
          nothing q e = cc
      by_test false t =
          ap (λ (vs : List Write). list_any (λ n. n == w.revision) (revisions (last_n g.config.history (since_purge vs)))) (writes_of_key-spared g.spare acts (f + 1) t)
          ∙ unkept_below g.config.history (writes_of_key g.spare acts) (f + 1) w.revision a.of_spare t l

  -- so those that stay are above it
  fillers_after : (w : Write) → Contains (stored_writes h after) w → bytes_eq w.key g.spare ≡ true → (f + 1 < w.revision) × (w.revision ≤ g.floor)
  fillers_after w m t = (above (cases_lt (f + 1) w.revision), (a.fillers w both.0 t).1)
    where
      both : Contains (stored_writes g.config.history acts) w × (not (removes (f + 1) g.config.history acts w) ≡ true)
      both = Contains-from_filter stays stored w (subst (λ (vs : List Write). Contains vs w) stored_after_is m)

      above : (f + 1 < w.revision) ⊎ (w.revision ≤ f + 1) → f + 1 < w.revision
      above (inl l) = l
      above (inr l) =
          let out : not (removes (f + 1) g.config.history acts w) ≡ false =
          ap (λ (b : Bool). not (b && not (is_kept g.config.history (acts ++ Compact (f + 1) ∷ []) w))) (le-leb w.revision (f + 1) l)
          ∙ ap (λ (b : Bool). not (true && not b)) (gone w ((bytes_eq-Decides w.key g.spare).0 t) l) in
          let no : false ≡ true = sym out ∙ both.1 in cc

  -- the last write of the spare key is a purge still, if there is one
  spare_after : (q : Write) → last_write g.spare after ≡ Some q → is_purge q.op ≡ true
  spare_after q e = by_test (is_cleared (f + 1) (writes_of_key g.spare acts)) refl
    where
      by_test : (b : Bool) → is_cleared (f + 1) (writes_of_key g.spare acts) ≡ b → is_purge q.op ≡ true
      by_test true t = let no : None ≡ Some q = sym (ap (last_or None) (writes_of_key-cleared g.spare acts (f + 1) t)) ∙ e in cc
      by_test false t = a.of_spare q (sym (ap (last_or None) (writes_of_key-spared g.spare acts (f + 1) t)) ∙ e)

  -- the acts with it are on the way too
  pub compacted_once : At g after r (f + 1) done todo
  compacted_once = record {
    lawful = lawful-push g.config acts (Compact (f + 1)) a.lawful good;
    split = a.split;
    number = ap (λ (vs : List Write). length vs) (writes_of-compact acts (f + 1)) ∙ a.number;
    below = a.below;
    behind = a.behind;
    floor_is = floor_of-compact acts (f + 1);
    unsealed = is_sealed-compact acts (f + 1) ∙ a.unsealed;
    within = within;
    low = omega arith;
    timely = λ l. a.timely below;
    spared = none;
    of_key = of_key_after;
    of_spare = spare_after;
    real = real_after;
    fillers = fillers_after;
  }
