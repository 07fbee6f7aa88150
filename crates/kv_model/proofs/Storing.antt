-- Which writes are stored: those above the floor, and those that are kept. This is what compactions leave one by one.
use Rattle.std.proofs.Common.{◌≡◌, ℕ, zero, suc, ◌+◌, ◌-◌, ◌<◌, ◌≤◌, Bool, true, false, cond, ◌&&◌, ◌||◌, ◌==◌, not, List, [], ◌∷◌, ◌++◌, Option, Some, None, inl, inr, ◌⊎◌, ⊎_elim, unwrap_or, length, drop, filter, refl, sym, subst, ap, ◌∙◌, arith, append_assoc, append-nil, length-append}
use Rattle.std.specs.Prelude.{nat_lt, nat_le}
use Rattle.std.specs.List.{Contains, filter_map, last_or, list_any}
use Rattle.std.specs.Str.{bytes_eq}
use Rattle.std.proofs.lemmas.Bool.{lt-ltb, ltb-true, ltb-false, le-leb, lt-leb}
use Rattle.std.proofs.lemmas.List.{drop_all}
use Rattle.std.proofs.lemmas.Slice.Eq.{bytes_eq-Decides}
use Rattle.std.proofs.lemmas.List.Elements.{Contains-append_cases, filter-append, filter_agree, filter_map-append}
use Rattle.kv_model.specs.Acceptance.{IsAccepted, IsLawful, LawfulFrom}
use Rattle.kv_model.specs.Acts.{Act, Wrote, Seal, Compact, Write, is_purge, writes_of, floor_in, floor_of, is_compaction, when_compacted}
use Rattle.kv_model.specs.Compaction.{is_stored, stored_writes, is_bad_floor}
use Rattle.kv_model.specs.further.OneByOne.{removes, stored_after, left_one_by_one}
use Rattle.kv_model.specs.Configuration.{Configuration}
use Rattle.kv_model.specs.Retained.{is_cleared, kept, is_kept, last_n, retained, revisions, since_purge, writes_of_key}
use Rattle.kv_model.proofs.Keeping.{kept_cleared, kept_other, kept_revisions_same, kept_seal, kept_spared}
use Rattle.kv_model.proofs.Members.{Contains-cases, Contains-from_any, Contains-none, Contains-there, any_from_Contains, filter-filter}
use Rattle.kv_model.proofs.Numbered.{CountsFrom, accepted_is_next, counts_from_lawful, writes_of-compact, writes_of-seal, writes_of-wrote}

-- ---- the floor, and the acts when the last compaction was made

last_or-push : {X : Type 0} (xs : List X) (x : X) (o : Option X) → last_or o (xs ++ x ∷ []) ≡ Some x
last_or-push [] x o = refl
last_or-push (y ∷ ys) x o = last_or-push ys x (Some y)

pub floor_of-wrote : (acts : List Act) (w : Write) → floor_of (acts ++ Wrote w ∷ []) ≡ floor_of acts
floor_of-wrote acts w = ap (λ fs. unwrap_or (last_or None fs) 0) (filter_map-append floor_in acts (Wrote w ∷ []) ∙ append-nil (filter_map floor_in acts))

pub floor_of-seal : (acts : List Act) → floor_of (acts ++ Seal ∷ []) ≡ floor_of acts
floor_of-seal acts = ap (λ fs. unwrap_or (last_or None fs) 0) (filter_map-append floor_in acts (Seal ∷ []) ∙ append-nil (filter_map floor_in acts))

pub floor_of-compact : (acts : List Act) (floor : ℕ) → floor_of (acts ++ Compact floor ∷ []) ≡ floor
floor_of-compact acts floor =
    ap (λ fs. unwrap_or (last_or None fs) 0) (filter_map-append floor_in acts (Compact floor ∷ []))
    ∙ ap (λ o. unwrap_or o 0) (last_or-push (filter_map floor_in acts) floor None)

any_not : (acts : List Act) (act : Act) → is_compaction act ≡ false → list_any is_compaction (acts ++ act ∷ []) ≡ list_any is_compaction acts
any_not [] act e = rw e refl
any_not (first ∷ acts) act e = ap (λ b. is_compaction first || b) (any_not acts act e)

any_is : (acts : List Act) (floor : ℕ) → list_any is_compaction (acts ++ Compact floor ∷ []) ≡ true
any_is [] floor = refl
any_is (first ∷ acts) floor = let rest = any_is acts floor in
    elim (is_compaction first) as (λ b. (b || list_any is_compaction (acts ++ Compact floor ∷ [])) ≡ true) [ true ↦ refl | false ↦ rest ]

pub when_compacted-not : (acts : List Act) (act : Act) → is_compaction act ≡ false → when_compacted (acts ++ act ∷ []) ≡ when_compacted acts
when_compacted-not [] act e = rw e refl
when_compacted-not (first ∷ acts) act e =
    ap (λ b. cond (is_compaction first || b) (first ∷ when_compacted (acts ++ act ∷ [])) []) (any_not acts act e)
    ∙ ap (λ before. cond (is_compaction first || list_any is_compaction acts) (first ∷ before) []) (when_compacted-not acts act e)

pub when_compacted-compact : (acts : List Act) (floor : ℕ) → when_compacted (acts ++ Compact floor ∷ []) ≡ acts ++ Compact floor ∷ []
when_compacted-compact [] floor = refl
when_compacted-compact (first ∷ acts) floor =
    ap (λ b. cond b (first ∷ when_compacted (acts ++ Compact floor ∷ [])) []) (any_is (first ∷ acts) floor)
    ∙ ap (λ before. first ∷ before) (when_compacted-compact acts floor)

-- ---- lawful acts, one after the other

pub lawful_by : (P : List Act → Type 0) (config : Configuration) → P [] → ((before : List Act) (act : Act) → P before → IsAccepted config before act → P (before ++ act ∷ [])) → (acts : List Act) → IsLawful config acts → P acts
lawful_by P config none step acts h = from [] acts none h
  where
    from : (before acts : List Act) → P before → LawfulFrom config before acts → P (before ++ acts)
    from before [] p h = subst P (sym (append-nil before)) p
    from before (act ∷ acts) p h = subst P (append_assoc before (act ∷ []) acts) (from (before ++ act ∷ []) acts (step before act p h.0) h.1)

-- the revision of a write that is accepted
pub next_revision : (config : Configuration) (before : List Act) (w : Write) → IsAccepted config before (Wrote w) → w.revision ≡ length (writes_of before) + 1
next_revision config before w h = ap (λ (v : Write). v.revision) (sym (accepted_is_next config h.0 before w h.1.1))

-- a floor that is not bad
pub good_floor : (floor : ℕ) (acts : List Act) → is_bad_floor floor acts ≡ false → (floor ≤ length (writes_of acts)) × (floor_of acts ≤ floor)
good_floor floor acts h = by_test (floor == 0) (nat_lt (length (writes_of acts)) floor) refl (nat_lt floor (floor_of acts)) refl h
  where
    by_test : (a b : Bool) → nat_lt (length (writes_of acts)) floor ≡ b → (c : Bool) → nat_lt floor (floor_of acts) ≡ c → a || (b || c) ≡ false → (floor ≤ length (writes_of acts)) × (floor_of acts ≤ floor)
    by_test true b e c f h = cc
    by_test false true e c f h = cc
    by_test false false e true f h = cc
    by_test false false e false f h = (ltb-false (length (writes_of acts)) floor e, ltb-false floor (floor_of acts) f)

-- ---- a kept write is stored

Contains-drop : {X : Type 0} (k : ℕ) (xs : List X) (y : X) → Contains (drop k xs) y → Contains xs y
Contains-drop zero xs y m = m
Contains-drop (suc k) [] y m = m
Contains-drop (suc k) (x ∷ xs) y m = Contains-there x xs y (Contains-drop k xs y m)

one_member : (r s : ℕ) → Contains (r ∷ []) s → r ≡ s
one_member r s m = ⊎_elim (λ e. e) (λ n. absurd (Contains-none s n)) (Contains-cases r [] s m)

-- of a key that is written one more revision is kept at most
kept_more : (h : ℕ) (key : List ℕ) (acts : List Act) (w : Write) (r : ℕ) → Contains (revisions (kept h key (acts ++ Wrote w ∷ []))) r → Contains (revisions (kept h key acts)) r ⊎ (w.revision ≡ r)
kept_more zero key acts w r m =
    let since = since_purge (writes_of_key key (acts ++ Wrote w ∷ [])) in
    let none : last_n 0 since ≡ [] = drop_all (length since - 0) since (omega arith) in
    absurd (Contains-none r (subst (λ ws. Contains (revisions ws) r) none m))
kept_more (suc h) key acts w r m = by_test (bytes_eq w.key key) refl
  where
    by_purge : (b : Bool) → Contains (cond b [] (revisions (kept (suc h) key acts)) ++ w.revision ∷ []) r → Contains (revisions (kept (suc h) key acts)) r ⊎ (w.revision ≡ r)
    by_purge true m = inr (one_member w.revision r m)
    by_purge false m = ⊎_elim (λ n. inl n) (λ n. inr (one_member w.revision r n)) (Contains-append_cases (revisions (kept (suc h) key acts)) (w.revision ∷ []) r m)

    by_test : (b : Bool) → bytes_eq w.key key ≡ b → Contains (revisions (kept (suc h) key acts)) r ⊎ (w.revision ≡ r)
    by_test true e =
        let all = cond (is_purge w.op) [] (revisions (kept (suc h) key acts)) ++ w.revision ∷ [] in
        let among : Contains (last_n (suc h) all) r = subst (λ rs. Contains rs r) (kept_revisions_same (suc h) key acts w (omega arith) e) m in
        by_purge (is_purge w.op) (Contains-drop (length all - suc h) all r among)
    by_test false e = inl (subst (λ ws. Contains (revisions ws) r) (kept_other (suc h) key acts w e) m)

-- the floor is within the writes, and a kept revision is above it or was kept when the last compaction was made
record Storing (h : ℕ) (acts : List Act) : Type 0 where
  within : floor_of acts ≤ length (writes_of acts)
  stored : (key : List ℕ) (r : ℕ) → Contains (revisions (kept h key acts)) r → (floor_of acts < r) ⊎ Contains (revisions (kept h key (when_compacted acts))) r

storing_step : (config : Configuration) (h : ℕ) (before : List Act) (act : Act) → Storing h before → IsAccepted config before act → Storing h (before ++ act ∷ [])
storing_step config h before (Wrote w) s accepted =
    let floor = floor_of-wrote before w in
    let when = when_compacted-not before (Wrote w) refl in
    record {
      within = omega (arith, s.within, floor, ap length (writes_of-wrote before w), length-append (writes_of before) (w ∷ []));
      stored = λ key r m. rw (floor, when) (⊎_elim (λ n. s.stored key r n) (λ e. inl (omega (arith, s.within, next_revision config before w accepted, e))) (kept_more h key before w r m));
    }
storing_step config h before Seal s accepted = record {
  within = omega (arith, s.within, floor_of-seal before, ap length (writes_of-seal before));
  stored = λ key r m. rw (floor_of-seal before, when_compacted-not before Seal refl) (s.stored key r (subst (λ ws. Contains (revisions ws) r) (kept_seal h key before) m));
}
storing_step config h before (Compact floor) s accepted = record {
  within = omega (arith, (good_floor floor before accepted).0, floor_of-compact before floor, ap length (writes_of-compact before floor));
  stored = λ key r m. inr (subst (λ acts. Contains (revisions (kept h key acts)) r) (sym (when_compacted-compact before floor)) m);
}

storing : (config : Configuration) (h : ℕ) (acts : List Act) → IsLawful config acts → Storing h acts
storing config h acts lawful =
    lawful_by (Storing h) config (record { within = omega arith; stored = λ key r m. inr m }) (storing_step config h) acts lawful

-- the floor is never above the last revision
pub floor_within : (config : Configuration) (acts : List Act) → IsLawful config acts → floor_of acts ≤ length (writes_of acts)
floor_within config acts lawful = (storing config 1 acts lawful).within

pub above_is_stored : (h : ℕ) (acts : List Act) (w : Write) → floor_of acts < w.revision → is_stored h acts w ≡ true
above_is_stored h acts w l = ap (λ b. b || is_kept h (when_compacted acts) w) (lt-ltb (floor_of acts) w.revision l)

pub kept_is_stored : (config : Configuration) (h : ℕ) (acts : List Act) (w : Write) → IsLawful config acts → is_kept h acts w ≡ true → is_stored h acts w ≡ true
kept_is_stored config h acts w lawful k =
    ⊎_elim
    (λ l. above_is_stored h acts w l)
    (λ m. or_true (nat_lt (floor_of acts) w.revision) (is_kept h (when_compacted acts) w) (any_from_Contains w.revision (revisions (kept h w.key (when_compacted acts))) m))
    ((storing config h acts lawful).stored w.key w.revision (Contains-from_any w.revision (revisions (kept h w.key acts)) k))
  where
    or_true : (a b : Bool) → b ≡ true → (a || b) ≡ true
    or_true true b e = refl
    or_true false b e = e

-- ---- one by one

-- what is kept then was kept before
pub spared_is_kept : (h : ℕ) (acts : List Act) (floor : ℕ) (w : Write) → is_kept h (acts ++ Compact floor ∷ []) w ≡ true → is_kept h acts w ≡ true
spared_is_kept h acts floor w k = by_test (is_cleared floor (writes_of_key w.key acts)) refl
  where
    by_test : (b : Bool) → is_cleared floor (writes_of_key w.key acts) ≡ b → is_kept h acts w ≡ true
    by_test true e =
        let none : false ≡ true = sym (ap (λ ws. list_any (λ r. r == w.revision) (revisions ws)) (kept_cleared h w.key acts floor e)) ∙ k in cc
    by_test false e = sym (ap (λ ws. list_any (λ r. r == w.revision) (revisions ws)) (kept_spared h w.key acts floor e)) ∙ k

stored-wrote : (config : Configuration) (h : ℕ) (acts : List Act) (w : Write) → IsLawful config acts → IsAccepted config acts (Wrote w) → stored_writes h (acts ++ Wrote w ∷ []) ≡ stored_writes h acts ++ w ∷ []
stored-wrote config h acts w lawful accepted =
    let more = acts ++ Wrote w ∷ [] in
    let above : floor_of acts < w.revision = omega (arith, floor_within config acts lawful, next_revision config acts w accepted) in
    ap (filter (is_stored h more)) (writes_of-wrote acts w)
    ∙ filter_agree (is_stored h more) (is_stored h acts) (λ v. ap (λ n. nat_lt n v.revision || is_kept h (when_compacted more) v) (floor_of-wrote acts w)
    ∙ ap (λ before. nat_lt (floor_of acts) v.revision || is_kept h before v) (when_compacted-not acts (Wrote w) refl)) (writes_of acts ++ w ∷ [])
    ∙ filter-append (is_stored h acts) (writes_of acts) (w ∷ [])
    ∙ ap (λ b. stored_writes h acts ++ cond b (w ∷ []) []) (above_is_stored h acts w above)

stored-seal : (h : ℕ) (acts : List Act) → stored_writes h (acts ++ Seal ∷ []) ≡ stored_writes h acts
stored-seal h acts =
    let more = acts ++ Seal ∷ [] in
    ap (filter (is_stored h more)) (writes_of-seal acts)
    ∙ filter_agree (is_stored h more) (is_stored h acts) (λ v. ap (λ n. nat_lt n v.revision || is_kept h (when_compacted more) v) (floor_of-seal acts)
    ∙ ap (λ before. nat_lt (floor_of acts) v.revision || is_kept h before v) (when_compacted-not acts Seal refl)) (writes_of acts)

stored-compact : (config : Configuration) (h : ℕ) (acts : List Act) (floor : ℕ) → IsLawful config acts → is_bad_floor floor acts ≡ false
    → stored_writes h (acts ++ Compact floor ∷ []) ≡ filter (λ w. not (removes floor h acts w)) (stored_writes h acts)
stored-compact config h acts floor lawful good =
    let more = acts ++ Compact floor ∷ [] in
    ap (filter (is_stored h more)) (writes_of-compact acts floor)
    ∙ filter_agree (is_stored h more) (λ w. is_stored h acts w && not (removes floor h acts w)) agree (writes_of acts)
    ∙ sym (filter-filter (λ w. not (removes floor h acts w)) (is_stored h acts) (writes_of acts))
  where
    agree : (w : Write) → is_stored h (acts ++ Compact floor ∷ []) w ≡ (is_stored h acts w && not (removes floor h acts w))
    agree w =
        ap (λ n. nat_lt n w.revision || is_kept h (when_compacted (acts ++ Compact floor ∷ [])) w) (floor_of-compact acts floor)
        ∙ ap (λ before. nat_lt floor w.revision || is_kept h before w) (when_compacted-compact acts floor)
        ∙ by_test (nat_lt floor w.revision) refl (is_kept h (acts ++ Compact floor ∷ []) w) refl
      where
        by_test : (a : Bool) → nat_lt floor w.revision ≡ a → (k : Bool) → is_kept h (acts ++ Compact floor ∷ []) w ≡ k →
            (a || k) ≡ (is_stored h acts w && not (nat_le w.revision floor && not k))
        by_test true e k is =
            let l = ltb-true floor w.revision e in
            let stored : is_stored h acts w ≡ true = above_is_stored h acts w (omega (arith, l, (good_floor floor acts good).1)) in
            rw (stored, lt-leb w.revision floor l) refl
        by_test false e true is =
            let stored : is_stored h acts w ≡ true = kept_is_stored config h acts w lawful (spared_is_kept h acts floor w is) in
            rw stored (elim (nat_le w.revision floor) as (λ b. true ≡ not (b && false)) [ true ↦ refl | false ↦ refl ])
        by_test false e false is =
            rw (le-leb w.revision floor (ltb-false floor w.revision e)) (elim (is_stored h acts w) as (λ b. false ≡ (b && false)) [ true ↦ refl | false ↦ refl ])

-- after a compaction a write is stored where it is above the floor, or kept then
pub is_stored-compact : (h : ℕ) (acts : List Act) (floor : ℕ) (w : Write) → is_stored h (acts ++ Compact floor ∷ []) w ≡ (nat_lt floor w.revision || is_kept h (acts ++ Compact floor ∷ []) w)
is_stored-compact h acts floor w =
    ap (λ n. nat_lt n w.revision || is_kept h (when_compacted (acts ++ Compact floor ∷ [])) w) (floor_of-compact acts floor)
    ∙ ap (λ before. nat_lt floor w.revision || is_kept h before w) (when_compacted-compact acts floor)

-- and it was stored before
pub stored_before : (config : Configuration) (h : ℕ) (acts : List Act) (floor : ℕ) (w : Write) → IsLawful config acts → is_bad_floor floor acts ≡ false → is_stored h (acts ++ Compact floor ∷ []) w ≡ true → is_stored h acts w ≡ true
stored_before config h acts floor w lawful good t =
    by_test (nat_lt floor w.revision) refl (is_kept h (acts ++ Compact floor ∷ []) w) refl (sym (is_stored-compact h acts floor w) ∙ t)
  where
    by_test : (a : Bool) → nat_lt floor w.revision ≡ a → (k : Bool) → is_kept h (acts ++ Compact floor ∷ []) w ≡ k → (a || k) ≡ true → is_stored h acts w ≡ true
    by_test true e k is one = above_is_stored h acts w (omega (arith, ltb-true floor w.revision e, (good_floor floor acts good).1))
    by_test false e true is one = kept_is_stored config h acts w lawful (spared_is_kept h acts floor w is)
    by_test false e false is one = cc

-- what one more act leaves stored
pub stored-push : (config : Configuration) (h : ℕ) (acts : List Act) (act : Act) → IsLawful config acts → IsAccepted config acts act → stored_writes h (acts ++ act ∷ []) ≡ stored_after h acts (stored_writes h acts) act
stored-push config h acts (Wrote w) lawful accepted = stored-wrote config h acts w lawful accepted
stored-push config h acts Seal lawful accepted = stored-seal h acts
stored-push config h acts (Compact floor) lawful accepted = stored-compact config h acts floor lawful accepted

-- lawful acts and one more that is accepted
lawful_more : (config : Configuration) (before acts : List Act) (act : Act) → LawfulFrom config before acts → IsAccepted config (before ++ acts) act → LawfulFrom config before (acts ++ act ∷ [])
lawful_more config before [] act h a = (subst (λ all. IsAccepted config all act) (append-nil before) a, tt)
lawful_more config before (first ∷ acts) act h a =
    (h.0, lawful_more config (before ++ first ∷ []) acts act h.1 (subst (λ all. IsAccepted config all act) (sym (append_assoc before (first ∷ []) acts)) a))

pub stored_one_by_one : (config : Configuration) (h : ℕ) (acts : List Act) → IsLawful config acts → stored_writes h acts ≡ left_one_by_one h [] [] acts
stored_one_by_one config h acts lawful = from [] acts tt lawful
  where
    from : (before acts : List Act) → IsLawful config before → LawfulFrom config before acts → stored_writes h (before ++ acts) ≡ left_one_by_one h before (stored_writes h before) acts
    from before [] l k = ap (stored_writes h) (append-nil before)
    from before (act ∷ acts) l k =
        ap (stored_writes h) (sym (append_assoc before (act ∷ []) acts))
        ∙ from (before ++ act ∷ []) acts (lawful_more config [] before act l k.0) k.1
        ∙ ap (λ ws. left_one_by_one h (before ++ act ∷ []) ws acts) (stored-push config h before act l k.0)

-- ---- no floor, and floors

-- where there is no floor every write is above it
pub all_stored : (config : Configuration) (h : ℕ) (acts : List Act) → IsLawful config acts → floor_of acts ≡ 0 → stored_writes h acts ≡ writes_of acts
all_stored config h acts lawful none = from 0 (writes_of acts) (counts_from_lawful config acts lawful)
  where
    from : (n : ℕ) (ws : List Write) → CountsFrom (suc n) ws → filter (is_stored h acts) ws ≡ ws
    from n [] c = refl
    from n (w ∷ ws) c =
        ap (λ b. cond b (w ∷ filter (is_stored h acts) ws) (filter (is_stored h acts) ws)) (above_is_stored h acts w (omega (arith, none, c.0)))
        ∙ ap (λ vs. w ∷ vs) (from (suc n) ws c.1)

pub floor_never_falls : (config : Configuration) (acts : List Act) (act : Act) → IsAccepted config acts act → floor_of acts ≤ floor_of (acts ++ act ∷ [])
floor_never_falls config acts (Wrote w) accepted = omega (arith, floor_of-wrote acts w)
floor_never_falls config acts Seal accepted = omega (arith, floor_of-seal acts)
floor_never_falls config acts (Compact floor) accepted = omega (arith, floor_of-compact acts floor, (good_floor floor acts accepted).1)

-- ---- what a compaction leaves of a key that it doesn't clear

pub retained_spared : (h : ℕ) (key : List ℕ) (acts : List Act) (floor : ℕ) → is_cleared floor (writes_of_key key acts) ≡ false
    → filter (λ w. bytes_eq w.key key) (retained h (acts ++ Compact floor ∷ [])) ≡ filter (λ w. bytes_eq w.key key) (retained h acts)
retained_spared h key acts floor spared =
    let of : Write → Bool = λ w. bytes_eq w.key key in
    let more = acts ++ Compact floor ∷ [] in
    filter-filter of (is_kept h more) (writes_of more)
    ∙ ap (filter (λ w. is_kept h more w && of w)) (writes_of-compact acts floor)
    ∙ filter_agree (λ w. is_kept h more w && of w) (λ w. is_kept h acts w && of w) (λ w. agree w (bytes_eq w.key key) refl) (writes_of acts)
    ∙ sym (filter-filter of (is_kept h acts) (writes_of acts))
  where
    and_false : (c : Bool) → (c && false) ≡ false
    and_false true = refl
    and_false false = refl

    agree : (w : Write) (b : Bool) → bytes_eq w.key key ≡ b → (is_kept h (acts ++ Compact floor ∷ []) w && b) ≡ (is_kept h acts w && b)
    agree w true e =
        let same : w.key ≡ key = (bytes_eq-Decides w.key key).0 e in
        let other : is_cleared floor (writes_of_key w.key acts) ≡ false = ap (λ k. is_cleared floor (writes_of_key k acts)) same ∙ spared in
        ap (λ ws. list_any (λ r. r == w.revision) (revisions ws) && true) (kept_spared h w.key acts floor other)
    agree w false e = and_false (is_kept h (acts ++ Compact floor ∷ []) w) ∙ sym (and_false (is_kept h acts w))
