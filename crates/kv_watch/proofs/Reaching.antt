-- Which live items are still to come up to a floor, and that a cursor stays in reach.
use Rattle.std.proofs.Common.{◌≡◌, ℕ, suc, zero, ◌+◌, ◌-◌, ◌<◌, ◌≤◌, Bool, true, false, cond, ◌&&◌, ◌||◌, nat_lt, List, [], ◌∷◌, ◌++◌, length, drop, filter, refl, sym, ap, ◌∙◌, subst, arith, max, min, length-append}
use Rattle.std.specs.Prelude.{nat_le}
use Rattle.std.specs.List.{Contains, list_any}
use Rattle.std.proofs.lemmas.Bool.{ltb-true, ltb-false, lt-ltb, leb-false, lt-leb}
use Rattle.std.proofs.lemmas.Bool.Decides.{nat_tests}
use Rattle.std.proofs.lemmas.List.{drop_all}
use Rattle.std.proofs.lemmas.List.Elements.{filter_map-append}
use Rattle.std.proofs.lemmas.List.Folds.{list_any-append}
use Rattle.kv_keys.specs.Matching.{any_matches}
use Rattle.kv_model.specs.Acts.{Act, Write, IsPrefix, writes_of}
use Rattle.kv_model.specs.declared.event.Event.{Event}
use Rattle.kv_model.specs.declared.event.Event.TheVariants as events
use Rattle.kv_model.specs.declared.options.Options.{Options}
use Rattle.kv_model.specs.Given.{Entry, Item, AnEntry, EndMarker, entry_of, matching, all_shown, initial, ending, given, has_live_below, is_behind, item_revisions, revision_of}
use Rattle.kv_model.specs.further.Showing.{is_shown}
use Rattle.kv_model.proofs.Counted.{shown_rises}
use Rattle.kv_model.proofs.GivenLaws.{given-append, matching_initial, no_fewer_writes}
use Rattle.kv_model.proofs.Numbered.{CountsFrom, CountsFrom-right, writes_of-append}
use Rattle.kv_model.proofs.Members.{Contains-here, Contains-there}
use Rattle.kv_model.proofs.Rising.{Rises, Rises-members}
use Rattle.kv_model.proofs.Storing.{floor_within}
use Rattle.kv_store.specs.Standing.{StandsFor}
use Rattle.kv_store.specs.Stored.{Stored}
use Rattle.kv_watch.specs.Following.{Following, InPlace, InReach, behind, behind_entry, given_to, initial_to, live_count, live_to, marker_if, shown_behind}
use Rattle.kv_watch.proofs.Lists.{drop-append}
use Rattle.kv_watch.proofs.Opened.{in_place_later}
use Rattle.kv_watch.proofs.Placing.{CountsFrom-drop, next_shown, whole}
use Rattle.kv_watch.proofs.Walks.{behind_counted, counts, hidden_front, shown_front}

-- ---- revisions that rise

-- whether one is behind the beginning, and at or below the floor
abbrev pub is_live_below : ℕ → ℕ → ℕ → Bool
is_live_below b floor r = nat_lt b r && nat_le r floor

any_agree : (p q : ℕ → Bool) (rs : List ℕ) → ((r : ℕ) → Contains rs r → p r ≡ q r) → list_any p rs ≡ list_any q rs
any_agree p q [] h = refl
any_agree p q (r ∷ rs) h = rw (h r (Contains-here r rs), any_agree p q rs (λ s m. h s (Contains-there r rs s m))) refl

any_no : (p : ℕ → Bool) (rs : List ℕ) → ((r : ℕ) → Contains rs r → p r ≡ false) → list_any p rs ≡ false
any_no p [] h = refl
any_no p (r ∷ rs) h = rw (h r (Contains-here r rs), any_no p rs (λ s m. h s (Contains-there r rs s m))) refl

-- where all are behind the beginning
rises_live : (b floor low high : ℕ) (rs : List ℕ) → b < low → Rises low high rs → list_any (is_live_below b floor) rs ≡ list_any (λ r. nat_le r floor) rs
rises_live b floor low high rs l h =
    any_agree (is_live_below b floor) (λ r. nat_le r floor) rs (λ r m. ap (λ t. t && nat_le r floor) (lt-ltb b r (omega (arith, l, (Rises-members low high rs r h m).0))))

-- where none is at or below the floor
rises_above : (floor low high : ℕ) (rs : List ℕ) → floor < low → Rises low high rs → list_any (λ r. nat_le r floor) rs ≡ false
rises_above floor low high rs l h = any_no (λ r. nat_le r floor) rs (λ r m. lt-leb r floor (omega (arith, l, (Rises-members low high rs r h m).0)))

-- where none is behind the beginning
none_behind : (b low high : ℕ) (rs : List ℕ) → high ≤ suc b → Rises low high rs → list_any (nat_lt b) rs ≡ false
none_behind b low high rs l h = any_no (nat_lt b) rs (λ r m. not_behind r (omega (arith, l, (Rises-members low high rs r h m).1)))
  where
    not_behind : (r : ℕ) → r ≤ b → nat_lt b r ≡ false
    not_behind r k = grind (arith, nat_tests)

-- ---- items that are left

none_live : (b floor n : ℕ) (xs : List Item) → list_any (nat_lt b) (item_revisions xs) ≡ false → list_any (is_live_below b floor) (item_revisions (drop n xs)) ≡ false
none_live b floor n [] h = ap (λ ys. list_any (is_live_below b floor) (item_revisions ys)) (drop_all {X = Item} n [] (omega arith))
none_live b floor (suc n) (AnEntry e ∷ xs) h = none_live b floor n xs (later (nat_lt b e.revision) h)
  where
    later : (t : Bool) → (t || list_any (nat_lt b) (item_revisions xs)) ≡ false → list_any (nat_lt b) (item_revisions xs) ≡ false
    later true k = cc
    later false k = k
none_live b floor (suc n) (EndMarker ∷ xs) h = none_live b floor n xs h
none_live b floor zero (AnEntry e ∷ xs) h = by_test (nat_lt b e.revision) (λ k. none_live b floor zero xs k) h
  where
    by_test : (t : Bool) → (list_any (nat_lt b) (item_revisions xs) ≡ false → list_any (is_live_below b floor) (item_revisions xs) ≡ false) → (t || list_any (nat_lt b) (item_revisions xs)) ≡ false
        → ((t && nat_le e.revision floor) || list_any (is_live_below b floor) (item_revisions xs)) ≡ false
    by_test true rest k = cc
    by_test false rest k = rest k
none_live b floor zero (EndMarker ∷ xs) h = none_live b floor zero xs h

-- what is left of fewer is so too
fewer_live : (b floor n : ℕ) (xs : List Item) → has_live_below b floor xs ≡ false → has_live_below b floor (drop n xs) ≡ false
fewer_live b floor zero xs h = h
fewer_live b floor (suc n) [] h = h
fewer_live b floor (suc n) (AnEntry e ∷ xs) h = fewer_live b floor n xs (later (is_live_below b floor e.revision) h)
  where
    later : (t : Bool) → (t || has_live_below b floor xs) ≡ false → has_live_below b floor xs ≡ false
    later true k = cc
    later false k = k
fewer_live b floor (suc n) (EndMarker ∷ xs) h = fewer_live b floor n xs h

drop-more : {X : Type 0} (m n : ℕ) (xs : List X) → drop n (drop m xs) ≡ drop (m + n) xs
drop-more zero n xs = ap (λ k. drop k xs) (omega arith)
drop-more {X} (suc m) n [] =
    let none : drop {A = X} n [] ≡ [] = drop_all n [] (omega arith) in
    none ∙ sym (drop_all (suc m + n) [] (omega arith))
drop-more (suc m) n (x ∷ xs) = let e : suc m + n ≡ suc (m + n) = omega arith in rw e (drop-more m n xs)

pub ahead_goes_on : (floor n more h : ℕ) (began acts : List Act) (filters : List (List ℕ)) (options : Options) → n ≤ more → is_behind floor n h began acts filters options ≡ false → is_behind floor more h began acts filters options ≡ false
ahead_goes_on floor n more h began acts filters options l ahead =
    let all = given h began acts filters options in
    let b = length (writes_of began) in
    let e : n + (more - n) ≡ more = omega arith in
    ap (has_live_below b floor) (sym (drop-more n (more - n) all ∙ ap (λ k. drop k all) e))
    ∙ fewer_live b floor (more - n) (drop n all) ahead

marker_none : (marker : Bool) (xs : List Item) → item_revisions (marker_if marker ++ xs) ≡ item_revisions xs
marker_none true xs = refl
marker_none false xs = refl

-- the revisions of what is shown behind a revision are behind it
rises_behind : (acts : List Act) (version : Stored) → StandsFor acts version → (filters : List (List ℕ)) (options : Options) (seen : ℕ)
    → Rises (1 + seen) (1 + seen + length (drop seen (writes_of acts))) (item_revisions (shown_behind seen acts filters options))
rises_behind acts version s filters options seen =
    let counted = counts acts version s in
    subst (λ ws. Rises (1 + seen) (1 + seen + length (drop seen (writes_of acts))) (item_revisions (all_shown options (matching filters ws)))) (sym (behind_counted seen (writes_of acts) counted))
    (shown_rises options (λ w. any_matches filters w.key) (1 + seen) (drop seen (writes_of acts)) (CountsFrom-drop seen 1 (writes_of acts) counted))

-- a watch is behind a floor where something is at or below it of what is shown behind what its cursor has looked at
pub behind_is : (n : ℕ) (began acts : List Act) (base now : Stored) (cursor : Following) (floor : ℕ) → InPlace began acts n base now cursor
    → is_behind floor n base.config.history began acts cursor.filters cursor.options ≡ list_any (λ r. nat_le r floor) (item_revisions (shown_behind cursor.seen acts cursor.filters cursor.options))
behind_is n began acts base now cursor floor at =
    let b = length (writes_of began) in
    let test = is_live_below b floor in
    let initials = all_shown cursor.options (matching cursor.filters (initial base.config.history cursor.options.start began)) in
    let shown = shown_behind cursor.seen acts cursor.filters cursor.options in
    let parts = whole began acts base now cursor.filters cursor.options n cursor.owed cursor.marker cursor.seen cursor.next cursor.handed at in
    let counted = counts began base at.base_stands in
    let first : Rises 1 (1 + b) (item_revisions initials) = rw (matching_initial base.config.history cursor.options.start began cursor.filters) (shown_rises cursor.options _ 1 (writes_of began) counted) in
    let none : list_any test (item_revisions (drop n initials)) ≡ false = none_live b floor n initials (none_behind b 1 (1 + b) (item_revisions initials) (omega arith) first) in
    ap (has_live_below b floor) parts
    ∙ ap (list_any test) (filter_map-append revision_of (drop n initials) (marker_if cursor.marker ++ shown) ∙ ap (λ rs. item_revisions (drop n initials) ++ rs) (marker_none cursor.marker shown))
    ∙ list_any-append test (item_revisions (drop n initials)) (item_revisions shown)
    ∙ ap (λ t. t || list_any test (item_revisions shown)) none
    ∙ rises_live b floor (1 + cursor.seen) _ (item_revisions shown) (omega (arith, at.begun)) (rises_behind acts now at.now_stands cursor.filters cursor.options cursor.seen)

-- ---- between what was looked at and the floor nothing is shown

skip : (filters : List (List ℕ)) (options : Options) (seen floor : ℕ) (ws : List Write) → list_any (λ r. nat_le r floor) (item_revisions (all_shown options (matching filters (filter (λ w. nat_lt seen w.revision) ws)))) ≡ false
    → all_shown options (matching filters (filter (λ w. nat_lt (max seen floor) w.revision) ws)) ≡ all_shown options (matching filters (filter (λ w. nat_lt seen w.revision) ws))
skip filters options seen floor [] h = refl
skip filters options seen floor (w ∷ ws) h = by_seen (λ k. skip filters options seen floor ws k) (nat_lt seen w.revision) refl (nat_lt (max seen floor) w.revision) refl h
  where
    second : (t u : Bool) → (t || u) ≡ false → (t ≡ false) × (u ≡ false)
    second true u k = cc
    second false u k = (refl, k)

    by_shown : (list_any (λ r. nat_le r floor) (item_revisions (all_shown options (matching filters (filter (λ v. nat_lt seen v.revision) ws)))) ≡ false
        → all_shown options (matching filters (filter (λ v. nat_lt (max seen floor) v.revision) ws)) ≡ all_shown options (matching filters (filter (λ v. nat_lt seen v.revision) ws)))
        → (b : Bool) → nat_lt (max seen floor) w.revision ≡ b → (s : Bool) → is_shown filters options w ≡ s
        → nat_lt seen w.revision ≡ true
        → list_any (λ r. nat_le r floor) (item_revisions (all_shown options (matching filters (w ∷ filter (λ v. nat_lt seen v.revision) ws)))) ≡ false
        → all_shown options (matching filters (cond b (w ∷ filter (λ v. nat_lt (max seen floor) v.revision) ws) (filter (λ v. nat_lt (max seen floor) v.revision) ws)))
        ≡ all_shown options (matching filters (w ∷ filter (λ v. nat_lt seen v.revision) ws))
    by_shown rest b e true t l k =
        let lows = filter (λ v. nat_lt seen v.revision) ws in
        let highs = filter (λ v. nat_lt (max seen floor) v.revision) ws in
        let both = second (nat_le w.revision floor) (list_any (λ r. nat_le r floor) (item_revisions (all_shown options (matching filters lows))))
        (ap (λ items. list_any (λ r. nat_le r floor) (item_revisions items)) (sym (shown_front options filters w lows t)) ∙ k) in
        let above : floor < w.revision = leb-false w.revision floor both.0 in
        let behind : seen < w.revision = ltb-true seen w.revision l in
        let passes : b ≡ true = sym e ∙ lt-ltb (max seen floor) w.revision (omega (arith, above, behind)) in
        rw (passes, shown_front options filters w highs t, shown_front options filters w lows t) (ap (λ items. AnEntry (entry_of options.headers_only w) ∷ items) (rest both.1))
    by_shown rest true e false t l k =
        let lows = filter (λ v. nat_lt seen v.revision) ws in
        let highs = filter (λ v. nat_lt (max seen floor) v.revision) ws in
        hidden_front options filters w highs t ∙ rest (ap (λ items. list_any (λ r. nat_le r floor) (item_revisions items)) (sym (hidden_front options filters w lows t)) ∙ k) ∙ sym (hidden_front options filters w lows t)
    by_shown rest false e false t l k =
        let lows = filter (λ v. nat_lt seen v.revision) ws in
        rest (ap (λ items. list_any (λ r. nat_le r floor) (item_revisions items)) (sym (hidden_front options filters w lows t)) ∙ k) ∙ sym (hidden_front options filters w lows t)

    by_seen : (list_any (λ r. nat_le r floor) (item_revisions (all_shown options (matching filters (filter (λ v. nat_lt seen v.revision) ws)))) ≡ false
        → all_shown options (matching filters (filter (λ v. nat_lt (max seen floor) v.revision) ws)) ≡ all_shown options (matching filters (filter (λ v. nat_lt seen v.revision) ws)))
        → (a : Bool) → nat_lt seen w.revision ≡ a → (b : Bool) → nat_lt (max seen floor) w.revision ≡ b
        → list_any (λ r. nat_le r floor) (item_revisions (all_shown options (matching filters (cond a (w ∷ filter (λ v. nat_lt seen v.revision) ws) (filter (λ v. nat_lt seen v.revision) ws))))) ≡ false
        → all_shown options (matching filters (cond b (w ∷ filter (λ v. nat_lt (max seen floor) v.revision) ws) (filter (λ v. nat_lt (max seen floor) v.revision) ws)))
        ≡ all_shown options (matching filters (cond a (w ∷ filter (λ v. nat_lt seen v.revision) ws) (filter (λ v. nat_lt seen v.revision) ws)))
    by_seen rest false f true e k = absurd (omega (arith, ltb-false seen w.revision f, ltb-true (max seen floor) w.revision e))
    by_seen rest false f false e k = rest k
    by_seen rest true f b e k = by_shown rest b e (is_shown filters options w) refl f k

pub ahead_same : (n : ℕ) (began acts : List Act) (base now : Stored) (cursor : Following) → InReach began acts n base now cursor
    → shown_behind (max cursor.seen now.floor) acts cursor.filters cursor.options ≡ shown_behind cursor.seen acts cursor.filters cursor.options
ahead_same n began acts base now cursor at =
    skip cursor.filters cursor.options cursor.seen now.floor (writes_of acts) (sym (behind_is n began acts base now cursor now.floor at.place) ∙ at.ahead)

-- ---- what the next live write tells

-- the first of what is left tells whether anything is at or below a floor
pub behind_none : (n : ℕ) (began acts : List Act) (base now : Stored) (cursor : Following) (floor : ℕ) → InReach began acts n base now cursor
    → shown_behind (max cursor.seen now.floor) acts cursor.filters cursor.options ≡ []
    → is_behind floor n base.config.history began acts cursor.filters cursor.options ≡ false
behind_none n began acts base now cursor floor at none =
    behind_is n began acts base now cursor floor at.place
    ∙ ap (λ items. list_any (λ r. nat_le r floor) (item_revisions items)) (sym (ahead_same n began acts base now cursor at) ∙ none)

pub behind_some : (n : ℕ) (began acts : List Act) (base now : Stored) (cursor : Following) (floor : ℕ) (w : Write) → InReach began acts n base now cursor
    → shown_behind (max cursor.seen now.floor) acts cursor.filters cursor.options ≡ AnEntry (entry_of cursor.options.headers_only w) ∷ shown_behind w.revision acts cursor.filters cursor.options
    → is_behind floor n base.config.history began acts cursor.filters cursor.options ≡ nat_le w.revision floor
behind_some n began acts base now cursor floor w at some =
    behind_is n began acts base now cursor floor at.place
    ∙ ap (λ items. list_any (λ r. nat_le r floor) (item_revisions items)) (sym (ahead_same n began acts base now cursor at) ∙ some)
    ∙ by_test (nat_le w.revision floor) refl
  where
    by_test : (b : Bool) → nat_le w.revision floor ≡ b → (b || list_any (λ r. nat_le r floor) (item_revisions (shown_behind w.revision acts cursor.filters cursor.options))) ≡ b
    by_test true e = refl
    by_test false e = rises_above floor (1 + w.revision) _ _ (omega (arith, leb-false w.revision floor e)) (rises_behind acts now at.place.now_stands cursor.filters cursor.options w.revision)

-- the same of each floor up to the last revision, by the highest one that it is not behind
pub reach_none : (n : ℕ) (began acts : List Act) (base now : Stored) (cursor : Following) → InReach began acts n base now cursor
    → shown_behind (max cursor.seen now.floor) acts cursor.filters cursor.options ≡ []
    → (floor : ℕ) → floor ≤ length (writes_of acts) → is_behind floor n base.config.history began acts cursor.filters cursor.options ≡ nat_lt (length (writes_of acts)) floor
reach_none n began acts base now cursor at none floor l =
    let over : nat_lt (length (writes_of acts)) floor ≡ false = not_below (length (writes_of acts)) floor l in
    behind_none n began acts base now cursor floor at none ∙ sym over
  where
    not_below : (a b : ℕ) → b ≤ a → nat_lt a b ≡ false
    not_below a b k = grind (arith, nat_tests)

pub reach_some : (n : ℕ) (began acts : List Act) (base now : Stored) (cursor : Following) (w : Write) → InReach began acts n base now cursor
    → shown_behind (max cursor.seen now.floor) acts cursor.filters cursor.options ≡ AnEntry (entry_of cursor.options.headers_only w) ∷ shown_behind w.revision acts cursor.filters cursor.options
    → (reach : ℕ) → reach ≡ min (w.revision - 1) (length (writes_of acts))
    → (floor : ℕ) → floor ≤ length (writes_of acts) → is_behind floor n base.config.history began acts cursor.filters cursor.options ≡ nat_lt reach floor
reach_some n began acts base now cursor w at some reach e floor l =
    let first = next_shown acts now at.place.now_stands cursor.filters cursor.options (max cursor.seen now.floor) _ _ some in
    let entry : AnEntry (entry_of cursor.options.headers_only w) ≡ AnEntry (entry_of cursor.options.headers_only first.0) = first.1 in
    let inside : entry_of cursor.options.headers_only w ≡ entry_of cursor.options.headers_only first.0 = cc in
    let number : w.revision ≡ first.0.revision = ap (λ (x : Entry). x.revision) inside in
    let positive : 0 < w.revision = omega (arith, number, first.4) in
    let within : w.revision ≤ length (writes_of acts) = omega (arith, number, first.2) in
    let less : reach + 1 ≡ w.revision = omega (arith, e, positive, within) in
    behind_some n began acts base now cursor floor w at some ∙ by_one w.revision reach floor less
  where
    by_one : (r k f : ℕ) → k + 1 ≡ r → nat_le r f ≡ nat_lt k f
    by_one r k f same = grind (arith, nat_tests)

-- ---- in reach

pub reach_opened : (acts : List Act) (base : Stored) (cursor : Following) → InPlace acts acts 0 base base cursor → cursor.seen ≡ length (writes_of acts) → InReach acts acts 0 base base cursor
reach_opened acts base cursor at e = record {
  place = at;
  ahead = behind_is 0 acts acts base base cursor base.floor at ∙ ap (λ ws. list_any (λ r. nat_le r base.floor) (item_revisions (all_shown cursor.options (matching cursor.filters ws)))) (behind_counted cursor.seen (writes_of acts) (counts acts base at.base_stands) ∙ drop_all cursor.seen (writes_of acts) (omega (arith, e)));
}

pub reach_further : (n more : ℕ) (began acts : List Act) (base now : Stored) (old new : Following) → InReach began acts n base now old → InPlace began acts more base now new → n ≤ more → new.filters ≡ old.filters → new.options ≡ old.options → InReach began acts more base now new
reach_further n more began acts base now old new at place l f o = record {
  place = place;
  ahead = ap (λ filters. is_behind now.floor more base.config.history began acts filters new.options) f
      ∙ ap (λ options. is_behind now.floor more base.config.history began acts old.filters options) o
      ∙ ahead_goes_on now.floor n more base.config.history began acts old.filters old.options l at.ahead;
}

pub reach_behind : (n k : ℕ) (began acts : List Act) (base now : Stored) (old : Following) (event : Event) → InReach began acts n base now old → InPlace began acts (n + k) base now (behind event old) → InReach began acts (n + k) base now (behind event old)
reach_behind n k began acts base now old events.Marker at place = reach_further n (n + k) began acts base now old (behind events.Marker old) at place (omega arith) refl refl
reach_behind n k began acts base now old (events.Entry revision) at place = by_owed old.owed place
  where
    by_owed : (owed : List ℕ) → InPlace began acts (n + k) base now (behind_entry revision owed old) → InReach began acts (n + k) base now (behind_entry revision owed old)
    by_owed [] there = reach_further n (n + k) began acts base now old (behind_entry revision [] old) at there (omega arith) refl refl
    by_owed (r ∷ rs) there = reach_further n (n + k) began acts base now old (behind_entry revision (r ∷ rs) old) at there (omega arith) refl refl

pub reach_settled : (n : ℕ) (began acts : List Act) (base now : Stored) (old : Following) (seen : ℕ) → InReach began acts n base now old
    → shown_behind seen acts old.filters old.options ≡ shown_behind old.seen acts old.filters old.options → old.seen ≤ seen → seen ≤ length (writes_of acts)
    → InReach began acts n base now (record old { seen = seen })
reach_settled n began acts base now old seen at same l m =
    let place : InPlace began acts n base now (record old { seen = seen }) = record {
      base_stands = at.place.base_stands;
      now_stands = at.place.now_stands;
      same_config = at.place.same_config;
      prefix = at.place.prefix;
      handed = at.place.handed;
      taken = at.place.taken;
      owed = at.place.owed;
      marker = at.place.marker;
      left = same ∙ at.place.left;
      begun = omega (arith, at.place.begun, l);
      seen = m;
      next = at.place.next;
    } in
    reach_further n n began acts base now old (record old { seen = seen }) at place (omega arith) refl refl

-- where all is handed out nothing is left to show
pub nothing_left : (n : ℕ) (began acts : List Act) (base now : Stored) (cursor : Following) → InReach began acts n base now cursor → n ≡ length (given_to base.config.history began acts cursor)
    → shown_behind (max cursor.seen now.floor) acts cursor.filters cursor.options ≡ []
nothing_left n began acts base now cursor at e =
    let initials = initial_to base.config.history began cursor in
    let lives = live_to began acts cursor in
    ahead_same n began acts base now cursor at
    ∙ at.place.left
    ∙ drop_all (live_count base.config.history began n cursor) lives (omega (arith, e, length-append initials (ending cursor.options.start ++ lives), length-append (ending cursor.options.start) lives))

pub in_reach_later : (n : ℕ) (began acts later : List Act) (base now newer : Stored) (cursor : Following) → InPlace began acts n base now cursor → StandsFor later newer → newer.config ≡ now.config → IsPrefix acts later
    → newer.floor ≤ length (writes_of acts) → is_behind newer.floor n base.config.history began acts cursor.filters cursor.options ≡ false → InReach began later n base newer cursor
in_reach_later n began acts later base now newer cursor at s same p low ahead =
    let filters = cursor.filters in
    let options = cursor.options in
    let h = base.config.history in
    let b = length (writes_of began) in
    let fewer = no_fewer_writes began acts at.prefix in
    let all = given h began acts filters options in
    let more = all_shown options (matching filters (writes_of p.0)) in
    let ws : writes_of later ≡ writes_of acts ++ writes_of p.0 = ap writes_of (sym p.1) ∙ writes_of-append acts p.0 in
    let counted : CountsFrom 1 (writes_of acts ++ writes_of p.0) = subst (CountsFrom 1) ws (counts later newer s) in
    let above : Rises (1 + length (writes_of acts)) _ (item_revisions more) = shown_rises options (λ w. any_matches filters w.key) (1 + length (writes_of acts)) (writes_of p.0) (CountsFrom-right 1 (writes_of acts) (writes_of p.0) counted) in
    let long : given h began later filters options ≡ all ++ more = ap (λ as'. given h began as' filters options) (sym p.1) ∙ given-append h began acts p.0 filters options fewer in
    let none : n - length all ≡ 0 = omega (arith, at.taken) in
    let split : drop n (given h began later filters options) ≡ drop n all ++ more = ap (drop n) long ∙ drop-append all more n ∙ ap (λ k. drop n all ++ drop k more) none in
    record {
      place = in_place_later n began acts later base now newer cursor at s same p;
      ahead = ap (has_live_below b newer.floor) split
          ∙ ap (list_any (is_live_below b newer.floor)) (filter_map-append revision_of (drop n all) more)
          ∙ list_any-append (is_live_below b newer.floor) (item_revisions (drop n all)) (item_revisions more)
          ∙ ap (λ t. t || list_any (is_live_below b newer.floor) (item_revisions more)) ahead
          ∙ rises_live b newer.floor (1 + length (writes_of acts)) _ (item_revisions more) (omega (arith, fewer)) above
          ∙ rises_above newer.floor (1 + length (writes_of acts)) _ (item_revisions more) (omega (arith, low)) above;
    }

pub in_reach_while : (n : ℕ) (began acts later : List Act) (base now newer : Stored) (cursor : Following) → InReach began acts n base now cursor → StandsFor later newer → newer.config ≡ now.config → IsPrefix acts later
    → newer.floor ≡ now.floor → InReach began later n base newer cursor
in_reach_while n began acts later base now newer cursor at s same p floor =
    in_reach_later n began acts later base now newer cursor at.place s same p
    (omega (arith, floor, at.place.now_stands.floor, floor_within now.config acts at.place.now_stands.lawful))
    (ap (λ f. is_behind f n base.config.history began acts cursor.filters cursor.options) floor ∙ at.ahead)
