-- What lawful acts leave stored is reachable: each field of it holds from the first act on.
use Rattle.std.proofs.Common.{◌≡◌, ℕ, ◌+◌, ◌-◌, ◌<◌, ◌≤◌, Bool, true, false, cond, ◌&&◌, ◌||◌, ◌==◌, not, List, [], ◌∷◌, ◌++◌, Option, None, Ok, Err, ⊎_elim, length, filter, refl, sym, subst, ap, ◌∙◌, arith, length-append}
use Rattle.std.specs.Prelude.{nat_lt, nat_le}
use Rattle.std.specs.List.{Contains, last_or, list_any}
use Rattle.std.specs.Option.{option_map_or}
use Rattle.std.specs.Str.{bytes_eq}
use Rattle.std.proofs.lemmas.Bool.{and_parts, leb-false, leb-true, ltb-false, or_parts}
use Rattle.std.proofs.lemmas.Bool.Decides.{nat_tests}
use Rattle.std.proofs.lemmas.List.{map-append}
use Rattle.std.proofs.lemmas.List.Elements.{Contains-append_cases, filter_agree}
use Rattle.kv_keys.specs.declared.error.KvError.TheVariants.{ValueTooLarge, Sealed, JournalFull}
use Rattle.kv_model.specs.Acceptance.{accept, is_full, next_write, objection, unless, IsAccepted, IsLawful}
use Rattle.kv_model.specs.Acts.{Act, Compact, Seal, Write, Wrote, floor_of, is_put, is_sealed, writes_of}
use Rattle.kv_model.specs.Compaction.{is_stored, stored_writes}
use Rattle.kv_model.specs.Configuration.{Configuration, IsLegal}
use Rattle.kv_model.specs.Requests.{Asked, delete, create, purge, put, update, value_of, write_for}
use Rattle.kv_model.specs.Retained.{is_cleared, is_kept, kept, retained, revisions, since_purge, writes_of_key}
use Rattle.kv_model.specs.further.OneByOne.{removes}
use Rattle.kv_model.proofs.Found.{kept_is_kept, last_write-kept}
use Rattle.kv_model.proofs.Keeping.{kept_ends, writes_of_key-cleared, writes_of_key-spared}
use Rattle.kv_model.proofs.Lasts.{last_or-last_n, last_or-since_purge}
use Rattle.kv_model.proofs.Members.{Contains-cases, Contains-filter, Contains-from_any, Contains-from_filter, Contains-map, Contains-none, filter-filter}
use Rattle.kv_model.proofs.Numbered.{accepted_is_next, counts_from_lawful, rises_counted, writes_of-compact, writes_of-seal, writes_of-wrote}
use Rattle.kv_model.proofs.Rising.{Rises, Rises-apart}
use Rattle.kv_model.proofs.Storing.{above_is_stored, floor_of-compact, floor_of-seal, floor_of-wrote, floor_within, good_floor, is_stored-compact, kept_is_stored, lawful_by, next_revision, stored-push}
use Rattle.kv_store.proofs.Standings.{history_some, lawful-push}
use Rattle.kv_journal.specs.Restored.{those_of}
use Rattle.kv_journal.specs.inside.Reachable.{IsReachable, IsWritable, RiseWithin, is_kept_among}
use Rattle.kv_journal.proofs.Among.{count_above, count_between, is_between}
use Rattle.kv_journal.proofs.FewWrites.{below_limit, not_full, not_so}
use Rattle.kv_journal.proofs.OneMoreAct.{Leaves, Stands, stands_compacted, stands_first, stands_wrote}
use Rattle.kv_journal.proofs.Restoring.{kept_of_stored}
use Rattle.kv_journal.proofs.RisingWrites.{counted_rise}

-- ---- what needs no induction

rise : (config : Configuration) (h : ℕ) (acts : List Act) → IsLawful config acts → RiseWithin 0 (length (writes_of acts)) (stored_writes h acts)
rise config h acts lawful =
    let e : 0 + length (writes_of acts) ≡ length (writes_of acts) = omega arith in
    subst (λ (n : ℕ). RiseWithin 0 n (stored_writes h acts)) e (counted_rise (is_stored h acts) 0 (writes_of acts) (counts_from_lawful config acts lawful))

-- each write above the floor is stored
all_above : (h : ℕ) (acts : List Act) (p : Write → Bool) → ((w : Write) → p w ≡ true → floor_of acts < w.revision) → filter p (stored_writes h acts) ≡ filter p (writes_of acts)
all_above h acts p above = filter-filter p (is_stored h acts) (writes_of acts) ∙ filter_agree (λ w. is_stored h acts w && p w) p (λ w. agree w (p w) refl) (writes_of acts)
  where
    agree : (w : Write) (b : Bool) → p w ≡ b → (is_stored h acts w && b) ≡ b
    agree w true t = ap (λ (c : Bool). c && true) (above_is_stored h acts w (above w t))
    agree w false t = elim (is_stored h acts w) as (λ c. (c && false) ≡ false) [ true ↦ refl | false ↦ refl ]

as_many_above : (config : Configuration) (h : ℕ) (acts : List Act) → IsLawful config acts → length (filter (λ w. nat_lt (floor_of acts) w.revision) (stored_writes h acts)) + floor_of acts ≡ length (writes_of acts)
as_many_above config h acts lawful =
    let all = all_above h acts (λ w. nat_lt (floor_of acts) w.revision) (λ w t. grind (arith, nat_tests, t)) in
    omega (arith, ap (λ (ws : List Write). length ws) all, count_above (floor_of acts) 1 (writes_of acts) (counts_from_lawful config acts lawful), floor_within config acts lawful)

all_between : (config : Configuration) (h : ℕ) (acts : List Act) → IsLawful config acts → (from to : ℕ) → floor_of acts < from → to ≤ 1 + length (writes_of acts) → length (filter (is_between from to) (stored_writes h acts)) ≡ to - from
all_between config h acts lawful from to above within =
    let all = all_above h acts (is_between from to) (λ w t. let l : from ≤ w.revision = leb-true from w.revision (and_parts (nat_le from w.revision) (nat_lt w.revision to) t).0 in omega (arith, l, above)) in
    omega (arith, ap (λ (ws : List Write). length ws) all, count_between from to 1 (writes_of acts) (counts_from_lawful config acts lawful) within, above)

-- what is kept is kept among the stored ones
same_kept : (config : Configuration) (h : ℕ) (acts : List Act) (w : Write) → IsLawful config acts → 0 < h → is_kept h acts w ≡ is_kept_among h (stored_writes h acts) w
same_kept config h acts w lawful some = ap (λ (ws : List Write). list_any (λ r. r == w.revision) (revisions ws)) (kept_of_stored config h w.key acts lawful some)

as_many_retained : (config : Configuration) (h : ℕ) (acts : List Act) → IsLawful config acts → 0 < h → length (filter (is_kept_among h (stored_writes h acts)) (stored_writes h acts)) ≡ length (retained h acts)
as_many_retained config h acts lawful some =
    ap (λ (ws : List Write). length ws)
    (filter_agree (is_kept_among h (stored_writes h acts)) (is_kept h acts) (λ w. sym (same_kept config h acts w lawful some)) (stored_writes h acts)
    ∙ filter-filter (is_kept h acts) (is_stored h acts) (writes_of acts)
    ∙ filter_agree (λ w. is_stored h acts w && is_kept h acts w) (is_kept h acts) (λ w. agree w (is_kept h acts w) refl) (writes_of acts))
  where
    agree : (w : Write) (b : Bool) → is_kept h acts w ≡ b → (is_stored h acts w && b) ≡ b
    agree w true t = ap (λ (c : Bool). c && true) (kept_is_stored config h acts w lawful t)
    agree w false t = elim (is_stored h acts w) as (λ c. (c && false) ≡ false) [ true ↦ refl | false ↦ refl ]

-- ---- some request has each write

marker_empty : (a : Asked) (n : ℕ) → is_put (write_for a n).op ≡ false → (write_for a n).value ≡ []
marker_empty (put key value) n e = absurd cc
marker_empty (create key value) n e = absurd cc
marker_empty (update key value last) n e = absurd cc
marker_empty (delete key last) n e = refl
marker_empty (purge key last) n e = refl

short_enough : (config : Configuration) (a : Asked) (acts : List Act) (w : Write) → accept config a acts ≡ Ok w → length (value_of a) ≤ config.value_limit
short_enough config a acts w h =
    let w₃ = unless (objection a acts) (next_write a acts) in
    let w₂ = cond (is_full config acts) (Err JournalFull) w₃ in
    let w₁ = cond (is_sealed acts) (Err Sealed) w₂ in
    ltb-false config.value_limit (length (value_of a)) (not_so (nat_lt config.value_limit (length (value_of a))) ValueTooLarge w₁ w h).0

accepted_is_writable : (config : Configuration) (before : List Act) (w : Write) → IsAccepted config before (Wrote w) → IsWritable config w
accepted_is_writable config before w h =
    subst (IsWritable config) (accepted_is_next config h.0 before w h.1.1)
    (record { is = h.1.0; short = short_enough config h.0 before w h.1.1; marker = marker_empty h.0 (length (writes_of before) + 1) })

all_writable : (config : Configuration) (acts : List Act) → IsLawful config acts → (w : Write) → Contains (writes_of acts) w → IsWritable config w
all_writable config acts lawful = lawful_by (λ (xs : List Act). (w : Write) → Contains (writes_of xs) w → IsWritable config w) config (λ w m. absurd (Contains-none w m)) step acts lawful
  where
    step : (before : List Act) (act : Act) → ((w : Write) → Contains (writes_of before) w → IsWritable config w) → IsAccepted config before act → (w : Write) → Contains (writes_of (before ++ act ∷ [])) w → IsWritable config w
    step before (Wrote v) so_far accepted w m =
        ⊎_elim
        (λ n. so_far w n)
        (λ n. ⊎_elim (λ e. subst (IsWritable config) e (accepted_is_writable config before v accepted)) (λ none. absurd (Contains-none w none)) (Contains-cases v [] w n))
        (Contains-append_cases (writes_of before) (v ∷ []) w (subst (λ (ws : List Write). Contains ws w) (writes_of-wrote before v) m))
    step before Seal so_far accepted w m = so_far w (subst (λ (ws : List Write). Contains ws w) (writes_of-seal before) m)
    step before (Compact floor) so_far accepted w m = so_far w (subst (λ (ws : List Write). Contains ws w) (writes_of-compact before floor) m)

-- ---- a compaction

module _ (config : Configuration) (acts : List Act) (floor : ℕ) (legal : IsLegal config) (lawful : IsLawful config acts) (accepted : IsAccepted config acts (Compact floor)) where
  abbrev h : ℕ
  h = config.history

  abbrev after : List Act
  after = acts ++ Compact floor ∷ []

  abbrev stays : Write → Bool
  stays w = not (removes floor h acts w)

  some : 0 < h
  some = history_some config legal

  lawful_after : IsLawful config after
  lawful_after = lawful-push config acts (Compact floor) lawful accepted

  left : stored_writes h after ≡ filter stays (stored_writes h acts)
  left = stored-push config h acts (Compact floor) lawful accepted

  -- of no key that has stored writes the last one was cleared
  spared_behind : (key : List ℕ) → is_cleared floor (those_of key (stored_writes h after)) ≡ false
  spared_behind key = ap (λ (o : Option Write). option_map_or (λ w. not (is_put w.op) && nat_le w.revision floor) o false) same ∙ by (is_cleared floor (writes_of_key key acts)) refl
    where
      same : last_or None (those_of key (stored_writes h after)) ≡ last_or None (writes_of_key key after)
      same =
          sym (last_or-last_n h (since_purge (those_of key (stored_writes h after))) some ∙ last_or-since_purge (those_of key (stored_writes h after)) None)
          ∙ ap (λ (ws : List Write). last_or None ws) (sym (kept_of_stored config h key after lawful_after some))
          ∙ sym (last_write-kept h key after some)

      by : (b : Bool) → is_cleared floor (writes_of_key key acts) ≡ b → is_cleared floor (writes_of_key key after) ≡ false
      by true t = ap (is_cleared floor) (writes_of_key-cleared key acts floor t)
      by false t = ap (is_cleared floor) (writes_of_key-spared key acts floor t) ∙ t

  -- a write at or below the floor that stays is kept
  kept_then : (w : Write) → Contains (stored_writes h after) w → w.revision ≤ floor → is_kept h after w ≡ true
  kept_then w m l =
      let stored : is_stored h after w ≡ true = (Contains-from_filter (is_stored h after) (writes_of after) w m).1 in
      let below : nat_lt floor w.revision ≡ false = grind (arith, nat_tests, l) in
      sym (is_stored-compact h acts floor w ∙ ap (λ (b : Bool). b || is_kept h after w) below) ∙ stored

  -- and so is each later write of its key
  later_kept : (m u : Write) → Contains (writes_of after) u → bytes_eq u.key m.key ≡ true → m.revision ≤ u.revision → is_kept h after m ≡ true → is_kept h after u ≡ true
  later_kept m u there same later k =
      let all = kept h m.key after in
      let end = kept_ends h m.key after in
      let of_key : Contains (filter (λ v. bytes_eq v.key m.key) (writes_of after)) u = Contains-filter (λ v. bytes_eq v.key m.key) (writes_of after) u there same in
      let rises : Rises 1 (1 + length (writes_of after)) (revisions end.0 ++ revisions all) =
      subst (Rises 1 (1 + length (writes_of after))) (ap revisions (sym end.1) ∙ map-append (λ (v : Write). v.revision) end.0 all)
      (rises_counted (λ v. bytes_eq v.key m.key) 1 (writes_of after) (counts_from_lawful config after lawful_after)) in
      ⊎_elim
      (λ front. absurd (omega (arith, later, Rises-apart 1 (1 + length (writes_of after)) (revisions end.0) (revisions all) u.revision m.revision rises (Contains-map (λ (v : Write). v.revision) end.0 u front) (Contains-from_any m.revision (revisions all) k))))
      (λ back. kept_is_kept h m.key after u back)
      (Contains-append_cases end.0 all u (subst (λ (ws : List Write). Contains ws u) (sym end.1) of_key))

  later_stays : (m u : Write) → Contains (stored_writes h after) m → m.revision ≤ floor → Contains (stored_writes h acts) u → bytes_eq u.key m.key ≡ true → m.revision ≤ u.revision → stays u ≡ true
  later_stays m u there low stored same later =
      let written : Contains (writes_of after) u = subst (λ (ws : List Write). Contains ws u) (sym (writes_of-compact acts floor)) (Contains-from_filter (is_stored h acts) (writes_of acts) u stored).0 in
      let k = later_kept m u written same later (kept_then m there low) in
      ap (λ (b : Bool). not (nat_le u.revision floor && not b)) k ∙ elim (nat_le u.revision floor) as (λ b. not (b && false) ≡ true) [ true ↦ refl | false ↦ refl ]

  leaves : Leaves config (stored_writes h acts) (length (writes_of acts)) (floor_of acts) floor stays
  leaves = record {
    low = (good_floor floor acts accepted).0;
    rise = rise config h acts lawful;
    spared = λ key. subst (λ (ws : List Write). is_cleared floor (those_of key ws) ≡ false) left (spared_behind key);
    keeps = λ w m l.
        let there : Contains (stored_writes h after) w = subst (λ (ws : List Write). Contains ws w) (sym left) m in
        let among : is_kept_among h (stored_writes h after) w ≡ true = sym (same_kept config h after w lawful_after some) ∙ kept_then w there l in
        subst (λ (ws : List Write). is_kept_among h ws w ≡ true) left among;
    later = λ m u there low stored same later. later_stays m u (subst (λ (ws : List Write). Contains ws m) (sym left) there) low stored same later;
    between = λ from to above within. all_between config h acts lawful from to above within;
  }

-- ---- act by act

abbrev StandsBehind : Configuration → List Act → Type 0
StandsBehind config acts = Stands config (stored_writes config.history acts) (length (writes_of acts)) (floor_of acts)

the_same : (config : Configuration) (ws vs : List Write) (last n floor to : ℕ) → vs ≡ ws → n ≡ last → to ≡ floor → Stands config ws last floor → Stands config vs n to
the_same config ws vs last n floor to a b c s =
    subst (λ (ws : List Write). Stands config ws n to) (sym a) (subst (λ (n : ℕ). Stands config ws n to) (sym b) (subst (λ (f : ℕ). Stands config ws last f) (sym c) s))

step : (config : Configuration) → IsLegal config → (acts : List Act) (act : Act) → IsLawful config acts → IsAccepted config acts act → StandsBehind config acts → StandsBehind config (acts ++ act ∷ [])
step config legal acts (Wrote w) lawful accepted s =
    let h = config.history in
    let parts = or_parts (nat_le config.write_limit (length (stored_writes h acts))) (nat_le config.revision_limit (length (writes_of acts))) (not_full config accepted.0 acts w accepted.1.1) in
    let space : length (stored_writes h acts) < config.write_limit = leb-false config.write_limit (length (stored_writes h acts)) parts.0 in
    the_same config (stored_writes h acts ++ w ∷ []) (stored_writes h (acts ++ Wrote w ∷ [])) (length (writes_of acts) + 1) (length (writes_of (acts ++ Wrote w ∷ []))) (floor_of acts) (floor_of (acts ++ Wrote w ∷ []))
    (stored-push config h acts (Wrote w) lawful accepted)
    (omega (arith, ap (λ (ws : List Write). length ws) (writes_of-wrote acts w), length-append (writes_of acts) (w ∷ [])))
    (floor_of-wrote acts w)
    (stands_wrote config (stored_writes h acts) (length (writes_of acts)) (floor_of acts) w s (floor_within config acts lawful) (next_revision config acts w accepted) space)
step config legal acts Seal lawful accepted s =
    let h = config.history in
    the_same config (stored_writes h acts) (stored_writes h (acts ++ Seal ∷ [])) (length (writes_of acts)) (length (writes_of (acts ++ Seal ∷ []))) (floor_of acts) (floor_of (acts ++ Seal ∷ []))
    (stored-push config h acts Seal lawful accepted)
    (ap (λ (ws : List Write). length ws) (writes_of-seal acts))
    (floor_of-seal acts)
    s
step config legal acts (Compact floor) lawful accepted s =
    let h = config.history in
    let stays : Write → Bool = λ w. not (removes floor h acts w) in
    the_same config (filter stays (stored_writes h acts)) (stored_writes h (acts ++ Compact floor ∷ [])) (length (writes_of acts)) (length (writes_of (acts ++ Compact floor ∷ []))) floor (floor_of (acts ++ Compact floor ∷ []))
    (stored-push config h acts (Compact floor) lawful accepted)
    (ap (λ (ws : List Write). length ws) (writes_of-compact acts floor))
    (floor_of-compact acts floor)
    (stands_compacted config (stored_writes h acts) (length (writes_of acts)) (floor_of acts) floor stays s (leaves config acts floor legal lawful accepted))

stands_behind : (config : Configuration) (acts : List Act) → IsLegal config → IsLawful config acts → StandsBehind config acts
stands_behind config acts legal lawful =
    (lawful_by (λ (xs : List Act). IsLawful config xs × StandsBehind config xs) config (tt, stands_first config) (λ before act both accepted. (lawful-push config before act both.0 accepted, step config legal before act both.0 accepted both.1)) acts lawful).1

-- what lawful acts leave stored is reachable
pub reachable_by : (config : Configuration) (acts : List Act) → IsLegal config → IsLawful config acts → IsReachable config (stored_writes config.history acts) (length (writes_of acts)) (length (retained config.history acts)) (floor_of acts)
reachable_by config acts legal lawful =
    let s = stands_behind config acts legal lawful in
    record {
      rise = rise config config.history acts lawful;
      limit = below_limit config acts lawful;
      writable = λ w m. all_writable config acts lawful w (Contains-from_filter (is_stored config.history acts) (writes_of acts) w m).0;
      above = as_many_above config config.history acts lawful;
      few = s.few;
      room = s.room;
      retained = as_many_retained config config.history acts lawful (history_some config legal);
      time = s.time;
      by = s.by;
      compacted = s.compacted;
    }
