-- The next item of a cursor in place, and the cursor behind it.
use Rattle.std.proofs.Common.{◌≡◌, ℕ, suc, zero, ◌+◌, ◌-◌, ◌<◌, ◌≤◌, Bool, true, false, cond, ◌&&◌, not, nat_lt, List, [], ◌∷◌, ◌++◌, Option, Some, None, unwrap_or, Result, Ok, Err, ◌||◌, length, take, drop, filter, reverse, refl, sym, ap, ◌∙◌, subst, arith, length-append, length-drop, append_assoc, append-nil, add-one}
use Rattle.std.specs.Prelude.{nat_le}
use Rattle.std.specs.List.{Contains, slice_get, cons_option, last_or}
use Rattle.std.specs.Option.{option_len, option_map}
use Rattle.std.specs.Prelude.{is_some}
use Rattle.std.proofs.lemmas.Bool.{and_parts, leb-true, leb-false}
use Rattle.std.proofs.lemmas.List.{drop_all, reverse-append}
use Rattle.std.proofs.lemmas.List.Elements.{filter_map-append}
use Rattle.std.proofs.lemmas.Option.{slice_get_within}
use Rattle.kv_keys.specs.Matching.{any_matches}
use Rattle.kv_keys.specs.declared.error.KvError.TheVariants.{ValueTooLarge, Sealed, JournalFull}
use Rattle.kv_model.specs.Requests.{Asked, value_of}
use Rattle.kv_model.specs.Acceptance.{IsLawful, LawfulFrom, accept, is_full, objection, next_write, unless}
use Rattle.kv_model.specs.Acts.{Act, Wrote, Seal, Compact, Write, IsPrefix, writes_of, is_put, is_sealed}
use Rattle.kv_model.specs.Compaction.{stored_writes}
use Rattle.kv_model.specs.Configuration.{Configuration, IsLegal}
use Rattle.kv_model.specs.Reads.{write_at_of}
use Rattle.kv_store.specs.Standing.{StandsFor}
use Rattle.kv_store.specs.Stored.{Stored, write_at}
use Rattle.kv_model.proofs.Members.{Contains-here, Contains-there, Contains-from_filter}
use Rattle.kv_model.proofs.Found.{write_at_kept}
use Rattle.kv_model.proofs.Numbered.{CountsFrom, counts_from_lawful, writes_of-wrote, writes_of-seal, writes_of-compact}
use Rattle.kv_store.proofs.Reading.{history_some}
use Rattle.kv_store.proofs.Selecting.{initial_is_kept}
use Rattle.kv_model.specs.declared.event.Event.{Event}
use Rattle.kv_model.specs.declared.options.Options.{Options}
use Rattle.kv_model.specs.declared.options.Start.{Start}
use Rattle.kv_model.specs.declared.options.Start.TheVariants.{Latest, History, Updates, From}
use Rattle.kv_watch.specs.Following.{Following, InPlace, marker_if, shown_behind, one_more, behind}
use Rattle.kv_model.specs.Given.{Item, AnEntry, EndMarker, Entry, entry_of, matching, all_shown, initial, ending, item_revisions, revision_of}
use Rattle.kv_model.specs.declared.event.Event.TheVariants as events
use Rattle.kv_model.specs.further.Events.{event_of}
use Rattle.kv_model.specs.further.Showing.{is_shown}
use Rattle.kv_watch.specs.Taking.{entry_item}
use Rattle.kv_model.proofs.GivenLaws.{matching_initial, no_fewer_writes}
use Rattle.kv_watch.proofs.Lists.{drop-append, head_of_drop, get_from_drop, rest_from_drop, take_push, last_or-push, last_front, no_last}
use Rattle.kv_watch.proofs.Walks.{counts, drop_past, live_end, shown_front, hidden_front, behind_counted}

-- ---- items that are entries of stored writes

-- each item is the entry of a write of the acts, which is found by its revision
abbrev pub AllFrom : ℕ → List Act → Bool → List Item → Type 0
AllFrom h acts headers_only [] = Unit {0}
AllFrom h acts headers_only (x ∷ xs) = ((w : Write) × (write_at_of h w.revision acts ≡ Some w) × (x ≡ AnEntry (entry_of headers_only w))) × AllFrom h acts headers_only xs

AllFrom-drop : (h : ℕ) (acts : List Act) (headers_only : Bool) (xs : List Item) (n : ℕ) → AllFrom h acts headers_only xs → AllFrom h acts headers_only (drop n xs)
AllFrom-drop h acts headers_only [] n all = let e : [] ≡ drop {A = Item} n [] = sym (drop_all n [] (omega arith)) in subst (AllFrom h acts headers_only) e tt
AllFrom-drop h acts headers_only (x ∷ xs) zero all = all
AllFrom-drop h acts headers_only (x ∷ xs) (suc n) all = AllFrom-drop h acts headers_only xs n all.1

-- an initial write is kept, so it is found by its revision
initial_found : (config : Configuration) (began : List Act) (start : Start) → IsLegal config → IsLawful config began → (w : Write) → Contains (initial config.history start began) w → write_at_of config.history w.revision began ≡ Some w
initial_found config began start legal lawful w m =
    write_at_kept config config.history w.key began w lawful (initial_is_kept config.history began (counts_from_lawful config began lawful) (history_some config legal) start w m)

all_from : (h : ℕ) (acts : List Act) (options : Options) (vs : List Write) → ((w : Write) → Contains vs w → write_at_of h w.revision acts ≡ Some w) → AllFrom h acts options.headers_only (all_shown options vs)
all_from h acts options [] found = tt
all_from h acts options (w ∷ vs) found =
    let rest = all_from h acts options vs (λ v m. found v (Contains-there w vs v m)) in
    elim (options.ignore_deletes && not (is_put w.op)) as (λ b. AllFrom h acts options.headers_only (cons_option (cond b None (Some (AnEntry (entry_of options.headers_only w)))) (all_shown options vs))) [
      | true ↦ rest
      | false ↦ ((w, found w (Contains-here w vs), refl), rest)
    ]

pub initial_from : (config : Configuration) (began : List Act) (filters : List (List ℕ)) (options : Options) → IsLegal config → IsLawful config began
    → AllFrom config.history began options.headers_only (all_shown options (matching filters (initial config.history options.start began)))
initial_from config began filters options legal lawful =
    let ws = initial config.history options.start began in
    all_from config.history began options (matching filters ws) (λ w m. initial_found config began options.start legal lawful w (Contains-from_filter (λ v. any_matches filters v.key) ws w m).0)

-- the first of such items, by its revision
pub first_owed : (h : ℕ) (acts : List Act) (headers_only : Bool) (xs : List Item) (r : ℕ) (rs : List ℕ) → AllFrom h acts headers_only xs → r ∷ rs ≡ item_revisions xs
    → (w : Write) × (rest : List Item) × (write_at_of h r acts ≡ Some w) × (xs ≡ AnEntry (entry_of headers_only w) ∷ rest) × (rs ≡ item_revisions rest)
first_owed h acts headers_only [] r rs all e = cc
first_owed h acts headers_only (x ∷ xs) r rs all e =
    let w = all.0.0 in
    let parts : r ∷ rs ≡ w.revision ∷ item_revisions xs = e ∙ ap (λ y. item_revisions (y ∷ xs)) all.0.2 in
    let number : r ≡ w.revision = cc in
    let others : rs ≡ item_revisions xs = cc in
    (w, xs, ap (λ n. write_at_of h n acts) number ∙ all.0.1, ap (λ y. y ∷ xs) all.0.2, others)

none_owed : (h : ℕ) (acts : List Act) (headers_only : Bool) (xs : List Item) → AllFrom h acts headers_only xs → [] ≡ item_revisions xs → xs ≡ []
none_owed h acts headers_only [] all e = refl
none_owed h acts headers_only (x ∷ xs) all e =
    let parts : [] ≡ all.0.0.revision ∷ item_revisions xs = e ∙ ap (λ y. item_revisions (y ∷ xs)) all.0.2 in cc

-- ---- numbers are small

cond_ok : {X E : Type 0} (b : Bool) (e : E) (r : Result X E) (x : X) → cond b (Err e) r ≡ Ok x → (b ≡ false) × (r ≡ Ok x)
cond_ok true e r x h = cc
cond_ok false e r x h = (refl, h)

-- where a write is accepted there are fewer than there may be revisions
room : (config : Configuration) (asked : Asked) (acts : List Act) (w : Write) → accept config asked acts ≡ Ok w → length (writes_of acts) < config.revision_limit
room config asked acts w h =
    let r₃ = unless (objection asked acts) (next_write asked acts) in
    let r₂ = cond (is_full config acts) (Err JournalFull) r₃ in
    let r₁ = cond (is_sealed acts) (Err Sealed) r₂ in
    let first = cond_ok (nat_lt config.value_limit (length (value_of asked))) ValueTooLarge r₁ w h in
    let second = cond_ok (is_sealed acts) Sealed r₂ w first.1 in
    let third = cond_ok (is_full config acts) JournalFull r₃ w second.1 in
    by_test (nat_le config.write_limit (length (stored_writes config.history acts))) third.0
  where
    by_test : (b : Bool) → (b || nat_le config.revision_limit (length (writes_of acts))) ≡ false → length (writes_of acts) < config.revision_limit
    by_test true t = cc
    by_test false t = leb-false config.revision_limit (length (writes_of acts)) t

bounded_from : (config : Configuration) (before acts : List Act) → LawfulFrom config before acts → length (writes_of before) ≤ config.revision_limit → length (writes_of (before ++ acts)) ≤ config.revision_limit
bounded_from config before [] h l = rw (append-nil before) l
bounded_from config before (Wrote w ∷ acts) h l =
    let space = room config h.0.0 before w h.0.1.1 in
    let more : length (writes_of (before ++ Wrote w ∷ [])) ≤ config.revision_limit = omega (arith, space, ap length (writes_of-wrote before w), length-append (writes_of before) (w ∷ [])) in
    subst (λ as'. length (writes_of as') ≤ config.revision_limit) (append_assoc before (Wrote w ∷ []) acts) (bounded_from config (before ++ Wrote w ∷ []) acts h.1 more)
bounded_from config before (Seal ∷ acts) h l =
    let more : length (writes_of (before ++ Seal ∷ [])) ≤ config.revision_limit = omega (arith, ap length (writes_of-seal before)) in
    subst (λ as'. length (writes_of as') ≤ config.revision_limit) (append_assoc before (Seal ∷ []) acts) (bounded_from config (before ++ Seal ∷ []) acts h.1 more)
bounded_from config before (Compact floor ∷ acts) h l =
    let more : length (writes_of (before ++ Compact floor ∷ [])) ≤ config.revision_limit = omega (arith, ap length (writes_of-compact before floor)) in
    subst (λ as'. length (writes_of as') ≤ config.revision_limit) (append_assoc before (Compact floor ∷ []) acts) (bounded_from config (before ++ Compact floor ∷ []) acts h.1 more)

-- acts that a version stands for have less than 2^32 writes
pub few_writes : (acts : List Act) (version : Stored) → StandsFor acts version → length (writes_of acts) ≤ 4294967295
few_writes acts version s =
    let config = version.config in
    let numbers = s.legal.1 in
    let history = nat_le 1 config.history && nat_le config.history 64 in
    let stored = nat_le 1 config.write_limit && nat_le config.write_limit 1000000 in
    let given = nat_le 1 config.revision_limit && nat_le config.revision_limit 4294967295 in
    let last : given ≡ true = (and_parts (history && nat_le config.value_limit 1048576 && stored) given numbers).1 in
    let upper : config.revision_limit ≤ 4294967295 = leb-true config.revision_limit 4294967295 (and_parts (nat_le 1 config.revision_limit) (nat_le config.revision_limit 4294967295) last).1 in
    let bounded : length (writes_of acts) ≤ config.revision_limit = bounded_from config [] acts s.lawful (omega arith) in
    omega (arith, upper, bounded)

shown_few : (options : Options) (p : Write → Bool) (ws : List Write) → length (all_shown options (filter p ws)) ≤ length ws
shown_few options p [] = omega arith
shown_few options p (w ∷ ws) = by_pass (p w) (shown_few options p ws)
  where
    by_hide : (b : Bool) → length (all_shown options (filter p ws)) ≤ length ws → length (cons_option (cond b None (Some (AnEntry (entry_of options.headers_only w)))) (all_shown options (filter p ws))) ≤ suc (length ws)
    by_hide true l = omega arith
    by_hide false l = omega arith

    by_pass : (b : Bool) → length (all_shown options (filter p ws)) ≤ length ws → length (all_shown options (cond b (w ∷ filter p ws) (filter p ws))) ≤ suc (length ws)
    by_pass true l = by_hide (options.ignore_deletes && not (is_put w.op)) l
    by_pass false l = omega arith

ending_few : (start : Start) → length (ending start) ≤ 1
ending_few Latest = omega arith
ending_few History = omega arith
ending_few Updates = omega arith
ending_few (From revision) = omega arith

-- ---- the first item that is left of the live ones

pub CountsFrom-drop : (m n : ℕ) (ws : List Write) → CountsFrom n ws → CountsFrom (n + m) (drop m ws)
CountsFrom-drop m n [] h = let e : [] ≡ drop {A = Write} m [] = sym (drop_all m [] (omega arith)) in subst (CountsFrom (n + m)) e tt
CountsFrom-drop zero n (w ∷ ws) h = let e : n + 0 ≡ n = omega arith in rw e h
CountsFrom-drop (suc m) n (w ∷ ws) h = let e : n + suc m ≡ suc n + m = omega arith in rw e (CountsFrom-drop m (suc n) ws h.1)

step_from : (options : Options) (filters : List (List ℕ)) (ws : List Write) (m : ℕ) (vs : List Write) (x : Item) (rest : List Item)
    → drop m ws ≡ vs → CountsFrom (suc m) vs → all_shown options (matching filters vs) ≡ x ∷ rest
    → (w : Write) × (x ≡ AnEntry (entry_of options.headers_only w)) × (w.revision ≤ length ws) × (all_shown options (matching filters (drop w.revision ws)) ≡ rest) × (m < w.revision)
step_from options filters ws m [] x rest d h e = cc
step_from options filters ws m (v ∷ vs) x rest d h e = by_test (is_shown filters options v) refl (λ s. let found = step_from options filters ws (m + 1) vs x rest (rest_from_drop ws m v vs d) (subst (λ n. CountsFrom n vs) (omega arith) h.1) s in (found.0, found.1, found.2, found.3, omega (arith, found.4)))
  where
    by_test : (b : Bool) → is_shown filters options v ≡ b
        → (all_shown options (matching filters vs) ≡ x ∷ rest → (w : Write) × (x ≡ AnEntry (entry_of options.headers_only w)) × (w.revision ≤ length ws) × (all_shown options (matching filters (drop w.revision ws)) ≡ rest) × (m < w.revision))
        → (w : Write) × (x ≡ AnEntry (entry_of options.headers_only w)) × (w.revision ≤ length ws) × (all_shown options (matching filters (drop w.revision ws)) ≡ rest) × (m < w.revision)
    by_test true t later =
        let both : AnEntry (entry_of options.headers_only v) ∷ all_shown options (matching filters vs) ≡ x ∷ rest = sym (shown_front options filters v vs t) ∙ e in
        let first : x ≡ AnEntry (entry_of options.headers_only v) = cc in
        let others : all_shown options (matching filters vs) ≡ rest = cc in
        let number : v.revision ≡ m + 1 = omega (arith, h.0) in
        let long : m + 1 ≤ length ws = omega (arith, ap length d, length-drop m ws) in
        (v, first, omega (arith, number, long), ap (λ us. all_shown options (matching filters us)) (ap (λ n. drop n ws) number ∙ rest_from_drop ws m v vs d) ∙ others, omega (arith, number))
    by_test false t later = later (sym (hidden_front options filters v vs t) ∙ e)

-- the first item behind a revision is the entry of a write, and behind that write's revision is the rest
pub next_shown : (acts : List Act) (version : Stored) → StandsFor acts version → (filters : List (List ℕ)) (options : Options) (seen : ℕ) (x : Item) (rest : List Item)
    → shown_behind seen acts filters options ≡ x ∷ rest
    → (w : Write) × (x ≡ AnEntry (entry_of options.headers_only w)) × (w.revision ≤ length (writes_of acts)) × (shown_behind w.revision acts filters options ≡ rest) × (seen < w.revision)
next_shown acts version s filters options seen x rest e =
    let ws = writes_of acts in
    let counted = counts acts version s in
    let from : (k : ℕ) → shown_behind k acts filters options ≡ all_shown options (matching filters (drop k ws)) = λ k. ap (λ vs. all_shown options (matching filters vs)) (behind_counted k ws counted) in
    let found = step_from options filters ws seen (drop seen ws) x rest refl (subst (λ n. CountsFrom n (drop seen ws)) (omega arith) (CountsFrom-drop seen 1 ws counted)) (sym (from seen) ∙ e) in
    (found.0, found.1, found.2, from found.0.revision ∙ found.3, found.4)

-- ---- a cursor in place

module _ (began acts : List Act) (base now : Stored) (filters : List (List ℕ)) (options : Options) where
  abbrev initials : List Item
  initials = all_shown options (matching filters (initial base.config.history options.start began))

  abbrev lives : List Item
  lives = all_shown options (matching filters (drop (length (writes_of began)) (writes_of acts)))

  abbrev all_given : List Item
  all_given = initials ++ (ending options.start ++ lives)

  -- in place with these parts
  abbrev At : ℕ → List ℕ → Bool → ℕ → ℕ → ℕ → Type 0
  At n owed marker seen next handed = InPlace began acts n base now (record { filters = filters; options = options; owed = owed; marker = marker; seen = seen; next = next; handed = handed })

  entries : StandsFor began base → (n : ℕ) → AllFrom base.config.history began options.headers_only (drop n initials)
  entries s n = AllFrom-drop base.config.history began options.headers_only initials n (initial_from base.config began filters options s.legal s.lawful)

  -- what is left is what is left of the three parts
  pub whole : (n : ℕ) (owed : List ℕ) (marker : Bool) (seen next handed : ℕ) → At n owed marker seen next handed
      → drop n all_given ≡ drop n initials ++ (marker_if marker ++ shown_behind seen acts filters options)
  whole n owed marker seen next handed at =
      drop-append initials (ending options.start ++ lives) n
      ∙ ap (λ xs. drop n initials ++ xs) (drop-append (ending options.start) lives (n - length initials) ∙ ap (λ xs. xs ++ drop (n - length initials - length (ending options.start)) lives) (sym at.marker) ∙ ap (λ xs. marker_if marker ++ xs) (sym at.left))

  -- the next item is the entry of the first owed write
  pub next_owed : (n r : ℕ) (rs : List ℕ) (marker : Bool) (seen next handed : ℕ) → At n (r ∷ rs) marker seen next handed
      → (w : Write) × (write_at_of base.config.history r began ≡ Some w) × (slice_get all_given n ≡ Some (AnEntry (entry_of options.headers_only w)))
  next_owed n r rs marker seen next handed at =
      let first = first_owed base.config.history began options.headers_only (drop n initials) r rs (entries at.base_stands n) at.owed in
      let left = whole n (r ∷ rs) marker seen next handed at ∙ ap (λ xs. xs ++ (marker_if marker ++ shown_behind seen acts filters options)) first.3 in
      (first.0, first.2, get_from_drop all_given n _ _ left)

  none_left : (n : ℕ) (marker : Bool) (seen next handed : ℕ) → At n [] marker seen next handed → drop n initials ≡ []
  none_left n marker seen next handed at = none_owed base.config.history began options.headers_only (drop n initials) (entries at.base_stands n) at.owed

  left_live : (n : ℕ) (marker : Bool) (seen next handed : ℕ) → At n [] marker seen next handed → drop n all_given ≡ marker_if marker ++ shown_behind seen acts filters options
  left_live n marker seen next handed at =
      whole n [] marker seen next handed at ∙ ap (λ xs. xs ++ (marker_if marker ++ shown_behind seen acts filters options)) (none_left n marker seen next handed at)

  pub next_marker : (n seen next handed : ℕ) → At n [] true seen next handed → slice_get all_given n ≡ Some EndMarker
  next_marker n seen next handed at = get_from_drop all_given n _ _ (left_live n true seen next handed at)

  pub next_live_item : (n seen next handed : ℕ) → At n [] false seen next handed → slice_get all_given n ≡ slice_get (shown_behind seen acts filters options) 0
  next_live_item n seen next handed at = head_of_drop all_given n ∙ ap (λ xs. slice_get xs 0) (left_live n false seen next handed at)

  -- ---- the same by the list that ends with the next owed revision

  pub peek_owed : (n r : ℕ) (items : List ℕ) (marker : Bool) (seen next handed : ℕ) → At n (reverse items) marker seen next handed → slice_get items (length items - 1) ≡ Some r
      → entry_item options.headers_only (write_at r base) ≡ slice_get all_given n
  peek_owed n r items marker seen next handed at e =
      let front = last_front items r e in
      let at' = subst (λ owed. At n owed marker seen next handed) (ap reverse front.1 ∙ reverse-append front.0 (r ∷ [])) at in
      let found = next_owed n r (reverse front.0) marker seen next handed at' in
      ap (entry_item options.headers_only) (at.base_stands.written r ∙ found.1) ∙ sym found.2

  -- where any write is owed there is a next item
  pub some_owed : (n r : ℕ) (items : List ℕ) (marker : Bool) (seen next handed : ℕ) → At n (reverse items) marker seen next handed → slice_get items (length items - 1) ≡ Some r
      → is_some (slice_get all_given n) ≡ true
  some_owed n r items marker seen next handed at e =
      let front = last_front items r e in
      let at' = subst (λ owed. At n owed marker seen next handed) (ap reverse front.1 ∙ reverse-append front.0 (r ∷ [])) at in
      ap is_some (next_owed n r (reverse front.0) marker seen next handed at').2

  pub peek_marker : (n : ℕ) (items : List ℕ) (marker : Bool) (seen next handed : ℕ) → At n (reverse items) marker seen next handed → slice_get items (length items - 1) ≡ None → marker ≡ true
      → slice_get all_given n ≡ Some EndMarker
  peek_marker n items marker seen next handed at e t =
      next_marker n seen next handed (subst (λ b. At n [] b seen next handed) t (subst (λ owed. At n owed marker seen next handed) (ap reverse (no_last items e)) at))

  pub peek_live : (n : ℕ) (items : List ℕ) (marker : Bool) (seen next handed : ℕ) → At n (reverse items) marker seen next handed → slice_get items (length items - 1) ≡ None → marker ≡ false
      → slice_get all_given n ≡ slice_get (shown_behind seen acts filters options) 0
  peek_live n items marker seen next handed at e t =
      next_live_item n seen next handed (subst (λ b. At n [] b seen next handed) t (subst (λ owed. At n owed marker seen next handed) (ap reverse (no_last items e)) at))

  -- the event of the next item is that of the first owed revision
  pub owed_event : (n r : ℕ) (items : List ℕ) (marker : Bool) (seen next handed : ℕ) → At n (reverse items) marker seen next handed → slice_get items (length items - 1) ≡ Some r
      → Some (events.Entry r) ≡ option_map event_of (slice_get all_given n)
  owed_event n r items marker seen next handed at e =
      let front = last_front items r e in
      let at' = subst (λ owed. At n owed marker seen next handed) (ap reverse front.1 ∙ reverse-append front.0 (r ∷ [])) at in
      let first = first_owed base.config.history began options.headers_only (drop n initials) r (reverse front.0) (entries at.base_stands n) at'.owed in
      let left = whole n (r ∷ reverse front.0) marker seen next handed at' ∙ ap (λ xs. xs ++ (marker_if marker ++ shown_behind seen acts filters options)) first.3 in
      let heads : r ∷ reverse front.0 ≡ first.0.revision ∷ item_revisions first.1 = at'.owed ∙ ap item_revisions first.3 in
      let number : r ≡ first.0.revision = cc in
      ap (λ m. Some (events.Entry m)) number ∙ sym (ap (option_map event_of) (get_from_drop all_given n _ _ left))

  -- ---- one item on

  all_few : StandsFor began base → StandsFor acts now → IsPrefix began acts → length all_given ≤ 8589934591
  all_few bs ns p =
      let i : length initials ≤ length (writes_of began) = subst (λ ws. length (all_shown options ws) ≤ length (writes_of began)) (sym (matching_initial base.config.history options.start began filters)) (shown_few options _ (writes_of began)) in
      let l = shown_few options (λ w. any_matches filters w.key) (drop (length (writes_of began)) (writes_of acts)) in
      omega (
        arith,
        i,
        l,
        ending_few options.start,
        few_writes began base bs,
        few_writes acts now ns,
        length-drop (length (writes_of began)) (writes_of acts),
        length-append initials (ending options.start ++ lives),
        length-append (ending options.start) lives,
      )

  one_within : (n : ℕ) → n ≤ 8589934591 → one_more n ≡ n + 1
  one_within n l = omega arith

  length_there : (n : ℕ) (x : Item) → slice_get all_given n ≡ Some x → n + 1 ≤ length all_given
  length_there n x h = omega (arith, slice_get_within all_given n x h)

  behind_owed : (n r : ℕ) (rs : List ℕ) (marker : Bool) (seen next handed : ℕ) → At n (r ∷ rs) marker seen next handed → At (n + 1) rs marker seen next (one_more handed)
  behind_owed n r rs marker seen next handed at =
      let first = first_owed base.config.history began options.headers_only (drop n initials) r rs (entries at.base_stands n) at.owed in
      let there = next_owed n r rs marker seen next handed at in
      let few = all_few at.base_stands at.now_stands at.prefix in
      let long = length_there n _ there.2 in
      let inside : n + 1 ≤ length initials = omega (arith, ap length first.3, length-drop n initials) in
      let zero₁ : n + 1 - length initials ≡ n - length initials = omega (arith, inside) in
      let zero₂ : n + 1 - length initials - length (ending options.start) ≡ n - length initials - length (ending options.start) = omega (arith, inside) in
      record {
        base_stands = at.base_stands;
        now_stands = at.now_stands;
        same_config = at.same_config;
        prefix = at.prefix;
        handed = ap one_more at.handed ∙ one_within n (omega (arith, few, long));
        taken = long;
        owed = first.4 ∙ ap item_revisions (sym (rest_from_drop initials n _ _ first.3));
        marker = at.marker ∙ ap (λ k. drop k (ending options.start)) (sym zero₁);
        left = at.left ∙ ap (λ k. drop k lives) (sym zero₂);
        begun = at.begun;
        seen = at.seen;
        next = at.next ∙ ap (λ k. suc (unwrap_or (last_or None (item_revisions (take k lives))) (length (writes_of began)))) (sym zero₂);
      }

  behind_marker : (n seen next handed : ℕ) → At n [] true seen next handed → At (n + 1) [] false seen next (one_more handed)
  behind_marker n seen next handed at =
      let there = next_marker n seen next handed at in
      let few = all_few at.base_stands at.now_stands at.prefix in
      let long = length_there n _ there in
      let past : length initials ≤ n = omega (arith, ap length (none_left n true seen next handed at), length-drop n initials) in
      let more : n + 1 - length initials ≡ n - length initials + 1 = omega (arith, past) in
      let here : n - length initials + 1 ≤ length (ending options.start) = omega (arith, ap length at.marker, length-drop (n - length initials) (ending options.start)) in
      let zero₂ : n + 1 - length initials - length (ending options.start) ≡ n - length initials - length (ending options.start) = omega (arith, here, more) in
      record {
        base_stands = at.base_stands;
        now_stands = at.now_stands;
        same_config = at.same_config;
        prefix = at.prefix;
        handed = ap one_more at.handed ∙ one_within n (omega (arith, few, long));
        taken = long;
        owed = ap item_revisions (sym (drop_all (n + 1) initials (omega (arith, past))));
        marker = sym (ap (λ k. drop k (ending options.start)) more ∙ rest_from_drop (ending options.start) (n - length initials) EndMarker [] (sym at.marker));
        left = at.left ∙ ap (λ k. drop k lives) (sym zero₂);
        begun = at.begun;
        seen = at.seen;
        next = at.next ∙ ap (λ k. suc (unwrap_or (last_or None (item_revisions (take k lives))) (length (writes_of began)))) (sym zero₂);
      }

  behind_live : (n seen next handed : ℕ) (e : Entry) (rest : List Item) → At n [] false seen next handed → shown_behind seen acts filters options ≡ AnEntry e ∷ rest → At (n + 1) [] false e.revision (one_more e.revision) (one_more handed)
  behind_live n seen next handed e rest at shown =
      let there : slice_get all_given n ≡ Some (AnEntry e) = next_live_item n seen next handed at ∙ ap (λ xs. slice_get xs 0) shown in
      let few = all_few at.base_stands at.now_stands at.prefix in
      let long = length_there n _ there in
      let found = next_shown acts now at.now_stands filters options seen (AnEntry e) rest shown in
      let same : AnEntry e ≡ AnEntry (entry_of options.headers_only found.0) = found.1 in
      let entry : e ≡ entry_of options.headers_only found.0 = cc in
      let number : e.revision ≡ found.0.revision = ap (λ (x : Entry). x.revision) entry in
      let m = n - length initials - length (ending options.start) in
      let past : length initials ≤ n = omega (arith, ap length (none_left n false seen next handed at), length-drop n initials) in
      let past' : length (ending options.start) ≤ n - length initials = omega (arith, ap length at.marker, length-drop (n - length initials) (ending options.start)) in
      let more : n + 1 - length initials - length (ending options.start) ≡ m + 1 = omega (arith, past, past') in
      let here : drop m lives ≡ AnEntry e ∷ rest = sym at.left ∙ shown in
      let pushed : take (m + 1) lives ≡ take m lives ++ AnEntry e ∷ [] = take_push lives m (AnEntry e) (get_from_drop lives m (AnEntry e) rest here) in
      let last : last_or None (item_revisions (take (m + 1) lives)) ≡ Some e.revision = ap (λ xs. last_or None (item_revisions xs)) pushed ∙ ap (last_or None) (filter_map-append revision_of (take m lives) (AnEntry e ∷ [])) ∙ last_or-push None (item_revisions (take m lives)) e.revision in
      let low : e.revision ≤ length (writes_of acts) = omega (arith, number, found.2) in
      record {
        base_stands = at.base_stands;
        now_stands = at.now_stands;
        same_config = at.same_config;
        prefix = at.prefix;
        handed = ap one_more at.handed ∙ one_within n (omega (arith, few, long));
        taken = long;
        owed = ap item_revisions (sym (drop_all (n + 1) initials (omega (arith, past))));
        marker = sym (drop_all (n + 1 - length initials) (ending options.start) (omega (arith, past, past')));
        left = ap (λ r. shown_behind r acts filters options) number ∙ found.3 ∙ sym (ap (λ k. drop k lives) more ∙ rest_from_drop lives m (AnEntry e) rest here);
        begun = omega (arith, at.begun, number, found.4);
        seen = low;
        next = one_within e.revision (omega (arith, low, few_writes acts now at.now_stands)) ∙ add-one e.revision ∙ sym (ap suc (ap (λ o. unwrap_or o (length (writes_of began))) (ap (λ k. last_or None (item_revisions (take k lives))) more ∙ last)));
      }

  -- the cursor behind an item, if there was one
  abbrev moved : Option Item → Following → Following
  moved None cursor = cursor
  moved (Some x) cursor = behind (event_of x) cursor

  -- behind its next item a cursor is in place again
  passed : (n : ℕ) (owed : List ℕ) (marker : Bool) (seen next handed : ℕ) (item : Option Item) → At n owed marker seen next handed → item ≡ slice_get all_given n
      → InPlace began acts (n + option_len item) base now (moved item (record { filters = filters; options = options; owed = owed; marker = marker; seen = seen; next = next; handed = handed }))
  passed n owed marker seen next handed None at e = let same : n + 0 ≡ n = omega arith in rw same at
  passed n (r ∷ rs) marker seen next handed (Some (AnEntry entry)) at e = behind_owed n r rs marker seen next handed at
  passed n (r ∷ rs) marker seen next handed (Some EndMarker) at e = let there = (next_owed n r rs marker seen next handed at).2 in cc
  passed n [] true seen next handed (Some EndMarker) at e = behind_marker n seen next handed at
  passed n [] true seen next handed (Some (AnEntry entry)) at e = let there = next_marker n seen next handed at in cc
  passed n [] false seen next handed (Some item) at e = live_case item (shown_behind seen acts filters options) refl (e ∙ next_live_item n seen next handed at)
    where
      live_case : (x : Item) (xs : List Item) → shown_behind seen acts filters options ≡ xs → Some x ≡ slice_get xs 0
          → InPlace began acts (n + 1) base now (moved (Some x) (record { filters = filters; options = options; owed = []; marker = false; seen = seen; next = next; handed = handed }))
      live_case x [] shown f = cc
      live_case (AnEntry entry) (y ∷ ys) shown f = let same : AnEntry entry ≡ y = cc in behind_live n seen next handed entry ys at (shown ∙ ap (λ z. z ∷ ys) (sym same))
      live_case EndMarker (y ∷ ys) shown f =
          let same : EndMarker ≡ y = cc in
          let found = next_shown acts now at.now_stands filters options seen y ys shown in
          let clash : EndMarker ≡ AnEntry (entry_of options.headers_only found.0) = same ∙ found.1 in cc

  -- the same by the event of that item
  pub passed_event : (n : ℕ) (owed : List ℕ) (marker : Bool) (seen next handed : ℕ) (item : Option Item) (event : Event) → At n owed marker seen next handed → item ≡ slice_get all_given n
      → option_map event_of item ≡ Some event
      → InPlace began acts (n + option_len item) base now (behind event (record { filters = filters; options = options; owed = owed; marker = marker; seen = seen; next = next; handed = handed }))
  passed_event n owed marker seen next handed None event at e f = cc
  passed_event n owed marker seen next handed (Some x) event at e f =
      let same : event_of x ≡ event = cc in
      subst (λ v. InPlace began acts (n + 1) base now (behind v (record { filters = filters; options = options; owed = owed; marker = marker; seen = seen; next = next; handed = handed }))) same
      (passed n owed marker seen next handed (Some x) at e)

  -- the same where only the event is known
  pub passed_by : (n : ℕ) (owed : List ℕ) (marker : Bool) (seen next handed : ℕ) (event : Event) → At n owed marker seen next handed → Some event ≡ option_map event_of (slice_get all_given n)
      → InPlace began acts (n + 1) base now (behind event (record { filters = filters; options = options; owed = owed; marker = marker; seen = seen; next = next; handed = handed }))
  passed_by n owed marker seen next handed event at e = by_item (slice_get all_given n) refl (sym e)
    where
      by_item : (item : Option Item) → item ≡ slice_get all_given n → option_map event_of item ≡ Some event
          → InPlace began acts (n + 1) base now (behind event (record { filters = filters; options = options; owed = owed; marker = marker; seen = seen; next = next; handed = handed }))
      by_item None there f = cc
      by_item (Some x) there f = passed_event n owed marker seen next handed (Some x) event at there f

  -- where there is no next item all live writes were looked at
  looked : (n : ℕ) (owed : List ℕ) (marker : Bool) (seen next handed : ℕ) → At n owed marker seen next handed → slice_get all_given n ≡ None → At n owed marker now.last next handed
  looked n owed marker seen next handed at e =
      let rest = drop n initials ++ (marker_if marker ++ shown_behind seen acts filters options) in
      let over : [] ≡ rest = sym (drop_past all_given n e) ∙ whole n owed marker seen next handed at in
      let none : shown_behind seen acts filters options ≡ [] = drop_all_of (shown_behind seen acts filters options) (omega (
        arith,
        ap length over,
        length-append (drop n initials) (marker_if marker ++ shown_behind seen acts filters options),
        length-append (marker_if marker) (shown_behind seen acts filters options),
      )) in
      record {
        base_stands = at.base_stands;
        now_stands = at.now_stands;
        same_config = at.same_config;
        prefix = at.prefix;
        handed = at.handed;
        taken = at.taken;
        owed = at.owed;
        marker = at.marker;
        left = live_end acts now at.now_stands filters options now.last (omega (arith, at.now_stands.last)) ∙ sym none ∙ at.left;
        begun = omega (arith, at.now_stands.last, no_fewer_writes began acts at.prefix);
        seen = omega (arith, at.now_stands.last);
        next = at.next;
      }
    where
      drop_all_of : (xs : List Item) → length xs ≡ 0 → xs ≡ []
      drop_all_of [] l = refl
      drop_all_of (x ∷ xs) l = cc

  pub looked_by : (n : ℕ) (owed : List ℕ) (marker : Bool) (seen next handed : ℕ) → At n owed marker seen next handed → None ≡ option_map event_of (slice_get all_given n) → At (n + 0) owed marker now.last next handed
  looked_by n owed marker seen next handed at e =
      let same : n + 0 ≡ n = omega arith in
      rw same (looked n owed marker seen next handed at (no_event (slice_get all_given n) e))
    where
      no_event : (item : Option Item) → None ≡ option_map event_of item → item ≡ None
      no_event None e = refl
      no_event (Some x) e = cc
