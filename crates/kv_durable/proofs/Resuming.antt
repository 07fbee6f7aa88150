-- A client that goes on from where it was knows what a get answers.
use Rattle.std.proofs.Common.{◌≡◌, ℕ, suc, ◌+◌, ◌≤◌, ◌<◌, ◌⊎◌, inl, inr, ⊎_elim, Bool, true, false, cond, ◌&&◌, not, nat_le, List, [], ◌∷◌, ◌++◌, Option, Some, None, length, drop, filter, refl, sym, subst, ap, ◌∙◌, arith, append_assoc, append-nil, length-append}
use Rattle.std.specs.Prelude.{option_map}
use Rattle.std.specs.List.{last_or}
use Rattle.std.specs.List.Sorted.{IsStrictlyIncreasing}
use Rattle.std.specs.Option.{option_and_then, option_map_or}
use Rattle.std.specs.Str.{bytes_eq}
use Rattle.std.proofs.lemmas.Bool.Decides.{nat_tests}
use Rattle.std.proofs.lemmas.List.Elements.{filter-append, filter_agree, filter_map-append}
use Rattle.std.proofs.lemmas.Bool.{leb-true}
use Rattle.std.proofs.lemmas.Slice.Eq.{bytes_eq-Decides}
use Rattle.kv_keys.specs.Matching.{any_matches}
use Rattle.kv_model.specs.Acceptance.{IsLawful, LawfulFrom}
use Rattle.kv_model.specs.Acts.{Act, Wrote, Seal, Compact, Write, IsPrefix, floor_of, is_put, writes_of}
use Rattle.kv_model.specs.Configuration.{Configuration, IsLegal}
use Rattle.kv_model.specs.Given.{AnEntry, EndMarker, Entry, Item, all_shown, entry_of, given, item_revisions, matching, revision_of}
use Rattle.kv_model.specs.Reads.{if_put}
use Rattle.kv_model.specs.Retained.{is_cleared, is_kept, kept, last_write, retained, since_purge, writes_after, writes_from, writes_of_key}
use Rattle.kv_model.specs.declared.options.Options.{Options}
use Rattle.kv_model.specs.declared.options.Start.{Start}
use Rattle.kv_model.specs.declared.options.Start.TheVariants.{From}
use Rattle.kv_model.proofs.Lasts.{last_or-last_n, last_or-since_purge}
use Rattle.kv_model.proofs.Keeping.{kept_ends, retained_of_key}
use Rattle.kv_model.proofs.Members.{filter-filter}
use Rattle.kv_model.proofs.Numbered.{CountsFrom, CountsFrom-left, CountsFrom-right, counts_from_lawful, writes_of-append}
use Rattle.kv_model.proofs.Counted.{shown_rises}
use Rattle.kv_model.proofs.Rising.{Rises, Rises-append, Rises-more, increasing_from_Rises}
use Rattle.kv_model.proofs.Storing.{next_revision, floor_never_falls, floor_of-compact}
use Rattle.kv_durable.proofs.Recording.{lawful_behind}
use Rattle.kv_durable.specs.Resuming.{entry_got, from_behind, known_by, told_by}

abbrev of_key : List ℕ → List Write → List Write
of_key key ws = filter (λ w. bytes_eq w.key key) ws

-- the value that a last write gives, if there is one and it is a put
abbrev put_in : Option Write → Option Write
put_in o = option_and_then if_put o

-- ---- what is known once writes were shown

abbrev known : Bool → Option Write → Option Entry
known headers_only o = option_map (entry_of headers_only) (put_in o)

told_is_known : (headers_only : Bool) (w : Write) → told_by (entry_of headers_only w) ≡ known headers_only (Some w)
told_is_known headers_only w = by_test (is_put w.op) refl
  where
    by_test : (b : Bool) → is_put w.op ≡ b → cond b (Some (entry_of headers_only w)) None ≡ option_map (entry_of headers_only) (cond b (Some w) None)
    by_test true e = refl
    by_test false e = refl

matches_same : (filters : List (List ℕ)) (w : Write) (key : List ℕ) → bytes_eq w.key key ≡ true → any_matches filters key ≡ true → any_matches filters w.key ≡ true
matches_same filters w key e m = rw ((bytes_eq-Decides w.key key).0 e) m

-- the options of a client that goes on
abbrev plain : (start : Start) → Bool → Options
plain start headers_only = record { start = start; ignore_deletes = false; headers_only = headers_only }

known_once_shown : (start : Start) (headers_only : Bool) (filters : List (List ℕ)) (key : List ℕ) (ws : List Write) (o : Option Write) → any_matches filters key ≡ true
    → known_by key (known headers_only o) (all_shown (plain start headers_only) (matching filters ws)) ≡ known headers_only (last_or o (of_key key ws))
known_once_shown start headers_only filters key [] o m = refl
known_once_shown start headers_only filters key (w ∷ ws) o m = by_match (λ p. known_once_shown start headers_only filters key ws p m) (any_matches filters w.key) refl (bytes_eq w.key key) refl
  where
    by_match : ((p : Option Write) → known_by key (known headers_only p) (all_shown (plain start headers_only) (matching filters ws)) ≡ known headers_only (last_or p (of_key key ws))) → (b : Bool) → any_matches filters w.key ≡ b → (c : Bool) → bytes_eq w.key key ≡ c
        → known_by key (known headers_only o) (all_shown (plain start headers_only) (cond b (w ∷ matching filters ws) (matching filters ws)))
        ≡ known headers_only (last_or o (cond c (w ∷ of_key key ws) (of_key key ws)))
    by_match rest true e true f =
        ap (λ t. known_by key (cond t (told_by (entry_of headers_only w)) (known headers_only o)) (all_shown (plain start headers_only) (matching filters ws))) f
        ∙ ap (λ k. known_by key k (all_shown (plain start headers_only) (matching filters ws))) (told_is_known headers_only w) ∙ rest (Some w)
    by_match rest true e false f =
        ap (λ t. known_by key (cond t (told_by (entry_of headers_only w)) (known headers_only o)) (all_shown (plain start headers_only) (matching filters ws))) f ∙ rest o
    by_match rest false e true f = cc (matches_same filters w key f m)
    by_match rest false e false f = rest o

known_append : (key : List ℕ) (k : Option Entry) (xs ys : List Item) → known_by key k (xs ++ ys) ≡ known_by key (known_by key k xs) ys
known_append key k [] ys = refl
known_append key k (AnEntry entry ∷ xs) ys = known_append key (cond (bytes_eq entry.key key) (told_by entry) k) xs ys
known_append key k (EndMarker ∷ xs) ys = known_append key k xs ys

-- ---- the last write of a key behind more acts

last_push : (ws : List Write) (w : Write) (o : Option Write) → last_or o (ws ++ w ∷ []) ≡ Some w
last_push [] w o = refl
last_push (v ∷ ws) w o = last_push ws w (Some v)

writes_from-append : (key : List ℕ) (ws : List Write) (acts more : List Act) → writes_from key ws (acts ++ more) ≡ writes_from key (writes_from key ws acts) more
writes_from-append key ws [] more = refl
writes_from-append key ws (act ∷ acts) more = writes_from-append key (writes_after key ws act) acts more

-- a key that is cleared had no value
cleared_has_none : (floor : ℕ) (o : Option Write) → option_map_or (λ w. not (is_put w.op) && nat_le w.revision floor) o false ≡ true → put_in o ≡ None
cleared_has_none floor None h = refl
cleared_has_none floor (Some w) h = by_test (is_put w.op) refl h
  where
    by_test : (b : Bool) → is_put w.op ≡ b → (not b && nat_le w.revision floor) ≡ true → cond b (Some w) None ≡ None
    by_test true e h = cc
    by_test false e h = refl

-- what more acts leave of a key: its last write among them gives what it has, or where there is none it has what it had
value_behind : (key : List ℕ) (ws : List Write) (more : List Act) → put_in (last_or None (writes_from key ws more)) ≡ put_in (last_or (last_or None ws) (of_key key (writes_of more)))
value_behind key ws [] = refl
value_behind key ws (Wrote w ∷ more) = by_test (λ vs. value_behind key vs more) (bytes_eq w.key key)
  where
    by_test : ((vs : List Write) → put_in (last_or None (writes_from key vs more)) ≡ put_in (last_or (last_or None vs) (of_key key (writes_of more)))) → (b : Bool) → put_in (last_or None (writes_from key (cond b (ws ++ w ∷ []) ws) more)) ≡ put_in (last_or (last_or None ws) (cond b (w ∷ of_key key (writes_of more)) (of_key key (writes_of more))))
    by_test rest true = rest (ws ++ w ∷ []) ∙ ap (λ o. put_in (last_or o (of_key key (writes_of more)))) (last_push ws w None)
    by_test rest false = rest ws
value_behind key ws (Seal ∷ more) = value_behind key ws more
value_behind key ws (Compact floor ∷ more) = by_test (λ vs. value_behind key vs more) (is_cleared floor ws) refl
  where
    from_none : (vs : List Write) → put_in (last_or None ws) ≡ None → put_in (last_or None vs) ≡ put_in (last_or (last_or None ws) vs)
    from_none [] n = sym n
    from_none (v ∷ vs) n = refl

    by_test : ((vs : List Write) → put_in (last_or None (writes_from key vs more)) ≡ put_in (last_or (last_or None vs) (of_key key (writes_of more)))) → (b : Bool) → is_cleared floor ws ≡ b
        → put_in (last_or None (writes_from key (cond b [] ws) more)) ≡ put_in (last_or (last_or None ws) (of_key key (writes_of more)))
    by_test rest true e = rest [] ∙ from_none (of_key key (writes_of more)) (cleared_has_none floor (last_or None ws) e)
    by_test rest false e = rest ws

-- ---- where no compaction went beyond what was seen

lawful_front : (config : Configuration) (before xs ys : List Act) → LawfulFrom config before (xs ++ ys) → LawfulFrom config before xs
lawful_front config before [] ys h = tt
lawful_front config before (x ∷ xs) ys h = (h.0, lawful_front config (before ++ x ∷ []) xs ys h.1)

floor_rises : (config : Configuration) (before more : List Act) → LawfulFrom config before more → floor_of before ≤ floor_of (before ++ more)
floor_rises config before [] h = omega (arith, ap floor_of (append-nil before))
floor_rises config before (act ∷ more) h =
    omega (arith, floor_never_falls config before act h.0, floor_rises config (before ++ act ∷ []) more h.1, ap floor_of (append_assoc before (act ∷ []) more))

-- acts behind others, over no floor above a number of the others' writes
record IsLow (config : Configuration) (n : ℕ) (before more : List Act) : Type 0 where
  lawful : LawfulFrom config before more
  low : floor_of (before ++ more) ≤ n
  behind : n ≤ length (writes_of before)

low_rest : (config : Configuration) (n : ℕ) (before : List Act) (act : Act) (more : List Act) → IsLow config n before (act ∷ more) → IsLow config n (before ++ act ∷ []) more
low_rest config n before act more h = record {
  lawful = h.lawful.1;
  low = rw (append_assoc before (act ∷ []) more) h.low;
  behind = omega (arith, h.behind, ap length (writes_of-append before (act ∷ [])), length-append (writes_of before) (writes_of (act ∷ [])));
}

low_floor : (config : Configuration) (n : ℕ) (before : List Act) (floor : ℕ) (more : List Act) → IsLow config n before (Compact floor ∷ more) → floor ≤ n
low_floor config n before floor more h =
    let rest = low_rest config n before (Compact floor) more h in
    omega (arith, floor_of-compact before floor, floor_rises config (before ++ Compact floor ∷ []) more rest.lawful, rest.low)

next_is_above : (config : Configuration) (n : ℕ) (before : List Act) (w : Write) (more : List Act) → IsLow config n before (Wrote w ∷ more) → n < w.revision
next_is_above config n before w more h = omega (arith, next_revision config before w h.lawful.0, h.behind)

-- a key whose last write is above that number is not cleared
not_cleared : (n floor : ℕ) (ws : List Write) (w : Write) → last_or None ws ≡ Some w → n < w.revision → floor ≤ n → is_cleared floor ws ≡ false
not_cleared n floor ws w e l f = rw e (by_test (not (is_put w.op)) (nat_le w.revision floor) refl)
  where
    by_test : (b c : Bool) → nat_le w.revision floor ≡ c → b && c ≡ false
    by_test true true g = absurd (omega (arith, leb-true w.revision floor g))
    by_test true false g = refl
    by_test false c g = refl

fresh_stays : (config : Configuration) (n : ℕ) (key : List ℕ) (before more : List Act) (ws : List Write) (w : Write) → IsLow config n before more → last_or None ws ≡ Some w → n < w.revision
    → last_or None (writes_from key ws more) ≡ last_or (Some w) (of_key key (writes_of more))
fresh_stays config n key before [] ws w h e l = e
fresh_stays config n key before (Wrote v ∷ more) ws w h e l =
    let rest = low_rest config n before (Wrote v) more h in
    by_test (fresh_stays config n key (before ++ Wrote v ∷ []) more (ws ++ v ∷ []) v rest (last_push ws v None) (next_is_above config n before v more h)) (fresh_stays config n key (before ++ Wrote v ∷ []) more ws w rest e l) (bytes_eq v.key key)
  where
    by_test : last_or None (writes_from key (ws ++ v ∷ []) more) ≡ last_or (Some v) (of_key key (writes_of more)) → last_or None (writes_from key ws more) ≡ last_or (Some w) (of_key key (writes_of more))
        → (b : Bool) → last_or None (writes_from key (cond b (ws ++ v ∷ []) ws) more) ≡ last_or (Some w) (cond b (v ∷ of_key key (writes_of more)) (of_key key (writes_of more)))
    by_test same other true = same
    by_test same other false = other
fresh_stays config n key before (Seal ∷ more) ws w h e l = fresh_stays config n key (before ++ Seal ∷ []) more ws w (low_rest config n before Seal more h) e l
fresh_stays config n key before (Compact floor ∷ more) ws w h e l =
    ap (λ b. last_or None (writes_from key (cond b [] ws) more)) (not_cleared n floor ws w e l (low_floor config n before floor more h))
    ∙ fresh_stays config n key (before ++ Compact floor ∷ []) more ws w (low_rest config n before (Compact floor) more h) e l

-- the last write of a key is the last one that was made, or where none was, the one before; or that was a marker, and is gone
abbrev IsLeft : List ℕ → List Write → List Act → Type 0
IsLeft key ws more =
    (last_or None (writes_from key ws more) ≡ last_or (last_or None ws) (of_key key (writes_of more)))
    ⊎ ((of_key key (writes_of more) ≡ []) × ((last_or None (writes_from key ws more) ≡ None) × (put_in (last_or None ws) ≡ None)))

is_left : (config : Configuration) (n : ℕ) (key : List ℕ) (before more : List Act) (ws : List Write) → IsLow config n before more → IsLeft key ws more
is_left config n key before [] ws h = inl refl
is_left config n key before (Wrote v ∷ more) ws h =
    let rest = low_rest config n before (Wrote v) more h in
    by_test (fresh_stays config n key (before ++ Wrote v ∷ []) more (ws ++ v ∷ []) v rest (last_push ws v None) (next_is_above config n before v more h)) (is_left config n key (before ++ Wrote v ∷ []) more ws rest) (bytes_eq v.key key)
  where
    by_test : last_or None (writes_from key (ws ++ v ∷ []) more) ≡ last_or (Some v) (of_key key (writes_of more)) → IsLeft key ws more → (b : Bool)
        → (last_or None (writes_from key (cond b (ws ++ v ∷ []) ws) more) ≡ last_or (last_or None ws) (cond b (v ∷ of_key key (writes_of more)) (of_key key (writes_of more))))
        ⊎ ((cond b (v ∷ of_key key (writes_of more)) (of_key key (writes_of more)) ≡ []) × ((last_or None (writes_from key (cond b (ws ++ v ∷ []) ws) more) ≡ None) × (put_in (last_or None ws) ≡ None)))
    by_test same other true = inl same
    by_test same other false = other
is_left config n key before (Seal ∷ more) ws h = is_left config n key (before ++ Seal ∷ []) more ws (low_rest config n before Seal more h)
is_left config n key before (Compact floor ∷ more) ws h =
    let rest = low_rest config n before (Compact floor) more h in
    by_test (is_left config n key (before ++ Compact floor ∷ []) more [] rest) (is_left config n key (before ++ Compact floor ∷ []) more ws rest) (is_cleared floor ws) refl
  where
    from_none : (xs : List Write) (o : Option Write) → put_in (last_or None ws) ≡ None → o ≡ last_or None xs → (o ≡ last_or (last_or None ws) xs) ⊎ ((xs ≡ []) × ((o ≡ None) × (put_in (last_or None ws) ≡ None)))
    from_none [] o n e = inr (refl, (e, n))
    from_none (v ∷ vs) o n e = inl e

    by_test : IsLeft key [] more → IsLeft key ws more → (b : Bool) → is_cleared floor ws ≡ b
        → (last_or None (writes_from key (cond b [] ws) more) ≡ last_or (last_or None ws) (of_key key (writes_of more)))
        ⊎ ((of_key key (writes_of more) ≡ []) × ((last_or None (writes_from key (cond b [] ws) more) ≡ None) × (put_in (last_or None ws) ≡ None)))
    by_test same other true e =
        let none = cleared_has_none floor (last_or None ws) e in
        ⊎_elim (λ left. from_none (of_key key (writes_of more)) (last_or None (writes_from key [] more)) none left) (λ right. inr (right.0, (right.1.0, none))) same
    by_test same other false e = other

-- ---- what a watch from behind a revision begins with

abbrev above : ℕ → List Write → List Write
above n ws = filter (λ w. nat_le (n + 1) w.revision) ws

last_passes : (p : Write → Bool) (xs : List Write) (o : Option Write) (u : Write) → last_or None xs ≡ Some u → p u ≡ true → last_or o (filter p xs) ≡ Some u
last_passes p [] o u e t = cc
last_passes p (x ∷ []) o u e t =
    let same : x ≡ u = cc e in
    let passes : p x ≡ true = rw same t in
    ap (λ b. last_or o (cond b (x ∷ []) [])) passes ∙ e
last_passes p (x ∷ y ∷ ys) o u e t = by_test (λ a. last_passes p (y ∷ ys) a u e t) (p x)
  where
    by_test : ((a : Option Write) → last_or a (filter p (y ∷ ys)) ≡ Some u) → (b : Bool) → last_or o (cond b (x ∷ filter p (y ∷ ys)) (filter p (y ∷ ys))) ≡ Some u
    by_test rest true = rest (Some x)
    by_test rest false = rest o

none_above : (n m : ℕ) (key : List ℕ) (ws : List Write) → CountsFrom m ws → m + length ws ≤ n + 1 → above n (of_key key ws) ≡ []
none_above n m key [] h l = refl
none_above n m key (w ∷ ws) h l = by_test (none_above n (suc m) key ws h.1 (omega (arith, l))) (bytes_eq w.key key)
  where
    under : nat_le (n + 1) w.revision ≡ false
    under = grind (arith, nat_tests, h.0, l)

    by_test : above n (of_key key ws) ≡ [] → (b : Bool) → above n (cond b (w ∷ of_key key ws) (of_key key ws)) ≡ []
    by_test rest true = ap (λ t. cond t (w ∷ above n (of_key key ws)) (above n (of_key key ws))) under ∙ rest
    by_test rest false = rest

-- what is written of a key behind that number has a last write above it, if it has any
last_is_above : (n m : ℕ) (key : List ℕ) (ws : List Write) → CountsFrom m ws → n < m
    → (of_key key ws ≡ []) ⊎ ((u : Write) × (((o : Option Write) → last_or o (of_key key ws) ≡ Some u) × (n < u.revision)))
last_is_above n m key [] h l = inl refl
last_is_above n m key (w ∷ ws) h l = by_test (last_is_above n (suc m) key ws h.1 (omega (arith, l))) (bytes_eq w.key key)
  where
    by_test : (of_key key ws ≡ []) ⊎ ((u : Write) × (((o : Option Write) → last_or o (of_key key ws) ≡ Some u) × (n < u.revision))) → (b : Bool) → (cond b (w ∷ of_key key ws) (of_key key ws) ≡ []) ⊎ ((u : Write) × (((o : Option Write) → last_or o (cond b (w ∷ of_key key ws) (of_key key ws)) ≡ Some u) × (n < u.revision)))
    by_test rest true = ⊎_elim (λ none. inr (w, ((λ o. ap (last_or (Some w)) none), omega (arith, h.0, l)))) (λ u. inr (u.0, ((λ o. u.1.0 (Some w)), u.1.1))) rest
    by_test rest false = rest

second_is_none : {X : Type 0} (xs ys : List X) → xs ++ ys ≡ [] → ys ≡ []
second_is_none [] ys e = e
second_is_none (x ∷ xs) ys e = cc

and_turned : (b c : Bool) → (b && c) ≡ (c && b)
and_turned true true = refl
and_turned true false = refl
and_turned false true = refl
and_turned false false = refl

of_key_above : (n : ℕ) (key : List ℕ) (ws : List Write) → of_key key (above n ws) ≡ above n (of_key key ws)
of_key_above n key ws =
    let of : Write → Bool = λ w. bytes_eq w.key key in
    let p : Write → Bool = λ w. nat_le (n + 1) w.revision in
    filter-filter of p ws ∙ filter_agree (λ w. p w && of w) (λ w. of w && p w) (λ w. and_turned (p w) (of w)) ws ∙ sym (filter-filter p of ws)

and_moved : (a b c : Bool) → ((a && b) && c) ≡ ((a && c) && b)
and_moved true b c = and_turned b c
and_moved false b c = refl

has_history : (config : Configuration) → IsLegal config → 0 < config.history
has_history config legal = by_test (nat_le 1 config.history) refl legal.1
  where
    by_test : (b : Bool) → nat_le 1 config.history ≡ b
        → ((b && nat_le config.history 64) && nat_le config.value_limit 1048576 && (nat_le 1 config.write_limit && nat_le config.write_limit 1000000) && (nat_le 1 config.revision_limit && nat_le config.revision_limit 4294967295)) ≡ true
        → 0 < config.history
    by_test true e h = omega (arith, leb-true 1 config.history e)
    by_test false e h = cc

module _ (config : Configuration) (h : ℕ) (key : List ℕ) (seen mid : List Act) (some : 0 < h) (lawful : IsLawful config (seen ++ mid)) (low : floor_of (seen ++ mid) ≤ length (writes_of seen)) where
  abbrev n : ℕ
  n = length (writes_of seen)

  counts : CountsFrom 1 (writes_of seen ++ writes_of mid)
  counts = subst (CountsFrom 1) (writes_of-append seen mid) (counts_from_lawful config (seen ++ mid) lawful)

  split : of_key key (writes_of (seen ++ mid)) ≡ of_key key (writes_of seen) ++ of_key key (writes_of mid)
  split = ap (of_key key) (writes_of-append seen mid) ∙ filter-append (λ w. bytes_eq w.key key) (writes_of seen) (writes_of mid)

  left : IsLeft key (writes_of_key key seen) mid
  left = is_left config n key seen mid (writes_of_key key seen) (record { lawful = lawful_behind config [] seen mid lawful; low = low; behind = omega arith })

  began_is : writes_of_key key (seen ++ mid) ≡ writes_from key (writes_of_key key seen) mid
  began_is = writes_from-append key [] seen mid

  first : of_key key (above n (retained h (seen ++ mid))) ≡ above n (kept h key (seen ++ mid))
  first = of_key_above n key (retained h (seen ++ mid)) ∙ ap (above n) (retained_of_key h key (seen ++ mid) (counts_from_lawful config (seen ++ mid) lawful))

  last_kept : last_or None (kept h key (seen ++ mid)) ≡ last_write key (seen ++ mid)
  last_kept = last_or-last_n h (since_purge (writes_of_key key (seen ++ mid))) some ∙ last_or-since_purge (writes_of_key key (seen ++ mid)) None

  abbrev Begins : Type 0
  Begins = put_in (last_or (last_write key seen) (of_key key (above n (retained h (seen ++ mid))))) ≡ put_in (last_write key (seen ++ mid))

  -- nothing was written of the key
  when_none : of_key key (writes_of mid) ≡ [] → Begins
  when_none none =
      let ends = kept_ends h key (seen ++ mid) in
      let all = split ∙ ap (λ ws. of_key key (writes_of seen) ++ ws) none ∙ append-nil (of_key key (writes_of seen)) in
      let under : above n (of_key key (writes_of seen)) ≡ [] = none_above n 1 key (writes_of seen) (CountsFrom-left 1 (writes_of seen) (writes_of mid) counts) (omega arith) in
      let both : above n ends.0 ++ above n (kept h key (seen ++ mid)) ≡ [] = sym (filter-append (λ w. nat_le (n + 1) w.revision) ends.0 (kept h key (seen ++ mid))) ∙ ap (above n) (ends.1 ∙ all) ∙ under in
      let nothing = first ∙ second_is_none (above n ends.0) (above n (kept h key (seen ++ mid))) both in
      ap (λ ws. put_in (last_or (last_write key seen) ws)) nothing
      ∙ ⊎_elim (λ e. sym (ap put_in (ap (last_or None) began_is ∙ e ∙ ap (last_or (last_write key seen)) none))) (λ gone. gone.1.1 ∙ sym (ap put_in (ap (last_or None) began_is ∙ gone.1.0))) left

  -- something was
  when_some : (u : Write) → ((o : Option Write) → last_or o (of_key key (writes_of mid)) ≡ Some u) → n < u.revision → Begins
  when_some u is above_it =
      let e : last_write key (seen ++ mid) ≡ Some u = ap (last_or None) began_is ∙ ⊎_elim (λ e. e ∙ is (last_write key seen)) (λ gone. cc (is None, gone.0)) left in
      ap put_in (ap (last_or (last_write key seen)) first ∙ last_passes (λ w. nat_le (n + 1) w.revision) (kept h key (seen ++ mid)) (last_write key seen) u (last_kept ∙ e) (grind (arith, nat_tests, above_it)) ∙ sym e)

  begins : Begins
  begins = ⊎_elim when_none (λ u. when_some u.0 u.1.0 u.1.1) (last_is_above n (1 + n) key (writes_of mid) (CountsFrom-right 1 (writes_of seen) (writes_of mid) counts) (omega arith))

-- ---- the law

drop_front : {X : Type 0} (xs ys : List X) → drop (length xs) (xs ++ ys) ≡ ys
drop_front [] ys = refl
drop_front (x ∷ xs) ys = drop_front xs ys

knows : (config : Configuration) (seen mid rest : List Act) (filters : List (List ℕ)) (headers_only : Bool) (key : List ℕ) → 0 < config.history → IsLawful config ((seen ++ mid) ++ rest)
    → floor_of (seen ++ mid) ≤ length (writes_of seen) → any_matches filters key ≡ true
    → known_by key (entry_got headers_only key seen) (given config.history (seen ++ mid) ((seen ++ mid) ++ rest) filters (from_behind (length (writes_of seen)) headers_only))
    ≡ entry_got headers_only key ((seen ++ mid) ++ rest)
knows config seen mid rest filters headers_only key some lawful low m =
    let h = config.history in
    let began = seen ++ mid in
    let n = length (writes_of seen) in
    let start = From (n + 1) in
    let options = plain start headers_only in
    let initially = all_shown options (matching filters (above n (retained h began))) in
    let late = drop (length (writes_of began)) (writes_of (began ++ rest)) in
    let later = all_shown options (matching filters late) in
    let there : late ≡ writes_of rest = ap (drop (length (writes_of began))) (writes_of-append began rest) ∙ drop_front (writes_of began) (writes_of rest) in
    let before = begins config h key seen mid some (lawful_front config [] began rest lawful) low in
    let now : put_in (last_write key (began ++ rest)) ≡ put_in (last_or (last_write key began) (of_key key (writes_of rest))) =
    ap (λ ws. put_in (last_or None ws)) (writes_from-append key [] began rest) ∙ value_behind key (writes_of_key key began) rest in
    known_append key (entry_got headers_only key seen) initially (EndMarker ∷ later)
    ∙ ap (λ k. known_by key k later) (known_once_shown start headers_only filters key (above n (retained h began)) (last_write key seen) m ∙ ap (option_map (entry_of headers_only)) before)
    ∙ known_once_shown start headers_only filters key late (last_write key began) m
    ∙ ap (λ ws. option_map (entry_of headers_only) (put_in (last_or (last_write key began) (of_key key ws)))) there
    ∙ ap (option_map (entry_of headers_only)) (sym now)

pub client_knows : (config : Configuration) (seen began acts : List Act) (filters : List (List ℕ)) (headers_only : Bool) (key : List ℕ) → IsLegal config → IsLawful config acts → IsPrefix seen began → IsPrefix began acts
    → floor_of began ≤ length (writes_of seen) → any_matches filters key ≡ true
    → known_by key (entry_got headers_only key seen) (given config.history began acts filters (from_behind (length (writes_of seen)) headers_only)) ≡ entry_got headers_only key acts
client_knows config seen began acts filters headers_only key legal lawful p q low m =
    let n = length (writes_of seen) in
    let all : (seen ++ p.0) ++ q.0 ≡ acts = ap (λ b. b ++ q.0) p.1 ∙ q.1 in
    let at_all = knows config seen p.0 q.0 filters headers_only key (has_history config legal) (subst (IsLawful config) (sym all) lawful) (subst (λ b. floor_of b ≤ n) (sym p.1) low) m in
    let at_acts = subst (λ a. known_by key (entry_got headers_only key seen) (given config.history (seen ++ p.0) a filters (from_behind n headers_only)) ≡ entry_got headers_only key a) all at_all in
    subst (λ b. known_by key (entry_got headers_only key seen) (given config.history b acts filters (from_behind n headers_only)) ≡ entry_got headers_only key acts) p.1 at_acts

-- ---- nothing comes twice

filter_all_out : (p : Write → Bool) (n m : ℕ) (ws : List Write) → CountsFrom m ws → m + length ws ≤ n + 1 → filter (λ w. p w && nat_le (n + 1) w.revision) ws ≡ []
filter_all_out p n m [] h l = refl
filter_all_out p n m (w ∷ ws) h l =
    let rest = filter_all_out p n (suc m) ws h.1 (omega (arith, l)) in
    let under : nat_le (n + 1) w.revision ≡ false = grind (arith, nat_tests, h.0, l) in
    let none : (p w && nat_le (n + 1) w.revision) ≡ false = ap (λ b. p w && b) under ∙ and_turned (p w) false in
    ap (λ b. cond b (w ∷ filter (λ w. p w && nat_le (n + 1) w.revision) ws) (filter (λ w. p w && nat_le (n + 1) w.revision) ws)) none ∙ rest

rises_behind : (config : Configuration) (h : ℕ) (seen mid rest : List Act) (filters : List (List ℕ)) (headers_only : Bool) → IsLawful config ((seen ++ mid) ++ rest)
    → IsStrictlyIncreasing (length (writes_of seen) ∷ item_revisions (given h (seen ++ mid) ((seen ++ mid) ++ rest) filters (from_behind (length (writes_of seen)) headers_only)))
rises_behind config h seen mid rest filters headers_only lawful =
    let began = seen ++ mid in
    let n = length (writes_of seen) in
    let k = length (writes_of mid) in
    let options = from_behind n headers_only in
    let some : Write → Bool = λ w. any_matches filters w.key in
    let p : Write → Bool = λ w. is_kept h began w && some w in
    let all : CountsFrom 1 (writes_of began ++ writes_of rest) = subst (CountsFrom 1) (writes_of-append began rest) (counts_from_lawful config (began ++ rest) lawful) in
    let counts : CountsFrom 1 (writes_of seen ++ writes_of mid) = subst (CountsFrom 1) (writes_of-append seen mid) (CountsFrom-left 1 (writes_of began) (writes_of rest) all) in
    let long : length (writes_of began) ≡ n + k = ap length (writes_of-append seen mid) ∙ length-append (writes_of seen) (writes_of mid) in
    let live : CountsFrom (1 + n + k) (writes_of rest) = subst (λ m. CountsFrom m (writes_of rest)) (omega (arith, long)) (CountsFrom-right 1 (writes_of began) (writes_of rest) all) in
    let begins : matching filters (above n (retained h began)) ≡ filter (λ w. p w && nat_le (n + 1) w.revision) (writes_of mid) =
    ap (matching filters) (filter-filter (λ w. nat_le (n + 1) w.revision) (is_kept h began) (writes_of began))
    ∙ filter-filter some (λ w. is_kept h began w && nat_le (n + 1) w.revision) (writes_of began)
    ∙ filter_agree (λ w. (is_kept h began w && nat_le (n + 1) w.revision) && some w) (λ w. p w && nat_le (n + 1) w.revision) (λ w. and_moved (is_kept h began w) (nat_le (n + 1) w.revision) (some w)) (writes_of began)
    ∙ ap (filter (λ w. p w && nat_le (n + 1) w.revision)) (writes_of-append seen mid)
    ∙ filter-append (λ w. p w && nat_le (n + 1) w.revision) (writes_of seen) (writes_of mid)
    ∙ ap (λ ws. ws ++ filter (λ w. p w && nat_le (n + 1) w.revision) (writes_of mid)) (filter_all_out p n 1 (writes_of seen) (CountsFrom-left 1 (writes_of seen) (writes_of mid) counts) (omega arith)) in
    let late : drop (length (writes_of began)) (writes_of (began ++ rest)) ≡ writes_of rest = ap (drop (length (writes_of began))) (writes_of-append began rest) ∙ drop_front (writes_of began) (writes_of rest) in
    let initially = all_shown options (matching filters (above n (retained h began))) in
    let later = all_shown options (matching filters (drop (length (writes_of began)) (writes_of (began ++ rest)))) in
    let first : Rises (1 + n) (1 + n + k) (item_revisions initially) = rw begins (shown_rises options (λ w. p w && nat_le (n + 1) w.revision) (1 + n) (writes_of mid) (CountsFrom-right 1 (writes_of seen) (writes_of mid) counts)) in
    let second : Rises (1 + n + k) (1 + n + k + length (writes_of rest)) (item_revisions later) = rw late (shown_rises options some (1 + n + k) (writes_of rest) live) in
    let split : item_revisions (given h began (began ++ rest) filters options) ≡ item_revisions initially ++ item_revisions later = filter_map-append revision_of initially (EndMarker ∷ later) in
    let both : Rises (1 + n) (1 + n + k + length (writes_of rest)) (item_revisions (given h began (began ++ rest) filters options)) = rw split (Rises-append (1 + n) (1 + n + k) _ _ _ first second) in
    let one : 1 + n ≡ suc n = omega arith in
    increasing_from_Rises n (1 + n + k + length (writes_of rest)) _ (Rises-more n _ n _ (omega arith) (subst (λ m. Rises m (1 + n + k + length (writes_of rest)) (item_revisions (given h began (began ++ rest) filters options))) one both))

pub nothing_twice : (config : Configuration) (h : ℕ) (seen began acts : List Act) (filters : List (List ℕ)) (headers_only : Bool) → IsLawful config acts → IsPrefix seen began → IsPrefix began acts
    → IsStrictlyIncreasing (length (writes_of seen) ∷ item_revisions (given h began acts filters (from_behind (length (writes_of seen)) headers_only)))
nothing_twice config h seen began acts filters headers_only lawful p q =
    let n = length (writes_of seen) in
    let all : (seen ++ p.0) ++ q.0 ≡ acts = ap (λ b. b ++ q.0) p.1 ∙ q.1 in
    let at_all = rises_behind config h seen p.0 q.0 filters headers_only (subst (IsLawful config) (sym all) lawful) in
    let at_acts = subst (λ a. IsStrictlyIncreasing (n ∷ item_revisions (given h (seen ++ p.0) a filters (from_behind n headers_only)))) all at_all in
    subst (λ b. IsStrictlyIncreasing (n ∷ item_revisions (given h b acts filters (from_behind n headers_only)))) p.1 at_acts
