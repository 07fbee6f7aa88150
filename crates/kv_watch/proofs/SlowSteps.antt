-- The steps of the slow walk over all writes, and that it lists what is given.
use Rattle.std.proofs.Common.{◌≡◌, ℕ, ◌+◌, ◌<◌, ◌≤◌, Bool, true, false, cond, ◌&&◌, not, List, [], ◌∷◌, ◌++◌, Some, None, length, get_or, take, drop, map, filter, refl, sym, ap, ◌∙◌, arith, append_assoc, append-nil, length-take}
use Rattle.std.specs.Borrow.{Bor}
use Rattle.std.specs.List.{last_or, cons_option}
use Rattle.std.specs.Str.{bytes_eq}
use Rattle.std.proofs.lemmas.List.{drop_more, drop_all, take_more, map-append, take-map, drop-map, length-map}
use Rattle.std.proofs.lemmas.List.Elements.{filter-append}
use Rattle.kv_keys.specs.Matching.{any_matches}
use Rattle.kv_model.specs.Acts.{Act, Write, Wrote, writes_of, is_put, is_purge}
use Rattle.kv_model.specs.Retained.{writes_of_key, last_write, since_purge, revisions}
use Rattle.kv_model.specs.declared.event.Event.{Event}
use Rattle.kv_model.specs.declared.event.Event.TheVariants as events
use Rattle.kv_model.specs.declared.options.Options.{Options}
use Rattle.kv_model.specs.Given.{AnEntry, matching, all_shown, entry_of, initial, ending, given}
use Rattle.kv_model.specs.further.Events.{event_of}
use Rattle.kv_watch.specs.inside.Listing.{revisions_after}
use Rattle.kv_model.specs.further.Showing.{is_initial, is_shown}
use Rattle.kv_watch.specs.inside.Showing.{events_where, wrote_all}
use Rattle.kv_model.proofs.Keeping.{since_purge-push, writes_of_key-push}
use Rattle.kv_model.proofs.Members.{filter-filter}
use Rattle.kv_model.proofs.GivenLaws.{initial_selects}
use Rattle.kv_watch.proofs.Lists.{last_or-push}

-- the writes behind the references
abbrev pub plain : List (Bor Write) → List Write
plain writes = map (λ w. w.now) writes

pub writes_of_wrote : (writes : List (Bor Write)) → writes_of (wrote_all writes) ≡ plain writes
writes_of_wrote [] = refl
writes_of_wrote (w ∷ ws) = ap (λ vs. w.now ∷ vs) (writes_of_wrote ws)

-- ---- a loop that gathers events

-- what is left to gather from a place on
abbrev pub events_from : (Write → Bool) → ℕ → List (Bor Write) → List Event
events_from test place writes = events_where test (plain (drop place writes))

events_where-append : (test : Write → Bool) (ws more : List Write) → events_where test (ws ++ more) ≡ events_where test ws ++ events_where test more
events_where-append test ws more =
    ap (map (λ w. events.Entry w.revision)) (filter-append test ws more)
    ∙ map-append (λ w. events.Entry w.revision) (filter test ws) (filter test more)

pub events_first : (test : Write → Bool) (place : ℕ) (writes : List (Bor Write)) (w : Bor Write) → place < length writes → w ≡ get_or writes place w
    → events_from test place writes ≡ events_where test (w.now ∷ []) ++ events_from test (place + 1) writes
events_first test place writes w l e =
    ap (λ vs. events_where test (plain vs)) (drop_more writes place w l ∙ ap (λ v. v ∷ drop (place + 1) writes) (sym e))
    ∙ events_where-append test (w.now ∷ []) (plain (drop (place + 1) writes))

-- what was gathered before a write, with the write and what comes behind it
pub gathered : (test : Write → Bool) (place : ℕ) (writes : List (Bor Write)) (w : Bor Write) (start before after : List Event) → place < length writes → w ≡ get_or writes place w
    → before ++ events_from test place writes ≡ start ++ events_from test 0 writes → after ≡ before ++ events_where test (w.now ∷ [])
    → after ++ events_from test (place + 1) writes ≡ start ++ events_from test 0 writes
gathered test place writes w start before after l e whole pushed =
    ap (λ es. es ++ events_from test (place + 1) writes) pushed
    ∙ append_assoc before (events_where test (w.now ∷ [])) (events_from test (place + 1) writes)
    ∙ ap (λ es. before ++ es) (sym (events_first test place writes w l e))
    ∙ whole

-- behind the last write all is gathered
pub gathered_all : (test : Write → Bool) (place : ℕ) (writes : List (Bor Write)) (start events : List Event) → length writes ≤ place
    → events ++ events_from test place writes ≡ start ++ events_from test 0 writes → events ≡ start ++ events_from test 0 writes
gathered_all test place writes start events l whole =
    sym (append-nil events) ∙ ap (λ vs. events ++ events_where test (plain vs)) (sym (drop_all place writes l)) ∙ whole

-- whether a watch begins with a write, and shows it
abbrev pub begins_with : ℕ → List (List ℕ) → Options → List (Bor Write) → Write → Bool
begins_with h filters options began w = is_initial h options.start (wrote_all began) w && is_shown filters options w

-- ---- a loop that finds the last write of a key

wrote-push : (writes : List (Bor Write)) (place : ℕ) (w : Bor Write) → place < length writes → w ≡ get_or writes place w
    → wrote_all (take (place + 1) writes) ≡ wrote_all (take place writes) ++ Wrote w.now ∷ []
wrote-push writes place w l e =
    ap wrote_all (take_more writes place w l ∙ ap (λ v. take place writes ++ v ∷ []) (sym e))
    ∙ map-append (λ v. Wrote v.now) (take place writes) (w ∷ [])

-- the writes of a key before a place
abbrev of_key_to : List ℕ → ℕ → List (Bor Write) → List Write
of_key_to key place writes = writes_of_key key (wrote_all (take place writes))

of_key_more : (key : List ℕ) (writes : List (Bor Write)) (place : ℕ) (w : Bor Write) → place < length writes → w ≡ get_or writes place w
    → of_key_to key (place + 1) writes ≡ cond (bytes_eq w.now.key key) (of_key_to key place writes ++ w.now ∷ []) (of_key_to key place writes)
of_key_more key writes place w l e = ap (writes_of_key key) (wrote-push writes place w l e) ∙ writes_of_key-push key (wrote_all (take place writes)) (Wrote w.now)

pub last_write_more : (key : List ℕ) (writes : List (Bor Write)) (place : ℕ) (w : Bor Write) → place < length writes → w ≡ get_or writes place w
    → last_write key (wrote_all (take (place + 1) writes)) ≡ cond (bytes_eq w.now.key key) (Some w.now) (last_write key (wrote_all (take place writes)))
last_write_more key writes place w l e = ap (last_or None) (of_key_more key writes place w l e) ∙ by_test (bytes_eq w.now.key key)
  where
    by_test : (b : Bool) → last_or None (cond b (of_key_to key place writes ++ w.now ∷ []) (of_key_to key place writes)) ≡ cond b (Some w.now) (last_write key (wrote_all (take place writes)))
    by_test true = last_or-push None (of_key_to key place writes) w.now
    by_test false = refl

-- ---- a loop that gathers the revisions since the last purge

abbrev pub revisions_to : List ℕ → ℕ → List (Bor Write) → List ℕ
revisions_to key place writes = revisions (since_purge (writes_of_key key (wrote_all (take place writes))))

pub revisions_more : (key : List ℕ) (writes : List (Bor Write)) (place : ℕ) (w : Bor Write) → place < length writes → w ≡ get_or writes place w
    → revisions_to key (place + 1) writes ≡ revisions_after (revisions_to key place writes) key w.now
revisions_more key writes place w l e = ap (λ vs. revisions (since_purge vs)) (of_key_more key writes place w l e) ∙ by_test (bytes_eq w.now.key key)
  where
    by_purge : (b : Bool) → revisions (cond b [] (since_purge (of_key_to key place writes)) ++ w.now ∷ []) ≡ cond b [] (revisions (since_purge (of_key_to key place writes))) ++ w.now.revision ∷ []
    by_purge true = refl
    by_purge false = map-append (λ v. v.revision) (since_purge (of_key_to key place writes)) (w.now ∷ [])

    by_test : (b : Bool) → revisions (since_purge (cond b (of_key_to key place writes ++ w.now ∷ []) (of_key_to key place writes))) ≡ cond b (cond (is_purge w.now.op) [] (revisions (since_purge (of_key_to key place writes))) ++ w.now.revision ∷ []) (revisions (since_purge (of_key_to key place writes)))
    by_test true = ap revisions (since_purge-push (of_key_to key place writes) w.now) ∙ by_purge (is_purge w.now.op)
    by_test false = refl

-- ---- the list is what is given

-- the events of what is shown of writes
events_shown : (options : Options) (filters : List (List ℕ)) (ws : List Write) → map event_of (all_shown options (matching filters ws)) ≡ events_where (is_shown filters options) ws
events_shown options filters [] = refl
events_shown options filters (w ∷ ws) = by_match (any_matches filters w.key) (options.ignore_deletes && not (is_put w.op)) (events_shown options filters ws)
  where
    by_hide : (hides : Bool) → map event_of (all_shown options (matching filters ws)) ≡ events_where (is_shown filters options) ws
        → map event_of (cons_option (cond hides None (Some (AnEntry (entry_of options.headers_only w)))) (all_shown options (matching filters ws)))
        ≡ map (λ v. events.Entry v.revision) (cond (not hides) (w ∷ filter (is_shown filters options) ws) (filter (is_shown filters options) ws))
    by_hide true rest = rest
    by_hide false rest = ap (λ es. events.Entry w.revision ∷ es) rest

    by_match : (m hides : Bool) → map event_of (all_shown options (matching filters ws)) ≡ events_where (is_shown filters options) ws
        → map event_of (all_shown options (cond m (w ∷ matching filters ws) (matching filters ws)))
        ≡ map (λ v. events.Entry v.revision) (cond (m && not (options.ignore_deletes && not (is_put w.op))) (w ∷ filter (is_shown filters options) ws) (filter (is_shown filters options) ws))
    by_match true hides rest = by_hide (options.ignore_deletes && not (is_put w.op)) rest
    by_match false hides rest = rest

-- the same of the initial part
events_initial : (h : ℕ) (options : Options) (filters : List (List ℕ)) (acts : List Act)
    → map event_of (all_shown options (matching filters (initial h options.start acts))) ≡ events_where (λ w. is_initial h options.start acts w && is_shown filters options w) (writes_of acts)
events_initial h options filters acts =
    events_shown options filters (initial h options.start acts)
    ∙ ap (events_where (is_shown filters options)) (initial_selects h options.start acts)
    ∙ ap (map (λ w. events.Entry w.revision)) (filter-filter (is_shown filters options) (is_initial h options.start acts) (writes_of acts))

-- the three parts together, where the acts are so many of the writes
pub listed_is_given : (h base end : ℕ) (writes : List (Bor Write)) (filters : List (List ℕ)) (options : Options) → base ≤ end → end ≤ length writes
    → events_where (λ w. is_initial h options.start (wrote_all (take base writes)) w && is_shown filters options w) (plain (take base writes))
    ++ map event_of (ending options.start)
    ++ events_where (is_shown filters options) (plain (drop base (take end writes)))
    ≡ map event_of (given h (take base (wrote_all writes)) (take end (wrote_all writes)) filters options)
listed_is_given h base end writes filters options l k =
    let began = wrote_all (take base writes) in
    let ended = wrote_all (take end writes) in
    let counts : length (writes_of began) ≡ base = ap length (writes_of_wrote (take base writes)) ∙ length-map (take base writes) (λ w. w.now) ∙ length-take base writes ∙ omega arith in
    let first : map event_of (all_shown options (matching filters (initial h options.start began))) ≡ events_where (λ w. is_initial h options.start began w && is_shown filters options w) (plain (take base writes)) =
    events_initial h options filters began ∙ ap (events_where (λ w. is_initial h options.start began w && is_shown filters options w)) (writes_of_wrote (take base writes)) in
    let behind : drop (length (writes_of began)) (writes_of ended) ≡ plain (drop base (take end writes)) =
    ap (λ n. drop n (writes_of ended)) counts ∙ ap (drop base) (writes_of_wrote (take end writes)) ∙ drop-map (λ w. w.now) base (take end writes) in
    let second : map event_of (all_shown options (matching filters (drop (length (writes_of began)) (writes_of ended)))) ≡ events_where (is_shown filters options) (plain (drop base (take end writes))) =
    events_shown options filters (drop (length (writes_of began)) (writes_of ended)) ∙ ap (events_where (is_shown filters options)) behind in
    sym (
    ap (map event_of) (ap (λ before. given h before (take end (wrote_all writes)) filters options) (take-map (λ w. Wrote w.now) base writes) ∙ ap (λ later. given h began later filters options) (take-map (λ w. Wrote w.now) end writes))
    ∙ map-append event_of (all_shown options (matching filters (initial h options.start began))) (ending options.start ++ all_shown options (matching filters (drop (length (writes_of began)) (writes_of ended))))
    ∙ ap (λ es. map event_of (all_shown options (matching filters (initial h options.start began))) ++ es) (map-append event_of (ending options.start) (all_shown options (matching filters (drop (length (writes_of began)) (writes_of ended)))))
    ∙ joined first second
    )
  where
    joined : {a b c d : List Event} → a ≡ b → c ≡ d → a ++ (map event_of (ending options.start) ++ c) ≡ b ++ map event_of (ending options.start) ++ d
    joined p q = rw (p, q, append_assoc) refl
