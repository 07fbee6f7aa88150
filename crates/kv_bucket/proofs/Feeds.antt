-- What a feed keeps when it goes on.
use Rattle.std.proofs.Common.{◌≡◌, ℕ, ◌+◌, ◌≤◌, ◌<◌, ◌⊎◌, ⊎_elim, Bool, true, false, ◌||◌, nat_lt, List, Option, Some, None, Result, Ok, Err, inl, inr, length, get_or, refl, ap, sym, subst, ◌∙◌, arith}
use Rattle.std.specs.List.{slice_get}
use Rattle.std.specs.Prelude.{IfOk, IfErr, MatchResult}
use Rattle.std.specs.Option.{option_len}
use Rattle.std.proofs.lemmas.Option.{slice_get_past, slice_get_cases}
use Rattle.kv_model.specs.Acceptance.{IsLawful}
use Rattle.kv_model.specs.Acts.{Act, IsPrefix, floor_of, writes_of}
use Rattle.kv_model.specs.Configuration.{Configuration}
use Rattle.kv_store.specs.Standing.{StandsFor}
use Rattle.kv_store.specs.Stored.{Stored}
use Rattle.std.proofs.lemmas.Bool.{lt-ltb, ltb-false}
use Rattle.kv_single.proofs.Least.{not_less}
use Rattle.kv_model.specs.declared.options.Options.{Options}
use Rattle.kv_model.specs.Given.{Item, given, is_behind}
use Rattle.kv_watch.specs.Following.{Following}
use Rattle.kv_watch.specs.Watching.{Watching, HasHanded, MovesOn, all_given, item_behind}
use Rattle.kv_watch.proofs.Reaching.{in_reach_later}
use Rattle.kv_keys.specs.declared.error.KvError.{KvError}
use Rattle.kv_keys.specs.declared.error.KvError.TheVariants.{Lagged}
use Rattle.kv_bucket.specs.inside.Fed.{IsFed, TellsLag, TellsLagOf, IsNotCopied, IsNotShown, acts_on, feed_state_of}
use Rattle.kv_bucket.specs.FeedState.{FeedState, HasSeenMore, IsRefreshed, given_by, lags, next_of, after_item}
use Rattle.kv_bucket.specs.ReaderState.{ReaderState}
use Rattle.kv_publish.specs.Publications.{Published}
use Rattle.kv_publish.proofs.Prefixes.{prefix_self, prefix_trans}

-- a feed that goes on to what its reader has seen by now
pub fed_later : (config : Configuration) (before after : ReaderState) (began : List Act) (now next : Published) (watch : Watching) → IsFed config before began now watch → HasSeenMore before after
    → acts_on next ≡ after.seen → next.version.config ≡ config → StandsFor after.seen next.version
    → lags next.version.floor (feed_state_of before began now watch.cursor) ≡ false → IsFed config after began next watch
fed_later config before after began now next watch fed more seen same stands ahead =
    let cursor = watch.cursor in
    let config_now : now.version.config ≡ config = fed.reach.place.same_config ∙ fed.same_config in
    let parts = neither (nat_lt (length (writes_of (acts_on now))) next.version.floor) (is_behind next.version.floor cursor.handed before.config.history began (acts_on now) cursor.filters cursor.options) ahead in
    let later = in_reach_later cursor.handed began (acts_on now) after.seen watch.opening now.version next.version cursor fed.reach.place stands (same ∙ sym config_now)
    (prefix_trans (acts_on now) before.seen after.seen fed.seen more.0)
    (ltb-false (length (writes_of (acts_on now))) next.version.floor parts.0)
    (ap (λ (c : Configuration). is_behind next.version.floor cursor.handed c.history began (acts_on now) cursor.filters cursor.options) (fed.same_config ∙ sym fed.of) ∙ parts.1) in record {
      same_config = fed.same_config;
      of = more.2 ∙ fed.of;
      seen = subst (λ (acts : List Act). IsPrefix acts after.seen) (sym seen) (prefix_self after.seen);
      reach = subst (λ (acts : List Act). HasHanded began acts cursor.handed next.version watch) (sym seen) later;
    }
  where
    neither : (a b : Bool) → (a || b) ≡ false → (a ≡ false) × (b ≡ false)
    neither true b e = cc
    neither false b e = (refl, e)

-- a feed whose reader has seen more
pub fed_seen : (config : Configuration) (before after : ReaderState) (began : List Act) (now : Published) (watch : Watching) → IsFed config before began now watch → HasSeenMore before after → IsFed config after began now watch
fed_seen config before after began now watch fed more = record {
  same_config = fed.same_config;
  of = more.2 ∙ fed.of;
  seen = prefix_trans (acts_on now) before.seen after.seen fed.seen more.0;
  reach = fed.reach;
}

-- whether a feed lags, by the last revision of its version and by what its cursor tells
pub lags_far : (floor : ℕ) (feed : FeedState) → length (writes_of feed.acts) < floor → true ≡ lags floor feed
lags_far floor feed l = sym (ap (λ b. b || is_behind floor feed.handed feed.reader.config.history feed.began feed.acts feed.filters feed.options) (lt-ltb (length (writes_of feed.acts)) floor l))

pub lags_near : (floor : ℕ) (feed : FeedState) (behind : Bool) → floor ≤ length (writes_of feed.acts) → behind ≡ is_behind floor feed.handed feed.reader.config.history feed.began feed.acts feed.filters feed.options → behind ≡ lags floor feed
lags_near floor feed behind l e =
    let within : nat_lt (length (writes_of feed.acts)) floor ≡ false = not_less (length (writes_of feed.acts)) floor l in
    e ∙ sym (ap (λ b. b || is_behind floor feed.handed feed.reader.config.history feed.began feed.acts feed.filters feed.options) within)

pub refreshed : (before after : ReaderState) (began : List Act) (now next : Published) (cursor : Following) → HasSeenMore before after → IsPrefix (acts_on now) before.seen → acts_on next ≡ after.seen
    → IsPrefix before.told after.seen → IsRefreshed (feed_state_of before began now cursor) (feed_state_of after began next cursor)
refreshed before after began now next cursor more low seen told = record {
  reader = more;
  grows = subst (IsPrefix (acts_on now)) (sym seen) (prefix_trans (acts_on now) before.seen after.seen low more.0);
  told = subst (IsPrefix before.told) (sym seen) told;
  same = ap (λ (acts : List Act). let f : FeedState = record { reader = after; began = began; acts = acts; filters = cursor.filters; options = cursor.options; handed = cursor.handed } in f) seen;
}

-- what a feed went on to is lawful
pub lawful_fed : (config : Configuration) (reader : ReaderState) (began : List Act) (now : Published) (watch : Watching) → IsFed config reader began now watch → IsLawful reader.config (acts_on now)
lawful_fed config reader began now watch fed =
    let same : now.version.config ≡ reader.config = fed.reach.place.same_config ∙ (fed.same_config ∙ sym fed.of) in
    subst (λ (c : Configuration). IsLawful c (acts_on now)) same fed.reach.place.now_stands.lawful

-- there is no next item exactly where as many were handed out as there are
differ : (x : Item) → Some x ≡ None → ⊥
differ x e = cc

ends_at : (xs : List Item) (n : ℕ) → n ≤ length xs → slice_get xs n ≡ None → ((x : Item) × (n < length xs) × (slice_get xs n ≡ Some x) × (get_or xs n x ≡ x)) ⊎ ((length xs ≤ n) × (slice_get xs n ≡ None)) → n ≡ length xs
ends_at xs n within none cases =
    let there : ((x : Item) × (n < length xs) × (slice_get xs n ≡ Some x) × (get_or xs n x ≡ x)) → n ≡ length xs = λ t. absurd (differ t.0 (sym t.2 ∙ none)) in
    let past : ((length xs ≤ n) × (slice_get xs n ≡ None)) → n ≡ length xs = λ p. omega (arith, p.0) in ⊎_elim there past cases

pub ends : (xs : List Item) (n : ℕ) → n ≤ length xs → (slice_get xs n ≡ None → n ≡ length xs) × (n ≡ length xs → slice_get xs n ≡ None)
ends xs n within = (λ none. ends_at xs n within none (slice_get_cases xs n).1, λ all. slice_get_past xs n (omega arith))

counted : (feed : FeedState) (n : ℕ) (item : Option Item) → n ≡ feed.handed + option_len item → record feed { handed = n } ≡ after_item feed item
counted feed n None e =
    let same : n ≡ feed.handed = omega arith in ap (λ (k : ℕ). let f : FeedState = record feed { handed = k } in f) same
counted feed n (Some item) e = ap (λ (k : ℕ). let f : FeedState = record feed { handed = k } in f) e

-- the watch and the feed are given the same
same_given : (config : Configuration) (reader : ReaderState) (began : List Act) (now : Published) (watch : Watching) → IsFed config reader began now watch
    → all_given began (acts_on now) watch ≡ given_by (feed_state_of reader began now watch.cursor)
same_given config reader began now watch fed = ap (λ (c : Configuration). given c.history began (acts_on now) watch.cursor.filters watch.cursor.options) (fed.same_config ∙ sym fed.of)

-- and have the same next item; there is none exactly where all was handed out
pub shows : (config : Configuration) (reader : ReaderState) (began : List Act) (now : Published) (watch : Watching) → IsFed config reader began now watch
    → (item_behind began (acts_on now) watch.cursor.handed watch ≡ next_of (feed_state_of reader began now watch.cursor))
    × ((next_of (feed_state_of reader began now watch.cursor) ≡ None → watch.cursor.handed ≡ length (given_by (feed_state_of reader began now watch.cursor)))
    × (watch.cursor.handed ≡ length (given_by (feed_state_of reader began now watch.cursor)) → next_of (feed_state_of reader began now watch.cursor) ≡ None))
shows config reader began now watch fed =
    let same = same_given config reader began now watch fed in
    let within : watch.cursor.handed ≤ length (given_by (feed_state_of reader began now watch.cursor)) = subst (λ (xs : List Item). watch.cursor.handed ≤ length xs) same fed.reach.place.taken in
    (ap (λ (xs : List Item). slice_get xs watch.cursor.handed) same, ends (given_by (feed_state_of reader began now watch.cursor)) watch.cursor.handed within)

-- its watch moved on behind the next item, and so did the feed
pub moved : (config : Configuration) (reader : ReaderState) (began : List Act) (now : Published) (old new : Watching) (version : Stored) → IsFed config reader began now old → version ≡ now.version → MovesOn version old new
    → IsFed config reader began now new × (feed_state_of reader began now new.cursor ≡ after_item (feed_state_of reader began now old.cursor) (next_of (feed_state_of reader began now old.cursor)))
moved config reader began now old new version fed same moves =
    let acts = acts_on now in
    let n = old.cursor.handed in
    let feed = feed_state_of reader began now old.cursor in
    let item = next_of feed in
    let at : HasHanded began acts n version old = subst (λ (v : Stored). HasHanded began acts n v old) (sym same) fed.reach in
    let there : item_behind began acts n old ≡ item = (shows config reader began now old fed).0 in
    let further : HasHanded began acts (n + option_len item) now.version new =
    subst (λ (v : Stored). HasHanded began acts (n + option_len item) v new) same (subst (λ (i : Option Item). HasHanded began acts (n + option_len i) version new) there (moves.moves n began acts at)) in
    let counts : new.cursor.handed ≡ n + option_len item = further.place.handed in
    let reach : HasHanded began acts new.cursor.handed now.version new = subst (λ (k : ℕ). HasHanded began acts k now.version new) (sym counts) further in
    let changed : feed_state_of reader began now new.cursor ≡ record feed { handed = new.cursor.handed } =
    ap (λ (fs : List (List ℕ)). let f : FeedState = record { reader = reader; began = began; acts = acts; filters = fs; options = new.cursor.options; handed = new.cursor.handed } in f) moves.filters
    ∙ ap (λ (o : Options). let f : FeedState = record { reader = reader; began = began; acts = acts; filters = old.cursor.filters; options = o; handed = new.cursor.handed } in f) moves.options in (
      record { same_config = ap (λ (v : Stored). v.config) moves.opening ∙ fed.same_config; of = fed.of; seen = fed.seen; reach = reach },
      changed ∙ counted feed new.cursor.handed item counts,
    )

-- ---- what is handed over to a feed

pub at_floor : (follower : Option (Published × Watching)) (current : Published) (watch : Watching) (acts : List Act) (floor : ℕ) (behind answer : Bool) → follower ≡ Some (current, watch) → floor ≡ floor_of acts → behind ≡ answer
    → TellsLag current watch floor behind → TellsLagOf follower (floor_of acts) answer
at_floor follower current watch acts floor behind answer some same is tells =
    subst (λ (f : Option (Published × Watching)). TellsLagOf f (floor_of acts) answer) (sym some)
    (subst (λ (n : ℕ). TellsLag current watch n answer) same (subst (λ (b : Bool). TellsLag current watch floor b) is tells))

pub none_behind : (follower : Option (Published × Watching)) (floor : ℕ) → follower ≡ None → TellsLagOf follower floor false
none_behind follower floor none = subst (λ (f : Option (Published × Watching)). TellsLagOf f floor false) (sym none) refl

pub told_behind : (follower : Option (Published × Watching)) (acts : List Act) (floor : ℕ) → floor ≡ floor_of acts → TellsLagOf follower (floor_of acts) true → IsNotCopied follower acts (Lagged floor)
told_behind follower acts floor same tells = inl (ap Lagged same, tells)

-- where it was let enter, and what it entered on was not handed over
pub entered_in_vain : {T : Type 0} (r : Result T KvError) (follower : Option (Published × Watching)) (acts : List Act) → IfErr r (IsNotCopied follower acts) → IfErr r (IsNotShown follower acts)
entered_in_vain (Ok x) follower acts h = tt
entered_in_vain (Err e) follower acts h = inr h

pub where_ok : {T E : Type 0} (r : Result T E) (P P' : T → Type 0) (Q : E → Type 0) → ((x : T) → P x → P' x) → MatchResult r P Q → IfOk r P'
where_ok (Ok x) P P' Q f h = f x h
where_ok (Err e) P P' Q f h = tt

pub whatever_is_ok : {T E : Type 0} (r : Result T E) (P : Type 0) → P → IfOk r (λ _. P)
whatever_is_ok (Ok x) P p = p
whatever_is_ok (Err e) P p = tt
