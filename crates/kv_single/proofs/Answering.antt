-- What a bucket that represents a state answers.
use Rattle.std.proofs.Common.{◌≡◌, ℕ, ◌+◌, ◌-◌, ◌<◌, ◌≤◌, nat_lt, Bool, true, false, ◌&&◌, not, cond, List, [], ◌∷◌, ◌++◌, Option, Some, None, Result, Ok, Err, OnErr, filter, length, refl, sym, ap, ◌∙◌, subst, arith, length-append}
use Rattle.std.specs.Prelude.{slice_set}
use Rattle.std.specs.List.{slice_get, position, position_or_len}
use Rattle.std.proofs.lemmas.Bool.{eqb-true, le-ltb, lt-ltb}
use Rattle.kv_keys.specs.declared.error.KvError.TheVariants.{NoSuchWatch}
use Rattle.kv_model.specs.Acceptance.{accept}
use Rattle.kv_model.specs.Acts.{Act, Wrote, Write, writes_of}
use Rattle.kv_model.specs.Configuration.{Configuration}
use Rattle.kv_model.specs.Requests.{Asked}
use Rattle.kv_store.specs.Standing.{StandsFor}
use Rattle.kv_model.proofs.Numbered.{accepted_is_next, writes_of-wrote}
use Rattle.kv_store.specs.Stored.{Stored}
use Rattle.kv_model.specs.declared.options.Options.{Options}
use Rattle.kv_watch.specs.Watching.{Watching, HasHanded, MovesOn, item_behind}
use Rattle.kv_model.specs.Given.{Item}
use Rattle.kv_model.specs.declared.call.Call.TheVariants as ask
use Rattle.kv_model.specs.Answers.{Revision, Watching as Opened, Ended, Refused, answer_item}
use Rattle.kv_single.specs.Held.{Holding, Bucketed, Follows, Represents, has_number, held_at}
use Rattle.kv_model.specs.State.{after_handed, State, Watch, watch_at, next_of, open_at, set_watch, opened, open_count, has_room, after_item, after_take, after_stop, after_write, answer_write, answer_take, answer_stop, after, answer_to}
use Rattle.kv_model.proofs.Finds.{find_at, find_none, find_some}
use Rattle.kv_single.proofs.Later.{later}
use Rattle.kv_single.proofs.Moving.{next_is, moves_on}
use Rattle.kv_model.proofs.Numbers.{at_get, open_is, set_get}
use Rattle.kv_single.proofs.Representing.{held_some, held_none, represents_act, represents_moved, represents_stopped, represents_watch}

-- no watch of the number is open
pub none_open : (state : State) (bucket : Bucketed) (i : ℕ) → Represents state bucket → position (has_number i) bucket.watches ≡ None → open_at i state ≡ None
none_open state bucket i r none = held_none state.acts bucket.version (held_at i bucket.watches) (open_at i state) (r.held i) (find_none (has_number i) bucket.watches none)

pub take_none : (state : State) (bucket : Bucketed) (i : ℕ) → position (has_number i) bucket.watches ≡ None → Represents state bucket → Refused NoSuchWatch ≡ answer_take state (open_at i state)
take_none state bucket i none r = sym (ap (answer_take state) (none_open state bucket i r none))

pub stop_none : (state : State) (bucket : Bucketed) (i : ℕ) → position (has_number i) bucket.watches ≡ None → Represents state bucket → (Refused NoSuchWatch ≡ answer_stop (open_at i state)) × Represents (after_stop i state (open_at i state)) bucket
stop_none state bucket i none r = rw (none_open state bucket i r none) (refl, r)

-- and nothing moves
pub pass_none : (state : State) (bucket : Bucketed) (i : ℕ) → position (has_number i) bucket.watches ≡ None → Represents state bucket → Represents (after_take i state (open_at i state)) bucket
pass_none state bucket i none r = rw (none_open state bucket i r none) r

-- what is found of a number
found : (bucket : Bucketed) (i place : ℕ) → position (has_number i) bucket.watches ≡ Some place → (position_or_len (has_number i) bucket.watches ≡ place) × (held_at i bucket.watches ≡ slice_get bucket.watches place)
found bucket i place at =
    let here = find_some (has_number i) bucket.watches place at in (here, find_at (has_number i) bucket.watches ∙ ap (slice_get bucket.watches) here)

found_number : (xs : List Holding) (i : ℕ) (held : Holding) → held_at i xs ≡ Some held → held.number ≡ i
found_number [] i held h = cc
found_number (x ∷ xs) i held h = by_test (found_number xs i held) (has_number i x) refl h
  where
    by_test : (held_at i xs ≡ Some held → held.number ≡ i) → (b : Bool) → has_number i x ≡ b → cond b (Some x) (held_at i xs) ≡ Some held → held.number ≡ i
    by_test rest true e g = let same : x ≡ held = cc in rw (sym same) (eqb-true x.number i e)
    by_test rest false e g = rest g

-- what stands at the place of a number, and the watch that it stands for
module _ (state : State) (bucket : Bucketed) (i place : ℕ) (held : Holding) (at : position (has_number i) bucket.watches ≡ Some place) (here : slice_get bucket.watches place ≡ Some held) (r : Represents state bucket) where
  where_is : (position_or_len (has_number i) bucket.watches ≡ place) × (held_at i bucket.watches ≡ slice_get bucket.watches place)
  where_is = found bucket i place at

  own : held.number ≡ i
  own = found_number bucket.watches i held (where_is.1 ∙ here)

  pub watch_of : (w : Watch) × (open_at i state ≡ Some w) × Follows state.acts bucket.version held w
  watch_of = held_some state.acts bucket.version (held_at i bucket.watches) (open_at i state) held (r.held i) (where_is.1 ∙ here)

  pub is_now : (watch_at i state.watches ≡ Some watch_of.0) × (watch_of.0.is_open ≡ true)
  is_now = open_is (watch_at i state.watches) watch_of.0 watch_of.1

  history : bucket.version.config.history ≡ state.config.history
  history = ap (λ (c : Configuration). c.history) r.config

  abbrev next : Option Item
  next = next_of bucket.version.config.history state.acts watch_of.0

  answer_next : answer_take state (open_at i state) ≡ answer_item next
  answer_next = ap (answer_take state) watch_of.1 ∙ ap (λ h. answer_item (next_of h state.acts watch_of.0)) (sym history)

  -- a peek
  pub peeked : (item : Option Item) → ((n : ℕ) (began acts : List Act) → HasHanded began acts n bucket.version held.watch → item ≡ item_behind began acts n held.watch) →
      answer_item item ≡ answer_take state (open_at i state)
  peeked item looks =
      let f = watch_of.2 in
      let is : item ≡ next = looks watch_of.0.handed watch_of.0.began state.acts f.place ∙ next_is state.acts bucket.version held watch_of.0 f in
      ap answer_item is ∙ sym answer_next

  -- a take
  set_same : set_watch i watch_of.0 state ≡ state
  set_same = ap (λ ws. record state { watches = ws }) (set_get state.watches (i - 1) watch_of.0 (at_get state.watches i watch_of.0 is_now.0))

  after_is : (item : Option Item) → set_watch i (after_handed watch_of.0 item) state ≡ after_item i state watch_of.0 item
  after_is None = set_same
  after_is (Some item) = refl

  still_open : (item : Option Item) → (after_handed watch_of.0 item).is_open ≡ true
  still_open None = is_now.1
  still_open (Some item) = is_now.1

  take_is : after_take i state (open_at i state) ≡ set_watch i (after_handed watch_of.0 next) state
  take_is = ap (after_take i state) watch_of.1 ∙ ap (λ h. after_item i state watch_of.0 (next_of h state.acts watch_of.0)) (sym history) ∙ sym (after_is next)

  -- what is held behind it represents the state behind it
  pub moved_on : (new : Watching) → MovesOn bucket.version held.watch new →
      Represents (after_take i state (open_at i state)) (record bucket { watches = slice_set bucket.watches place (record held { watch = new }) })
  moved_on new moves =
      let there : Holding = record held { watch = new } in
      let follows = moves_on bucket.version held new moves state.acts watch_of.0 watch_of.2 in
      let all = represents_moved state bucket i held there watch_of.0 (after_handed watch_of.0 next) r (ap (slice_get bucket.watches) where_is.0 ∙ here) own own watch_of.1 (still_open next) follows in
      subst (λ (s : State). Represents s (record bucket { watches = slice_set bucket.watches place there })) (sym take_is)
      (subst (λ p. Represents (set_watch i (after_handed watch_of.0 next) state) (record bucket { watches = slice_set bucket.watches p there })) where_is.0 all)

  -- a stop
  pub stop_some : (Ended held.watch.cursor.handed ≡ answer_stop (open_at i state)) × Represents (after_stop i state (open_at i state)) (record bucket { watches = filter (λ held. not (has_number i held)) bucket.watches })
  stop_some = rw (watch_of.1) (ap Ended watch_of.2.place.place.handed, represents_stopped state bucket i watch_of.0 r watch_of.1)

-- a watch that was opened on the present version
pub opened_follows : (state : State) (bucket : Bucketed) (filters : List (List ℕ)) (options : Options) (watch : Watching) → Represents state bucket → watch.cursor.filters ≡ filters → watch.cursor.options ≡ options →
    ((acts : List Act) → StandsFor acts bucket.version → HasHanded acts acts 0 bucket.version watch) →
    Follows state.acts bucket.version (record { number = bucket.opened + 1; watch = watch }) (opened filters options state)
opened_follows state bucket filters options watch r fs os place = record { filters = fs; options = os; place = place state.acts r.version }

pub watch_done : (state : State) (bucket : Bucketed) (filters : List (List ℕ)) (options : Options) (held : Holding) → Represents state bucket → has_room state ≡ true → held.number ≡ bucket.opened + 1 →
    Follows state.acts bucket.version held (opened filters options state) →
    (Opened held.number ≡ answer_to state (ask.Watch filters options)) × Represents (after state (ask.Watch filters options)) (record bucket { watches = bucket.watches ++ held ∷ []; opened = bucket.opened + 1 })
watch_done state bucket filters options held r room number follows =
    let given : held.number ≡ length state.watches + 1 = omega (arith, number, r.opened) in
    rw room (ap Opened given, represents_watch state bucket (opened filters options state) held r given refl follows)

-- whether there is room for one watch more
pub room_is : (state : State) (bucket : Bucketed) → Represents state bucket → length bucket.watches < 64 → nat_lt bucket.opened 4294967295 ≡ has_room state
room_is state bucket r l =
    let few : nat_lt (open_count state.watches) 64 ≡ true = lt-ltb (open_count state.watches) 64 (omega (arith, l, r.open_count)) in
    ap (λ n. nat_lt n 4294967295) r.opened ∙ sym (ap (λ b. b && nat_lt (length state.watches) 4294967295) few)

pub no_room_is : (state : State) (bucket : Bucketed) (n : ℕ) → Represents state bucket → n ≡ length bucket.watches → 64 ≤ n → nat_lt n 64 ≡ has_room state
no_room_is state bucket n r is l =
    let many : nat_lt (open_count state.watches) 64 ≡ false = le-ltb (open_count state.watches) 64 (omega (arith, is, l, r.open_count)) in
    le-ltb n 64 l ∙ sym (ap (λ b. b && nat_lt (length state.watches) 4294967295) many)

-- what holds of an error
pub on_err : {T E P : Type 0} (result : Result T E) → P → OnErr result P
on_err (Ok value) p = tt
on_err (Err error) p = p

-- a write that was accepted
pub write_done : (state : State) (bucket : Bucketed) (request : Asked) (version : Stored) (revision : ℕ) → Represents state bucket → version.config ≡ bucket.version.config →
    ((acts : List Act) → StandsFor acts bucket.version → (w : Write) × ((accept bucket.version.config request acts ≡ Ok w) × StandsFor (acts ++ Wrote w ∷ []) version)) →
    revision ≡ version.last →
    (Revision revision ≡ answer_write (accept state.config request state.acts)) × Represents (after_write state (accept state.config request state.acts)) (record bucket { version = version })
write_done state bucket request version revision r same ok last =
    let wrote = ok state.acts r.version in
    let w = wrote.0 in
    let is : accept state.config request state.acts ≡ Ok w = ap (λ (c : Configuration). accept c request state.acts) (sym r.config) ∙ wrote.1.0 in
    let number : w.revision ≡ length (writes_of state.acts) + 1 = ap (λ (v : Write). v.revision) (sym (accepted_is_next state.config request state.acts w is)) in
    let total : length (writes_of (state.acts ++ Wrote w ∷ [])) ≡ length (writes_of state.acts) + 1 = ap length (writes_of-wrote state.acts w) ∙ length-append (writes_of state.acts) (w ∷ []) in
    let answer : revision ≡ w.revision = last ∙ wrote.1.1.last ∙ total ∙ sym number in
    rw is (ap Revision answer, represents_act later state bucket (Wrote w) version refl r same wrote.1.1)
