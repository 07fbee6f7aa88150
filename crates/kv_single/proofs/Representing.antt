-- What each step keeps of a bucket that represents a state.
use Rattle.std.proofs.Common.{◌≡◌, ℕ, ◌+◌, ◌-◌, ◌≤◌, ⊎_elim, Bool, true, false, not, cond, eqb, List, [], ◌∷◌, ◌++◌, Option, Some, None, length, filter, refl, sym, ap, ◌∙◌, subst, arith, length-append, length-set}
use Rattle.std.specs.Prelude.{slice_set}
use Rattle.std.specs.List.{slice_get, position_or_len}
use Rattle.std.specs.Option.{option_len, option_and_then}
use Rattle.std.proofs.lemmas.Bool.Decides.{eqb_tells}
use Rattle.std.proofs.lemmas.Bool.{ne_eqb, eq-eqb, eqb-true}
use Rattle.kv_model.specs.Acts.{Act, Wrote, Seal, Compact, IsPrefix, writes_of, floor_of, is_compaction}
use Rattle.kv_model.specs.Configuration.{Configuration}
use Rattle.kv_model.specs.Given.{is_behind}
use Rattle.kv_model.specs.declared.options.Options.{Options}
use Rattle.kv_model.proofs.Storing.{floor_of-wrote, floor_of-seal, floor_within}
use Rattle.kv_store.specs.Standing.{StandsFor}
use Rattle.kv_store.specs.Stored.{Stored}
use Rattle.kv_watch.specs.Following.{Following, InReach}
use Rattle.kv_single.specs.Held.{Holding, Bucketed, Follows, IsHeld, Represents, has_number, held_at}
use Rattle.kv_model.specs.State.{State, Watch, watch_at, add_act, add_watch, set_watch, stopped, if_open, open_at}
use Rattle.kv_model.proofs.Finds.{find_set, find_set_other, count_set, count_fewer, find_push, find_push_other, count_push, find_filter, find_none_left, filter_filter_same, filter_filter_none, length_parts}
use Rattle.kv_model.proofs.Numbers.{at_set_same, at_set_other, at_push_here, at_push_other, at_past, at_get, open_is}

-- what is held goes on for a later version, where it is not behind its floor
abbrev pub GoesOnLater : Type 0
GoesOnLater = (began acts later : List Act) (n : ℕ) (base version newer : Stored) (cursor : Following) → InReach began acts n base version cursor → StandsFor later newer → IsPrefix acts later → newer.config ≡ version.config
    → newer.floor ≤ length (writes_of acts) → is_behind newer.floor n base.config.history began acts cursor.filters cursor.options ≡ false → InReach began later n base newer cursor

-- whether an open watch is behind a floor, by what is held of it and by itself
pub behind_same : (floor h : ℕ) (acts : List Act) (version : Stored) (held : Holding) (watch : Watch) → version.config.history ≡ h → Follows acts version held watch
    → is_behind floor watch.handed held.watch.opening.config.history watch.began acts held.watch.cursor.filters held.watch.cursor.options ≡ is_behind floor watch.handed h watch.began acts watch.filters watch.options
behind_same floor h acts version held watch e f =
    ap (λ (fs : List (List ℕ)). is_behind floor watch.handed held.watch.opening.config.history watch.began acts fs held.watch.cursor.options) f.filters
    ∙ ap (λ (o : Options). is_behind floor watch.handed held.watch.opening.config.history watch.began acts watch.filters o) f.options
    ∙ ap (λ (k : ℕ). is_behind floor watch.handed k watch.began acts watch.filters watch.options) (ap (λ (c : Configuration). c.history) (sym f.place.place.same_config) ∙ e)

pub held_later : GoesOnLater → (h : ℕ) (acts later : List Act) (version newer : Stored) (held : Option Holding) (watch : Option Watch) → version.config.history ≡ h → StandsFor later newer → IsPrefix acts later → newer.config ≡ version.config
    → newer.floor ≤ length (writes_of acts) → ((w : Watch) → watch ≡ Some w → is_behind newer.floor w.handed h w.began acts w.filters w.options ≡ false) → IsHeld acts version held watch → IsHeld later newer held watch
held_later on h acts later version newer None None e stands p same low ahead is = tt
held_later on h acts later version newer (Some held) None e stands p same low ahead is = is
held_later on h acts later version newer None (Some watch) e stands p same low ahead is = is
held_later on h acts later version newer (Some held) (Some watch) e stands p same low ahead is = record {
  filters = is.filters;
  options = is.options;
  place = on watch.began acts later watch.handed held.watch.opening version newer held.watch.cursor is.place stands p same low (behind_same newer.floor h acts version held watch e is ∙ ahead watch refl);
}

-- one act more, where no open watch is behind the floor
pub represents_later : GoesOnLater → (state : State) (bucket : Bucketed) (act : Act) (version : Stored) → Represents state bucket → version.config ≡ bucket.version.config → StandsFor (state.acts ++ act ∷ []) version
    → version.floor ≤ length (writes_of state.acts) → ((number : ℕ) (w : Watch) → open_at number state ≡ Some w → is_behind version.floor w.handed state.config.history w.began state.acts w.filters w.options ≡ false)
    → Represents (add_act act state) (record bucket { version = version })
represents_later on state bucket act version r same stands low ahead = record {
  config = same ∙ r.config;
  version = stands;
  opened = r.opened;
  held = λ n. held_later on state.config.history state.acts (state.acts ++ act ∷ []) bucket.version version (held_at n bucket.watches) (open_at n state) (ap (λ (c : Configuration). c.history) r.config) stands (act ∷ [], refl) same low (ahead n) (r.held n);
  once = r.once;
  open_count = r.open_count;
}

-- no open watch is behind the floor
ahead_held : (h : ℕ) (acts : List Act) (version : Stored) (held : Option Holding) (watch : Option Watch) → version.config.history ≡ h → IsHeld acts version held watch
    → (w : Watch) → watch ≡ Some w → is_behind version.floor w.handed h w.began acts w.filters w.options ≡ false
ahead_held h acts version None None e is w f = cc
ahead_held h acts version (Some held) None e is w f = absurd is
ahead_held h acts version None (Some watch) e is w f = absurd is
ahead_held h acts version (Some held) (Some watch) e is w f =
    let same : watch ≡ w = cc in
    let follows = subst (λ v. Follows acts version held v) same is in
    sym (behind_same version.floor h acts version held w e follows) ∙ follows.place.ahead

pub none_behind_floor : (state : State) (bucket : Bucketed) → Represents state bucket → (number : ℕ) (w : Watch) → open_at number state ≡ Some w → is_behind bucket.version.floor w.handed state.config.history w.began state.acts w.filters w.options ≡ false
none_behind_floor state bucket r number w is =
    ahead_held state.config.history state.acts bucket.version (held_at number bucket.watches) (open_at number state) (ap (λ (c : Configuration). c.history) r.config) (r.held number) w is

-- one act more that is no compaction
pub represents_act : GoesOnLater → (state : State) (bucket : Bucketed) (act : Act) (version : Stored) → is_compaction act ≡ false → Represents state bucket → version.config ≡ bucket.version.config → StandsFor (state.acts ++ act ∷ []) version → Represents (add_act act state) (record bucket { version = version })
represents_act on state bucket act version plain r same stands =
    let floor : version.floor ≡ bucket.version.floor = stands.floor ∙ floor_stays state.acts act plain ∙ sym r.version.floor in
    represents_later on state bucket act version r same stands
    (omega (arith, floor, r.version.floor, floor_within bucket.version.config state.acts r.version.lawful))
    (λ number w is. ap (λ f. is_behind f w.handed state.config.history w.began state.acts w.filters w.options) floor ∙ none_behind_floor state bucket r number w is)
  where
    floor_stays : (acts : List Act) (a : Act) → is_compaction a ≡ false → floor_of (acts ++ a ∷ []) ≡ floor_of acts
    floor_stays acts (Wrote w) e = floor_of-wrote acts w
    floor_stays acts Seal e = floor_of-seal acts
    floor_stays acts (Compact floor) e = cc

-- what is held where a watch is open, and where none is
pub held_some : (acts : List Act) (version : Stored) (held : Option Holding) (watch : Option Watch) (x : Holding) → IsHeld acts version held watch → held ≡ Some x → (w : Watch) × (watch ≡ Some w) × Follows acts version x w
held_some acts version None watch x is e = cc
held_some acts version (Some y) None x is e = absurd is
held_some acts version (Some y) (Some w) x is e = let same : y ≡ x = cc in (w, refl, subst (λ z. Follows acts version z w) same is)

pub held_none : (acts : List Act) (version : Stored) (held : Option Holding) (watch : Option Watch) → IsHeld acts version held watch → held ≡ None → watch ≡ None
held_none acts version None None is e = refl
held_none acts version None (Some w) is e = absurd is
held_none acts version (Some y) watch is e = cc

none_held : (acts : List Act) (version : Stored) (held : Option Holding) (watch : Option Watch) → IsHeld acts version held watch → watch ≡ None → held ≡ None
none_held acts version None watch is e = refl
none_held acts version (Some y) None is e = absurd is
none_held acts version (Some y) (Some w) is e = cc

-- whether a number is that of what is held
other_number : (held : Holding) (n m : ℕ) → held.number ≡ m → (n ≡ m → ⊥) → has_number n held ≡ false
other_number held n m e ne = ne_eqb held.number n (λ f. ne (sym f ∙ e))

own_number : (held : Holding) (n : ℕ) → held.number ≡ n → has_number n held ≡ true
own_number held n e = eq-eqb held.number n e

-- one watch more
module _ (state : State) (bucket : Bucketed) (new : Watch) (held : Holding) (r : Represents state bucket) (number : held.number ≡ length state.watches + 1) (opens : new.is_open ≡ true) (follows : Follows state.acts bucket.version held new) where
  abbrev grown : State
  grown = add_watch new state

  abbrev more : List Holding
  more = bucket.watches ++ held ∷ []

  none_yet : open_at (length state.watches + 1) state ≡ None
  none_yet = ap (option_and_then if_open) (at_past state.watches)

  new_open : open_at (length state.watches + 1) grown ≡ Some new
  new_open = ap (option_and_then if_open) (at_push_here state.watches new) ∙ ap (λ b. cond b (Some new) None) opens

  other_open : (n : ℕ) → (n ≡ length state.watches + 1 → ⊥) → open_at n grown ≡ open_at n state
  other_open n ne = ap (option_and_then if_open) (at_push_other state.watches n new ne)

  abbrev Both : ℕ → Type 0
  Both n = IsHeld state.acts bucket.version (held_at n more) (open_at n grown) × (length (filter (has_number n) more) ≡ option_len (open_at n grown))

  here : Both (length state.watches + 1)
  here =
      let n = length state.watches + 1 in
      let was : held_at n bucket.watches ≡ None = none_held state.acts bucket.version (held_at n bucket.watches) (open_at n state) (r.held n) none_yet in
      let own = own_number held n number in
      let count : length (filter (has_number n) bucket.watches) ≡ 0 = r.once n ∙ ap option_len none_yet in
      let last : length (filter (has_number n) (held ∷ [])) ≡ 1 = rw own refl in (
        rw (find_push (has_number n) bucket.watches held was own, new_open) follows,
        rw new_open (count_push (has_number n) bucket.watches held ∙ omega (arith, count, last)),
      )

  elsewhere : (n : ℕ) → (n ≡ length state.watches + 1 → ⊥) → Both n
  elsewhere n ne =
      let other = other_number held n (length state.watches + 1) number ne in
      let last : length (filter (has_number n) (held ∷ [])) ≡ 0 = rw other refl in (
        rw (find_push_other (has_number n) bucket.watches held other, other_open n ne) (r.held n),
        rw (other_open n ne) (omega (arith, count_push (has_number n) bucket.watches held, last, r.once n)),
      )

  both : (n : ℕ) → Both n
  both n = ⊎_elim (λ (e : (eqb n (length state.watches + 1) ≡ true) × (n ≡ length state.watches + 1)). subst Both (sym e.1) here) (λ (e : (eqb n (length state.watches + 1) ≡ false) × (n ≡ length state.watches + 1 → ⊥)). elsewhere n e.1) (eqb_tells n (length state.watches + 1))

  new_count : length (filter (λ (w : Watch). w.is_open) (new ∷ [])) ≡ 1
  new_count = ap (λ b. length (cond b (new ∷ []) [])) opens

  pub represents_watch : Represents grown (record bucket { watches = more; opened = bucket.opened + 1 })
  represents_watch = record {
    config = r.config;
    version = r.version;
    opened = omega (arith, r.opened, length-append state.watches (new ∷ []));
    held = λ n. (both n).0;
    once = λ n. (both n).1;
    open_count = omega (arith, r.open_count, length-append bucket.watches (held ∷ []), count_push (λ (w : Watch). w.is_open) state.watches new, new_count);
  }

-- one watch that is open moved on
module _ (state : State) (bucket : Bucketed) (i : ℕ) (was now : Holding) (w v : Watch) (r : Represents state bucket)
    (stands : slice_get bucket.watches (position_or_len (has_number i) bucket.watches) ≡ Some was) (was_number : was.number ≡ i) (number : now.number ≡ i) (is : open_at i state ≡ Some w) (opens : v.is_open ≡ true)
    (follows : Follows state.acts bucket.version now v) where
  abbrev moved : State
  moved = set_watch i v state

  abbrev place : ℕ
  place = position_or_len (has_number i) bucket.watches

  abbrev changed : List Holding
  changed = slice_set bucket.watches place now

  at_i : (watch_at i state.watches ≡ Some w) × (w.is_open ≡ true)
  at_i = open_is (watch_at i state.watches) w is

  same_open : open_at i moved ≡ Some v
  same_open = ap (option_and_then if_open) (at_set_same state.watches i w v at_i.0) ∙ ap (λ b. cond b (Some v) None) opens

  other_still : (n : ℕ) → (n ≡ i → ⊥) → open_at n moved ≡ open_at n state
  other_still n ne = ap (option_and_then if_open) (at_set_other state.watches n i w v at_i.0 ne)

  same_test : (n : ℕ) → has_number n now ≡ has_number n was
  same_test n = ap (λ m. eqb m n) (number ∙ sym was_number)

  abbrev Moved : ℕ → Type 0
  Moved n = IsHeld state.acts bucket.version (held_at n changed) (open_at n moved) × (length (filter (has_number n) changed) ≡ option_len (open_at n moved))

  moved_here : Moved i
  moved_here = (
    rw (find_set (has_number i) bucket.watches was now stands (own_number now i number), same_open) follows,
    rw same_open (count_set (has_number i) bucket.watches place was now stands (same_test i) ∙ r.once i ∙ ap option_len is),
  )

  moved_elsewhere : (n : ℕ) → (n ≡ i → ⊥) → Moved n
  moved_elsewhere n ne = (
    rw (find_set_other (has_number n) bucket.watches place was now stands (other_number was n i was_number ne) (other_number now n i number ne), other_still n ne) (r.held n),
    rw (other_still n ne) (count_set (has_number n) bucket.watches place was now stands (same_test n) ∙ r.once n),
  )

  moved_all : (n : ℕ) → Moved n
  moved_all n = ⊎_elim (λ (e : (eqb n i ≡ true) × (n ≡ i)). subst Moved (sym e.1) moved_here) (λ (e : (eqb n i ≡ false) × (n ≡ i → ⊥)). moved_elsewhere n e.1) (eqb_tells n i)

  pub represents_moved : Represents moved (record bucket { watches = changed })
  represents_moved = record {
    config = r.config;
    version = r.version;
    opened = r.opened ∙ sym (length-set state.watches (i - 1) v);
    held = λ n. (moved_all n).0;
    once = λ n. (moved_all n).1;
    open_count = length-set bucket.watches place now ∙ r.open_count ∙ sym (count_set (λ (u : Watch). u.is_open) state.watches (i - 1) w v (at_get state.watches i w at_i.0) (opens ∙ sym at_i.1));
  }

-- one watch that is open stopped
module _ (state : State) (bucket : Bucketed) (i : ℕ) (w : Watch) (r : Represents state bucket) (is : open_at i state ≡ Some w) where
  abbrev ended : State
  ended = set_watch i (stopped w) state

  abbrev kept_watches : List Holding
  kept_watches = filter (λ held. not (has_number i held)) bucket.watches

  at_it : (watch_at i state.watches ≡ Some w) × (w.is_open ≡ true)
  at_it = open_is (watch_at i state.watches) w is

  none_now : open_at i ended ≡ None
  none_now = ap (option_and_then if_open) (at_set_same state.watches i w (stopped w) at_it.0)

  other_now : (n : ℕ) → (n ≡ i → ⊥) → open_at n ended ≡ open_at n state
  other_now n ne = ap (option_and_then if_open) (at_set_other state.watches n i w (stopped w) at_it.0 ne)

  own_goes : (held : Holding) → not (has_number i held) ≡ true → has_number i held ≡ false
  own_goes held e = by_test (has_number i held) e
    where
      by_test : (b : Bool) → not b ≡ true → b ≡ false
      by_test true e = cc
      by_test false e = refl

  other_stays : (n : ℕ) → (n ≡ i → ⊥) → (held : Holding) → has_number n held ≡ true → not (has_number i held) ≡ true
  other_stays n ne held e = rw (other_number held i n (eqb-true held.number n e) (λ f. ne (sym f))) refl

  abbrev Ended : ℕ → Type 0
  Ended n = IsHeld state.acts bucket.version (held_at n kept_watches) (open_at n ended) × (length (filter (has_number n) kept_watches) ≡ option_len (open_at n ended))

  ended_here : Ended i
  ended_here = (
    rw (find_none_left (has_number i) (λ held. not (has_number i held)) bucket.watches own_goes, none_now) tt,
    rw (filter_filter_none (has_number i) (λ held. not (has_number i held)) bucket.watches own_goes, none_now) refl,
  )

  ended_elsewhere : (n : ℕ) → (n ≡ i → ⊥) → Ended n
  ended_elsewhere n ne = (
    rw (find_filter (has_number n) (λ held. not (has_number i held)) bucket.watches (other_stays n ne), other_now n ne) (r.held n),
    rw (filter_filter_same (has_number n) (λ held. not (has_number i held)) bucket.watches (other_stays n ne), other_now n ne) (r.once n),
  )

  ended_all : (n : ℕ) → Ended n
  ended_all n = ⊎_elim (λ (e : (eqb n i ≡ true) × (n ≡ i)). subst Ended (sym e.1) ended_here) (λ (e : (eqb n i ≡ false) × (n ≡ i → ⊥)). ended_elsewhere n e.1) (eqb_tells n i)

  pub represents_stopped : Represents ended (record bucket { watches = kept_watches })
  represents_stopped =
      let one : length (filter (has_number i) bucket.watches) ≡ 1 = r.once i ∙ ap option_len is in
      record {
        config = r.config;
        version = r.version;
        opened = r.opened ∙ sym (length-set state.watches (i - 1) (stopped w));
        held = λ n. (ended_all n).0;
        once = λ n. (ended_all n).1;
        open_count = omega (arith, one, length_parts (has_number i) bucket.watches, r.open_count, count_fewer (λ (u : Watch). u.is_open) state.watches (i - 1) w (stopped w) (at_get state.watches i w at_it.0) at_it.1 refl);
      }
