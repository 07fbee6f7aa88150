-- The watch theorem: what a watch that calls opened was handed.
use Rattle.std.proofs.Common.{◌≡◌, ℕ, suc, zero, ◌+◌, ◌≤◌, List, [], ◌∷◌, ◌++◌, Option, Some, None, length, take, drop, refl, sym, ap, ◌∙◌, subst, arith, append_assoc, length-append}
use Rattle.std.specs.List.{slice_get}
use Rattle.std.specs.Option.{option_to_list}
use Rattle.std.proofs.lemmas.List.{take-append-drop, take_all, length-take-le, get_or_append_left}
use Rattle.std.specs.List.Sorted.{IsStrictlyIncreasing}
use Rattle.std.proofs.lemmas.List.Elements.{filter_map-append}
use Rattle.kv_model.specs.Acceptance.{IsLawful}
use Rattle.kv_model.specs.Acts.{Act, IsPrefix}
use Rattle.kv_model.specs.Configuration.{Configuration}
use Rattle.kv_model.specs.declared.options.Options.{Options}
use Rattle.kv_model.specs.Given.{Item, AnEntry, EndMarker, given, revision_of, item_revisions}
use Rattle.kv_model.proofs.GivenLaws.{given_rises}
use Rattle.kv_model.specs.declared.call.Call.{Call}
use Rattle.kv_model.specs.declared.call.Call.TheVariants as ask
use Rattle.kv_model.specs.Answers.{Watching, Empty, Ended, answer_item}
use Rattle.kv_model.specs.Runs.{Exchange, calls_of, items_of, run, item_for, items_in, transcript}
use Rattle.kv_model.specs.State.{State, Watch, watch_at, given_to, next_of, open_at, opened, answer_take, after, answer_to}
use Rattle.kv_model.specs.further.Counts.{Told, TellsWatch, GoesOn}
use Rattle.kv_model.specs.Told.{Tells, TellsEachWatch}
use Rattle.kv_model.proofs.Numbers.{at_past, open_is}
use Rattle.kv_model.proofs.Others.{config_run, run-append, opened_is, leaves_run, none_after_stop, stopped_now}
use Rattle.kv_model.proofs.Told.{told_run}
use Rattle.kv_model.proofs.Transcripts.{calls_are, splits}

-- the first numbers of a rising list rise
pub increasing_left : (xs ys : List ℕ) → IsStrictlyIncreasing (xs ++ ys) → IsStrictlyIncreasing xs
increasing_left xs ys h k l =
    let both : length xs ≤ length (xs ++ ys) = omega (arith, length-append xs ys) in
    rw (sym (get_or_append_left xs ys 0 k (omega arith)), sym (get_or_append_left xs ys 0 (k + 1) l)) (h k (omega arith))

-- nothing is left where a take finds none
none_left : {X : Type 0} (xs : List X) (n : ℕ) → slice_get xs n ≡ None → length xs ≤ n
none_left [] n h = omega arith
none_left (x ∷ xs) zero h = cc
none_left (x ∷ xs) (suc n) h = omega (arith, none_left xs n h)

no_item : (next : Option Item) → answer_item next ≡ Empty → next ≡ None
no_item None e = refl
no_item (Some (AnEntry entry)) e = cc
no_item (Some EndMarker) e = cc

pub empty_is : (t : State) (i : ℕ) → answer_to t (ask.Take i) ≡ Empty → (w : Watch) × (watch_at i t.watches ≡ Some w) × (length (given_to t.config.history t.acts w) ≤ w.handed)
empty_is t i empty = by_open (open_at i t) refl empty
  where
    by_open : (o : Option Watch) → open_at i t ≡ o → answer_take t o ≡ Empty → (w : Watch) × (watch_at i t.watches ≡ Some w) × (length (given_to t.config.history t.acts w) ≤ w.handed)
    by_open None at h = cc
    by_open (Some w) at h = (w, (open_is (watch_at i t.watches) w at).0, none_left (given_to t.config.history t.acts w) w.handed (no_item (next_of t.config.history t.acts w) h))

-- then the watch was handed all, where nothing was handed to its number before
all_handed : (s : State) (i : ℕ) (calls : List Call) → watch_at i s.watches ≡ None → answer_to (run s calls) (ask.Take i) ≡ Empty →
    (w : Watch) × (watch_at i (run s calls).watches ≡ Some w) × (items_in i s calls ≡ given_to (run s calls).config.history (run s calls).acts w)
all_handed s i calls unknown empty =
    let t = run s calls in
    let is = empty_is t i empty in
    let all_told : TellsWatch t i (items_in i s calls) = told_run s i [] calls (rw unknown refl) in
    let told : Told t.config.history t.acts is.0 (items_in i s calls) = rw is.1 at all_told in
    (is.0, is.1, told.first ∙ take_all is.0.handed (given_to t.config.history t.acts is.0) is.2)

-- calls before, the opening of a watch, and calls after
module _ (s : State) (before later : List Call) (filters : List (List ℕ)) (options : Options) (i : ℕ) (opens : answer_to (run s before) (ask.Watch filters options) ≡ Watching i) where
  abbrev all : List Call
  all = before ++ ask.Watch filters options ∷ later

  abbrev t : State
  t = run s all

  abbrev given_it : List Item
  given_it = given s.config.history (run s before).acts t.acts filters options

  -- the watch as it is now
  abbrev Now : Type 0
  Now = (v : Watch) × (watch_at i t.watches ≡ Some v) × (given_to t.config.history t.acts v ≡ given_it) × (v.began ≡ (run s before).acts) × (v.filters ≡ filters) × (v.options ≡ options)

  now : Now
  now =
      let s₁ = run s before in
      let left = leaves_run (after s₁ (ask.Watch filters options)) i (opened filters options s₁) later (opened_is s₁ filters options i opens).1 in
      let v = left.0 in
      let here : watch_at i t.watches ≡ Some v = ap (λ (x : State). watch_at i x.watches) (run-append s before (ask.Watch filters options ∷ later)) ∙ left.1 in (
        v,
        here,
        ap (λ (c : Configuration). given c.history v.began t.acts v.filters v.options) (config_run s all)
            ∙ ap (λ (acts : List Act). given s.config.history acts t.acts v.filters v.options) left.2.began
            ∙ ap (λ (fs : List (List ℕ)). given s.config.history s₁.acts t.acts fs v.options) left.2.filters
            ∙ ap (λ (o : Options). given s.config.history s₁.acts t.acts filters o) left.2.options,
        left.2.began,
        left.2.filters,
        left.2.options,
      )

  began_is : now.0.began ≡ (run s before).acts
  began_is = now.3

  -- nothing was handed to the number before
  unknown : watch_at i s.watches ≡ None
  unknown = by_now (watch_at i s.watches) refl
    where
      by_now : (o : Option Watch) → watch_at i s.watches ≡ o → watch_at i s.watches ≡ None
      by_now None e = e
      by_now (Some w) e =
          let left = leaves_run s i w before e in
          let number : i ≡ length (run s before).watches + 1 = (opened_is (run s before) filters options i opens).0 in
          let none : watch_at i (run s before).watches ≡ None = ap (λ n. watch_at n (run s before).watches) number ∙ at_past (run s before).watches in
          let no : Some left.0 ≡ None = sym left.1 ∙ none in cc

  told : Told t.config.history t.acts now.0 (items_in i s all)
  told =
      let all_told : TellsWatch t i (items_in i s all) = told_run s i [] all (rw unknown refl) in
      rw now.1 at all_told

  told_first : items_in i s all ≡ take now.0.handed given_it
  told_first = told.first ∙ ap (take now.0.handed) now.2

  pub told_prefix : IsPrefix (items_in i s all) given_it
  told_prefix = (drop now.0.handed given_it, ap (λ xs. xs ++ drop now.0.handed given_it) told_first ∙ take-append-drop now.0.handed given_it)

  pub told_counted : (v : Watch) × (watch_at i t.watches ≡ Some v) × (v.handed ≡ length (items_in i s all))
  told_counted = (now.0, now.1, sym (ap length told.first ∙ length-take-le now.0.handed (given_to t.config.history t.acts now.0) told.within))

  -- no entry twice
  pub told_once : IsLawful s.config t.acts → IsStrictlyIncreasing (item_revisions (items_in i s all))
  told_once lawful =
      let rest = told_prefix.0 in
      let rises : IsStrictlyIncreasing (item_revisions (given s.config.history now.0.began t.acts filters options)) = given_rises s.config s.config.history now.0.began t.acts filters options lawful told.prefix in
      let whole : IsStrictlyIncreasing (item_revisions given_it) = subst (λ (acts : List Act). IsStrictlyIncreasing (item_revisions (given s.config.history acts t.acts filters options))) began_is rises in
      let parts : item_revisions given_it ≡ item_revisions (items_in i s all) ++ item_revisions rest =
      ap item_revisions (sym told_prefix.1) ∙ filter_map-append revision_of (items_in i s all) rest in
      increasing_left (item_revisions (items_in i s all)) (item_revisions rest) (subst IsStrictlyIncreasing parts whole)

  -- all of it where a take finds none
  pub told_all : answer_to t (ask.Take i) ≡ Empty → items_in i s all ≡ given_it
  told_all empty =
      let whole = all_handed s i all unknown empty in
      let both : Some now.0 ≡ Some whole.0 = sym now.1 ∙ whole.1 in
      let same : whole.0 ≡ now.0 = cc in
      whole.2 ∙ ap (given_to t.config.history t.acts) same ∙ now.2

-- the items of two runs, one after the other
pub items-append : (s : State) (i : ℕ) (calls more : List Call) → items_in i s (calls ++ more) ≡ items_in i s calls ++ items_in i (run s calls) more
items-append s i [] more = refl
items-append s i (call ∷ calls) more =
    ap (λ es. option_to_list (item_for i call (answer_to s call)) ++ es) (items-append (after s call) i calls more)
    ∙ sym (append_assoc (option_to_list (item_for i call (answer_to s call))) (items_in i (after s call) calls) (items_in i (run (after s call) calls) more))

-- where a take is answered Empty, no item is left by then
pub empty_at : (s : State) (calls : List Call) (i : ℕ) (earlier later : List Exchange) → transcript s calls ≡ earlier ++ record { call = ask.Take i; answer = Empty } ∷ later →
    (answer_to (run s (calls_of earlier)) (ask.Take i) ≡ Empty) × (items_of i earlier ≡ items_in i s (calls_of earlier)) × (run s calls ≡ run (run s (calls_of earlier)) (ask.Take i ∷ calls_of later))
empty_at s calls i earlier later parts =
    let at = splits s calls earlier later (record { call = ask.Take i; answer = Empty }) parts in (
      at.answer,
      ap (items_of i) at.before,
      ap (run s) at.made ∙ run-append s (calls_of earlier) (ask.Take i ∷ calls_of later),
    )

-- after a stop there is no item, and the stop answers the count that stays
pub ended_all : (s : State) (calls : List Call) (i : ℕ) (w : Watch) → watch_at i (run s calls).watches ≡ Some w → (earlier later : List Exchange) (n : ℕ) →
    transcript s calls ≡ earlier ++ record { call = ask.Stop i; answer = Ended n } ∷ later → (n ≡ w.handed) × (items_of i later ≡ [])
ended_all s calls i w here earlier later n parts =
    let split = splits s calls earlier later (record { call = ask.Stop i; answer = Ended n }) parts in
    let before = calls_of earlier in
    let behind = calls_of later in
    let s₁ = run s before in
    let at = stopped_now s₁ i n split.answer in
    let left = leaves_run (after s₁ (ask.Stop i)) i at.0 behind at.1 in
    let last : watch_at i (run s calls).watches ≡ Some left.0 = ap (λ (cs : List Call). watch_at i (run s cs).watches) split.made ∙ ap (λ (x : State). watch_at i x.watches) (run-append s before (ask.Stop i ∷ behind)) ∙ left.1 in
    let both : Some w ≡ Some left.0 = sym here ∙ last in
    let same : w ≡ left.0 = cc in (
      sym at.3 ∙ sym (left.2.counts_no_more at.2) ∙ ap (λ (v : Watch). v.handed) (sym same),
      ap (items_of i) split.behind ∙ none_after_stop (after s₁ (ask.Stop i)) i behind (at.0, at.1, at.2),
    )

-- a watch is given what the one that it became is given
pub as_opened : (s : State) (calls : List Call) (w v : Watch) {began : List Act} (filters : List (List ℕ)) (options : Options) → GoesOn w v → v.began ≡ began → v.filters ≡ filters → v.options ≡ options →
    given_to (run s calls).config.history (run s calls).acts w ≡ given s.config.history began (run s calls).acts filters options
as_opened s calls w v {began} filters options goes b f o =
    ap (λ (c : Configuration). given_to c.history (run s calls).acts w) (config_run s calls)
    ∙ ap (λ (acts : List Act). given s.config.history acts (run s calls).acts w.filters w.options) (sym goes.began ∙ b)
    ∙ ap (λ (fs : List (List ℕ)). given s.config.history began (run s calls).acts fs w.options) (sym goes.filters ∙ f)
    ∙ ap (λ (os : Options). given s.config.history began (run s calls).acts filters os) (sym goes.options ∙ o)

pub tells_opened : (s : State) (before later : List Call) (filters : List (List ℕ)) (options : Options) (i : ℕ) → answer_to (run s before) (ask.Watch filters options) ≡ Watching i →
    Tells s (transcript s (before ++ ask.Watch filters options ∷ later)) i (opened filters options (run s before))
tells_opened s before later filters options i opens =
    let calls = before ++ ask.Watch filters options ∷ later in
    let are : calls ≡ calls_of (transcript s calls) = sym (calls_are s calls) in
    let counted = told_counted s before later filters options i opens in
    record {
      prefix = subst (λ (cs : List Call). IsPrefix (items_in i s calls) (given s.config.history (run s before).acts (run s cs).acts filters options)) are (told_prefix s before later filters options i opens);
      all = λ earlier rest parts. (
          let at = empty_at s calls i earlier rest parts in
          let so_far = calls_of earlier in
          let whole = all_handed s i so_far (unknown s before later filters options i opens) at.0 in
          let left = leaves_run (run s so_far) i whole.0 (ask.Take i ∷ calls_of rest) whole.1 in
          let n = now s before later filters options i opens in
          let both : Some left.0 ≡ Some n.0 = sym left.1 ∙ ap (λ (x : State). watch_at i x.watches) (sym at.2) ∙ n.1 in
          let same : left.0 ≡ n.0 = cc in
          at.1 ∙ whole.2 ∙ as_opened s so_far whole.0 left.0 filters options left.2 (ap (λ (v : Watch). v.began) same ∙ n.3) (ap (λ (v : Watch). v.filters) same ∙ n.4) (ap (λ (v : Watch). v.options) same ∙ n.5));
      counted = (counted.0, ap (λ (cs : List Call). watch_at i (run s cs).watches) (sym are) ∙ counted.1, omega (arith, counted.2));
      once = λ lawful. told_once s before later filters options i opens (subst (λ (cs : List Call). IsLawful s.config (run s cs).acts) (sym are) lawful);
      stopped = λ earlier rest n parts. (
          let ended = ended_all s calls i counted.0 counted.1 earlier rest n parts in
          (omega (arith, ended.0, counted.2), ended.1));
    }

pub tells_each_watch : (s : State) (calls : List Call) → TellsEachWatch s (transcript s calls)
tells_each_watch s calls = λ earlier later filters options i parts. (
    let at = splits s calls earlier later (record { call = ask.Watch filters options; answer = Watching i }) parts in
    subst (λ (cs : List Call). Tells s (transcript s cs) i (opened filters options (run s (calls_of earlier)))) (sym at.made)
    (tells_opened s (calls_of earlier) (calls_of later) filters options i at.answer))
