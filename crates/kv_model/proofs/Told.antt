-- What a run of calls tells a watch.
use Rattle.std.proofs.Common.{◌≡◌, ℕ, ◌+◌, ◌-◌, ◌≤◌, ⊎_elim, true, false, cond, eqb, List, [], ◌∷◌, ◌++◌, Option, Some, None, Result, Ok, Err, length, take, refl, sym, ap, ◌∙◌, subst, arith, append_assoc, append-nil, length-append}
use Rattle.std.specs.List.{slice_get}
use Rattle.std.specs.Option.{option_to_list}
use Rattle.std.proofs.lemmas.Bool.Decides.{eqb_tells}
use Rattle.std.proofs.lemmas.List.{take-append-le}
use Rattle.std.proofs.lemmas.Option.{slice_get_within}
use Rattle.kv_keys.specs.declared.error.KvError.{KvError}
use Rattle.kv_model.specs.Acceptance.{accept}
use Rattle.kv_model.specs.Acts.{Act, Wrote, Seal, Compact, Write, writes_of}
use Rattle.kv_model.specs.Configuration.{Configuration}
use Rattle.kv_model.specs.Requests.{asked}
use Rattle.kv_model.specs.Given.{Item, AnEntry, EndMarker, all_shown, matching}
use Rattle.kv_model.specs.declared.call.Call.{Call}
use Rattle.kv_model.specs.declared.call.Call.TheVariants as ask
use Rattle.kv_model.specs.Answers.{answer_item}
use Rattle.kv_model.specs.Runs.{run, item_in, item_for, items_in}
use Rattle.kv_model.specs.State.{State, Watch, watch_at, empty, given_to, next_of, open_at, has_room, set_watch, add_watch, opened, handed_one, stopped, may_compact, after_write, after_item, after_take, after_stop, after_compact, answer_take, after, answer_to}
use Rattle.kv_model.specs.further.Counts.{Told, IsTold, TellsWatch}
use Rattle.kv_model.proofs.GivenLaws.{given-append, no_fewer_writes}
use Rattle.kv_model.proofs.Numbers.{at_set_same, at_set_other, at_push, at_push_some, open_is, take_push}

-- one act more
told_act : (h : ℕ) (acts : List Act) (act : Act) (w : Watch) (items : List Item) → Told h acts w items → Told h (acts ++ act ∷ []) w items
told_act h acts act w items told =
    let more = all_shown w.options (matching w.filters (writes_of (act ∷ []))) in
    let all : given_to h (acts ++ act ∷ []) w ≡ given_to h acts w ++ more = given-append h w.began acts (act ∷ []) w.filters w.options (no_fewer_writes w.began acts told.prefix) in
    record {
      prefix = (told.prefix.0 ++ act ∷ [], sym (append_assoc w.began told.prefix.0 (act ∷ [])) ∙ ap (λ xs. xs ++ act ∷ []) told.prefix.1);
      within = omega (arith, told.within, ap length all, length-append (given_to h acts w) more);
      first = told.first ∙ sym (ap (take w.handed) all ∙ take-append-le w.handed (given_to h acts w) more told.within);
    }

is_told_act : (h : ℕ) (acts : List Act) (act : Act) (o : Option Watch) (items : List Item) → IsTold h acts o items → IsTold h (acts ++ act ∷ []) o items
is_told_act h acts act None items told = told
is_told_act h acts act (Some w) items told = told_act h acts act w items told

no_item : (s : State) (i : ℕ) (items : List Item) → TellsWatch s i items → TellsWatch s i (items ++ [])
no_item s i items told = rw (append-nil items) told

told_write : (s : State) (i : ℕ) (items : List Item) (result : Result Write KvError) → TellsWatch s i items → TellsWatch (after_write s result) i (items ++ [])
told_write s i items (Err why) told = no_item s i items told
told_write s i items (Ok w) told = rw (append-nil items) (is_told_act s.config.history s.acts (Wrote w) (watch_at i s.watches) items told)

told_compact : (s : State) (i : ℕ) (items : List Item) (result : Result ℕ KvError) → TellsWatch s i items → TellsWatch (after_compact s result) i (items ++ [])
told_compact s i items (Err why) told = no_item s i items told
told_compact s i items (Ok floor) told = rw (append-nil items) (is_told_act s.config.history s.acts (Compact floor) (watch_at i s.watches) items told)

-- a new watch
told_none : (h : ℕ) (acts : List Act) (w : Watch) (items : List Item) → w.began ≡ acts → w.handed ≡ 0 → items ≡ [] → Told h acts w items
told_none h acts w items here none e = record {
  prefix = ([], append-nil w.began ∙ here);
  within = omega arith;
  first = e ∙ ap (λ n. take n (given_to h acts w)) (sym none);
}

told_watch : (s : State) (i : ℕ) (items : List Item) (w : Watch) → w.began ≡ s.acts → w.handed ≡ 0 → TellsWatch s i items → TellsWatch (add_watch w s) i items
told_watch s i items w here none told = by_place (watch_at i s.watches) refl told
  where
    by_place : (o : Option Watch) → watch_at i s.watches ≡ o → IsTold s.config.history s.acts o items → IsTold s.config.history s.acts (watch_at i (s.watches ++ w ∷ [])) items
    by_place None e told = ⊎_elim
        (λ new. rw new (told_none s.config.history s.acts w items here none told))
        (λ new. rw new told)
        (at_push s.watches i w e)
    by_place (Some v) e told = rw (at_push_some s.watches i w v e) told

-- a take and a stop
told_one : (h : ℕ) (acts : List Act) (w : Watch) (items : List Item) (item : Item) → next_of h acts w ≡ Some item → Told h acts w items → Told h acts (handed_one w) (items ++ item ∷ [])
told_one h acts w items item next told = record {
  prefix = told.prefix;
  within = omega (arith, get_within (given_to h acts w) w.handed item next);
  first = ap (λ es. es ++ item ∷ []) told.first ∙ sym (take_push (given_to h acts w) w.handed item next);
}
  where
    get_within : {X : Type 0} (xs : List X) (n : ℕ) (x : X) → slice_get xs n ≡ Some x → n + 1 ≤ length xs
    get_within xs n x e = let l = slice_get_within xs n x e in omega arith

told_set : (s : State) (i j : ℕ) (items : List Item) (w v : Watch) → watch_at j s.watches ≡ Some w → (Told s.config.history s.acts w items → Told s.config.history s.acts v items) → TellsWatch s i items → TellsWatch (set_watch j v s) i items
told_set s i j items w v here same told = ⊎_elim
    (λ (e : (eqb i j ≡ true) × (i ≡ j)). set_same (e.1))
    (λ (e : (eqb i j ≡ false) × (i ≡ j → ⊥)). rw (at_set_other s.watches i j w v here e.1) told)
    (eqb_tells i j)
  where
    set_same : i ≡ j → TellsWatch (set_watch j v s) i items
    set_same e = rw (e, at_set_same s.watches j w v here) (same (rw (e, here) at told))

-- what an answer hands out is its item
pub in_answer : (next : Option Item) → item_in (answer_item next) ≡ next
in_answer None = refl
in_answer (Some (AnEntry entry)) = refl
in_answer (Some EndMarker) = refl

told_item : (s : State) (i j : ℕ) (items : List Item) (w : Watch) (next : Option Item) → watch_at j s.watches ≡ Some w → next_of s.config.history s.acts w ≡ next → TellsWatch s i items → TellsWatch (after_item j s w next) i (items ++ option_to_list (item_for i (ask.Take j) (answer_item next)))
told_item s i j items w next here is told = rw (in_answer next) (by_next next is)
  where
    by_next : (next : Option Item) → next_of s.config.history s.acts w ≡ next → TellsWatch (after_item j s w next) i (items ++ option_to_list (cond (eqb j i) next None))
    by_next None next = elim (eqb j i) as (λ b. TellsWatch s i (items ++ option_to_list (cond b None None))) [ true ↦ no_item s i items told | false ↦ no_item s i items told ]
    by_next (Some item) next = ⊎_elim
        (λ (e : (eqb j i ≡ true) × (j ≡ i)). rw e.0 (handed (e.1)))
        (λ (e : (eqb j i ≡ false) × (j ≡ i → ⊥)). rw (e.0, append-nil items, at_set_other s.watches i j w (handed_one w) here (λ f. e.1 (sym f))) told)
        (eqb_tells j i)
      where
        handed : j ≡ i → TellsWatch (set_watch j (handed_one w) s) i (items ++ item ∷ [])
        handed e = let at = rw (sym e, here) at told in
            rw (sym e, at_set_same s.watches j w (handed_one w) here) (told_one s.config.history s.acts w items item next at)

told_take : (s : State) (i j : ℕ) (items : List Item) (o : Option Watch) → open_at j s ≡ o → TellsWatch s i items → TellsWatch (after_take j s o) i (items ++ option_to_list (item_for i (ask.Take j) (answer_take s o)))
told_take s i j items None e told = elim (eqb j i) as (λ b. TellsWatch s i (items ++ option_to_list (cond b None None))) [ true ↦ no_item s i items told | false ↦ no_item s i items told ]
told_take s i j items (Some w) e told = told_item s i j items w (next_of s.config.history s.acts w) (open_is (watch_at j s.watches) w e).0 refl told

told_stop : (s : State) (i j : ℕ) (items : List Item) (o : Option Watch) → open_at j s ≡ o → TellsWatch s i items → TellsWatch (after_stop j s o) i (items ++ [])
told_stop s i j items None e told = no_item s i items told
told_stop s i j items (Some w) e told =
    rw (append-nil items) (told_set s i j items w (stopped w) (open_is (watch_at j s.watches) w e).0 (λ t. record { prefix = t.prefix; within = t.within; first = t.first }) told)

told_step : (s : State) (i : ℕ) (items : List Item) (call : Call) → TellsWatch s i items → TellsWatch (after s call) i (items ++ option_to_list (item_for i call (answer_to s call)))
told_step s i items (ask.Write request) told = told_write s i items (accept s.config (asked request) s.acts) told
told_step s i items ask.Seal told = rw (append-nil items) (is_told_act s.config.history s.acts Seal (watch_at i s.watches) items told)
told_step s i items (ask.Get key) told = no_item s i items told
told_step s i items (ask.GetAt key revision) told = no_item s i items told
told_step s i items (ask.History key) told = no_item s i items told
told_step s i items (ask.Keys filters) told = no_item s i items told
told_step s i items ask.Status told = no_item s i items told
told_step s i items (ask.Watch filters options) told =
    rw (append-nil items) (elim (has_room s) as (λ b. TellsWatch (cond b (add_watch (opened filters options s) s) s) i items) [
      | true ↦ told_watch s i items (opened filters options s) refl refl told
      | false ↦ told
    ])
told_step s i items (ask.Take j) told = told_take s i j items (open_at j s) refl told
told_step s i items (ask.Stop j) told = told_stop s i j items (open_at j s) refl told
told_step s i items (ask.Compact floor) told = told_compact s i items (may_compact floor s) told

-- a whole run
pub told_run : (s : State) (i : ℕ) (items : List Item) (calls : List Call) → TellsWatch s i items → TellsWatch (run s calls) i (items ++ items_in i s calls)
told_run s i items [] told = no_item s i items told
told_run s i items (call ∷ calls) told =
    let now = option_to_list (item_for i call (answer_to s call)) in
    subst (λ es. TellsWatch (run (after s call) calls) i es) (append_assoc items now (items_in i (after s call) calls))
    (told_run (after s call) i (items ++ now) calls (told_step s i items call told))

-- before the first call
pub nothing_yet : (config : Configuration) (i : ℕ) → TellsWatch (empty config) i []
nothing_yet config i = elim (eqb i 0) as (λ b. IsTold config.history [] (cond b None (slice_get [] (i - 1))) []) [ true ↦ refl | false ↦ refl ]
