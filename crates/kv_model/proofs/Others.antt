-- What calls leave of a watch.
use Rattle.std.proofs.Common.{◌≡◌, ℕ, ◌+◌, ⊎_elim, Bool, true, false, cond, eqb, List, [], ◌∷◌, ◌++◌, Option, Some, None, Result, Ok, Err, length, refl, sym, ap, ◌∙◌, subst, arith}
use Rattle.std.specs.Option.{option_to_list}
use Rattle.std.proofs.lemmas.Bool.Decides.{eqb_tells}
use Rattle.kv_keys.specs.declared.error.KvError.{KvError}
use Rattle.kv_keys.specs.declared.error.KvError.TheVariants.{TooManyWatches}
use Rattle.kv_model.specs.Acceptance.{accept}
use Rattle.kv_model.specs.Acts.{Write}
use Rattle.kv_model.specs.Requests.{asked}
use Rattle.kv_model.specs.declared.options.Options.{Options}
use Rattle.kv_model.specs.Given.{Item}
use Rattle.kv_model.specs.declared.call.Call.{Call}
use Rattle.kv_model.specs.declared.call.Call.TheVariants as ask
use Rattle.kv_model.specs.Answers.{Watching, Ended, Refused}
use Rattle.kv_model.specs.Runs.{run, answers_to, item_for, items_in}
use Rattle.kv_model.specs.State.{State, Watch, watch_at, next_of, open_at, has_room, set_watch, add_watch, opened, handed_one, stopped, may_compact, after_write, after_item, after_take, after_stop, after_compact, answer_stop, after, answer_to}
use Rattle.kv_model.specs.further.Counts.{GoesOn, IsOther}
use Rattle.kv_model.proofs.Numbers.{at_set_same, at_set_other, at_push_some, at_push_here, open_is}

-- the watch of a number goes on as the one that there was
abbrev pub Leaves : State → ℕ → Watch → Type 0
Leaves s i w = (v : Watch) × (watch_at i s.watches ≡ Some v) × GoesOn w v

goes_on_same : (w : Watch) → GoesOn w w
goes_on_same w = record { began = refl; filters = refl; options = refl; handed = omega arith; stays_stopped = λ e. e; counts_no_more = λ e. refl }

goes_on_more : (u v w : Watch) → GoesOn u v → GoesOn v w → GoesOn u w
goes_on_more u v w g h = record {
  began = h.began ∙ g.began;
  filters = h.filters ∙ g.filters;
  options = h.options ∙ g.options;
  handed = omega (arith, g.handed, h.handed);
  stays_stopped = λ e. h.stays_stopped (g.stays_stopped e);
  counts_no_more = λ e. h.counts_no_more (g.stays_stopped e) ∙ g.counts_no_more e;
}

leaves_same : (s : State) (i : ℕ) (w : Watch) → watch_at i s.watches ≡ Some w → Leaves s i w
leaves_same s i w h = (w, h, goes_on_same w)

leaves_set : (s : State) (i j : ℕ) (w u v : Watch) → watch_at i s.watches ≡ Some w → watch_at j s.watches ≡ Some u → GoesOn u v → Leaves (set_watch j v s) i w
leaves_set s i j w u v h here goes = ⊎_elim
    (λ (e : (eqb i j ≡ true) × (i ≡ j)). at_same e.1)
    (λ (e : (eqb i j ≡ false) × (i ≡ j → ⊥)). (w, at_set_other s.watches i j u v here e.1 ∙ h, goes_on_same w))
    (eqb_tells i j)
  where
    at_same : i ≡ j → Leaves (set_watch j v s) i w
    at_same e =
        let both : Some w ≡ Some u = sym h ∙ ap (λ n. watch_at n s.watches) e ∙ here in
        let same : w ≡ u = cc in
        (v, ap (λ n. watch_at n (set_watch j v s).watches) e ∙ at_set_same s.watches j u v here, subst (λ x. GoesOn x v) (sym same) goes)

leaves_write : (s : State) (i : ℕ) (w : Watch) (result : Result Write KvError) → watch_at i s.watches ≡ Some w → Leaves (after_write s result) i w
leaves_write s i w (Err why) h = leaves_same s i w h
leaves_write s i w (Ok write) h = (w, h, goes_on_same w)

leaves_compact : (s : State) (i : ℕ) (w : Watch) (result : Result ℕ KvError) → watch_at i s.watches ≡ Some w → Leaves (after_compact s result) i w
leaves_compact s i w (Err why) h = leaves_same s i w h
leaves_compact s i w (Ok floor) h = (w, h, goes_on_same w)

-- an open watch that counts one more goes on
counts_on : (u : Watch) → u.is_open ≡ true → GoesOn u (handed_one u)
counts_on u is = record {
  began = refl;
  filters = refl;
  options = refl;
  handed = omega arith;
  stays_stopped = λ e. e;
  counts_no_more = λ e. (let no : true ≡ false = sym is ∙ e in cc);
}

leaves_item : (s : State) (i j : ℕ) (w u : Watch) (next : Option Item) → watch_at i s.watches ≡ Some w → watch_at j s.watches ≡ Some u → u.is_open ≡ true → Leaves (after_item j s u next) i w
leaves_item s i j w u None h here is = leaves_same s i w h
leaves_item s i j w u (Some item) h here is = leaves_set s i j w u (handed_one u) h here (counts_on u is)

leaves_take : (s : State) (i j : ℕ) (w : Watch) (o : Option Watch) → watch_at i s.watches ≡ Some w → open_at j s ≡ o → Leaves (after_take j s o) i w
leaves_take s i j w None h e = leaves_same s i w h
leaves_take s i j w (Some u) h e =
    let at = open_is (watch_at j s.watches) u e in leaves_item s i j w u (next_of s.config.history s.acts u) h at.0 at.1

leaves_stop : (s : State) (i j : ℕ) (w : Watch) (o : Option Watch) → watch_at i s.watches ≡ Some w → open_at j s ≡ o → Leaves (after_stop j s o) i w
leaves_stop s i j w None h e = leaves_same s i w h
leaves_stop s i j w (Some u) h e = leaves_set s i j w u (stopped u) h (open_is (watch_at j s.watches) u e).0 (record { began = refl; filters = refl; options = refl; handed = omega arith; stays_stopped = λ _. refl; counts_no_more = λ _. refl })

pub leaves_step : (s : State) (i : ℕ) (w : Watch) (call : Call) → watch_at i s.watches ≡ Some w → Leaves (after s call) i w
leaves_step s i w (ask.Write request) h = leaves_write s i w (accept s.config (asked request) s.acts) h
leaves_step s i w ask.Seal h = (w, h, goes_on_same w)
leaves_step s i w (ask.Get key) h = leaves_same s i w h
leaves_step s i w (ask.GetAt key revision) h = leaves_same s i w h
leaves_step s i w (ask.History key) h = leaves_same s i w h
leaves_step s i w (ask.Keys filters) h = leaves_same s i w h
leaves_step s i w ask.Status h = leaves_same s i w h
leaves_step s i w (ask.Watch filters options) h = elim (has_room s) as (λ b. Leaves (cond b (add_watch (opened filters options s) s) s) i w) [
  | true ↦ (w, at_push_some s.watches i (opened filters options s) w h, goes_on_same w)
  | false ↦ leaves_same s i w h
]
leaves_step s i w (ask.Take j) h = leaves_take s i j w (open_at j s) h refl
leaves_step s i w (ask.Stop j) h = leaves_stop s i j w (open_at j s) h refl
leaves_step s i w (ask.Compact floor) h = leaves_compact s i w (may_compact floor s) h

pub leaves_run : (s : State) (i : ℕ) (w : Watch) (calls : List Call) → watch_at i s.watches ≡ Some w → Leaves (run s calls) i w
leaves_run s i w [] h = leaves_same s i w h
leaves_run s i w (call ∷ calls) h =
    let one = leaves_step s i w call h in
    let rest = leaves_run (after s call) i one.0 calls one.1 in
    (rest.0, rest.1, goes_on_more w one.0 rest.0 one.2 rest.2)

-- the limits stay
config_write : (s : State) (result : Result Write KvError) → (after_write s result).config ≡ s.config
config_write s (Err why) = refl
config_write s (Ok w) = refl

config_item : (s : State) (j : ℕ) (w : Watch) (next : Option Item) → (after_item j s w next).config ≡ s.config
config_item s j w None = refl
config_item s j w (Some item) = refl

config_take : (s : State) (j : ℕ) (o : Option Watch) → (after_take j s o).config ≡ s.config
config_take s j None = refl
config_take s j (Some w) = config_item s j w (next_of s.config.history s.acts w)

config_stop : (s : State) (j : ℕ) (o : Option Watch) → (after_stop j s o).config ≡ s.config
config_stop s j None = refl
config_stop s j (Some w) = refl

config_compact : (s : State) (result : Result ℕ KvError) → (after_compact s result).config ≡ s.config
config_compact s (Err why) = refl
config_compact s (Ok floor) = refl

pub config_step : (s : State) (call : Call) → (after s call).config ≡ s.config
config_step s (ask.Write request) = config_write s (accept s.config (asked request) s.acts)
config_step s ask.Seal = refl
config_step s (ask.Get key) = refl
config_step s (ask.GetAt key revision) = refl
config_step s (ask.History key) = refl
config_step s (ask.Keys filters) = refl
config_step s ask.Status = refl
config_step s (ask.Watch filters options) = elim (has_room s) as (λ b. (cond b (add_watch (opened filters options s) s) s).config ≡ s.config) [ true ↦ refl | false ↦ refl ]
config_step s (ask.Take j) = config_take s j (open_at j s)
config_step s (ask.Stop j) = config_stop s j (open_at j s)
config_step s (ask.Compact floor) = config_compact s (may_compact floor s)

pub config_run : (s : State) (calls : List Call) → (run s calls).config ≡ s.config
config_run s [] = refl
config_run s (call ∷ calls) = config_run (after s call) calls ∙ config_step s call

pub run-append : (s : State) (calls more : List Call) → run s (calls ++ more) ≡ run (run s calls) more
run-append s [] more = refl
run-append s (call ∷ calls) more = run-append (after s call) calls more

pub answers-append : (s : State) (calls more : List Call) → answers_to s (calls ++ more) ≡ answers_to s calls ++ answers_to (run s calls) more
answers-append s [] more = refl
answers-append s (call ∷ calls) more = ap (λ rs. answer_to s call ∷ rs) (answers-append (after s call) calls more)

-- another watch's calls
pub others_step : (s : State) (i : ℕ) (w : Watch) (call : Call) → IsOther i call → watch_at i s.watches ≡ Some w → watch_at i (after s call).watches ≡ Some w
others_step s i w (ask.Write request) other h = by_result (accept s.config (asked request) s.acts)
  where
    by_result : (result : Result Write KvError) → watch_at i (after_write s result).watches ≡ Some w
    by_result (Err why) = h
    by_result (Ok write) = h
others_step s i w ask.Seal other h = h
others_step s i w (ask.Get key) other h = h
others_step s i w (ask.GetAt key revision) other h = h
others_step s i w (ask.History key) other h = h
others_step s i w (ask.Keys filters) other h = h
others_step s i w ask.Status other h = h
others_step s i w (ask.Watch filters options) other h = elim (has_room s) as (λ b. watch_at i (cond b (add_watch (opened filters options s) s) s).watches ≡ Some w) [
  | true ↦ at_push_some s.watches i (opened filters options s) w h
  | false ↦ h
]
others_step s i w (ask.Take j) other h = by_open (open_at j s) refl
  where
    by_item : (u : Watch) → watch_at j s.watches ≡ Some u → (next : Option Item) → watch_at i (after_item j s u next).watches ≡ Some w
    by_item u here None = h
    by_item u here (Some item) = at_set_other s.watches i j u (handed_one u) here (λ e. other (sym e)) ∙ h

    by_open : (o : Option Watch) → open_at j s ≡ o → watch_at i (after_take j s o).watches ≡ Some w
    by_open None is = h
    by_open (Some u) is = by_item u (open_is (watch_at j s.watches) u is).0 (next_of s.config.history s.acts u)
others_step s i w (ask.Stop j) other h = by_open (open_at j s) refl
  where
    by_open : (o : Option Watch) → open_at j s ≡ o → watch_at i (after_stop j s o).watches ≡ Some w
    by_open None is = h
    by_open (Some u) is = at_set_other s.watches i j u (stopped u) (open_is (watch_at j s.watches) u is).0 (λ e. other (sym e)) ∙ h
others_step s i w (ask.Compact floor) other h = by_result (may_compact floor s)
  where
    by_result : (result : Result ℕ KvError) → watch_at i (after_compact s result).watches ≡ Some w
    by_result (Err why) = h
    by_result (Ok floor) = h

-- a watch that was opened, and its number
pub opened_is : (s : State) (filters : List (List ℕ)) (options : Options) (i : ℕ) → answer_to s (ask.Watch filters options) ≡ Watching i →
    (i ≡ length s.watches + 1) × (watch_at i (after s (ask.Watch filters options)).watches ≡ Some (opened filters options s))
opened_is s filters options i h = by_room (has_room s) h
  where
    by_room : (b : Bool) → cond b (Watching (length s.watches + 1)) (Refused TooManyWatches) ≡ Watching i →
        (i ≡ length s.watches + 1) × (watch_at i (cond b (add_watch (opened filters options s) s) s).watches ≡ Some (opened filters options s))
    by_room true e = let same : length s.watches + 1 ≡ i = cc in (sym same, rw (sym same) (at_push_here s.watches (opened filters options s)))
    by_room false e = cc

-- a stopped watch is handed nothing
abbrev pub IsStopped : State → ℕ → Type 0
IsStopped s i = (w : Watch) × (watch_at i s.watches ≡ Some w) × (w.is_open ≡ false)

stopped_step : (s : State) (i : ℕ) (call : Call) → IsStopped s i → IsStopped (after s call) i
stopped_step s i call at =
    let left = leaves_step s i at.0 call at.1 in (left.0, left.1, left.2.stays_stopped at.2)

none_open : (s : State) (i : ℕ) → IsStopped s i → open_at i s ≡ None
none_open s i at = rw (at.1, at.2) refl

none_told : (s : State) (i : ℕ) (call : Call) → IsStopped s i → option_to_list (item_for i call (answer_to s call)) ≡ []
none_told s i (ask.Write request) at = refl
none_told s i ask.Seal at = refl
none_told s i (ask.Get key) at = refl
none_told s i (ask.GetAt key revision) at = refl
none_told s i (ask.History key) at = refl
none_told s i (ask.Keys filters) at = refl
none_told s i ask.Status at = refl
none_told s i (ask.Watch filters options) at = refl
none_told s i (ask.Stop j) at = refl
none_told s i (ask.Compact floor) at = refl
none_told s i (ask.Take j) at = ⊎_elim
    (λ (e : (eqb j i ≡ true) × (j ≡ i)). rw (e.1, none_open s i at) (elim (eqb i i) as (λ b. option_to_list {X = Item} (cond b None None) ≡ []) [ true ↦ refl | false ↦ refl ]))
    (λ (e : (eqb j i ≡ false) × (j ≡ i → ⊥)). rw e.0 refl)
    (eqb_tells j i)

pub none_after_stop : (s : State) (i : ℕ) (calls : List Call) → IsStopped s i → items_in i s calls ≡ []
none_after_stop s i [] at = refl
none_after_stop s i (call ∷ calls) at =
    rw (none_told s i call at) (none_after_stop (after s call) i calls (stopped_step s i call at))

-- a stop that was answered: the watch is stopped, with the count that it had
pub stopped_now : (s : State) (i n : ℕ) → answer_to s (ask.Stop i) ≡ Ended n →
    (w : Watch) × (watch_at i (after s (ask.Stop i)).watches ≡ Some w) × (w.is_open ≡ false) × (w.handed ≡ n)
stopped_now s i n h = by_open (open_at i s) refl h
  where
    by_open : (o : Option Watch) → open_at i s ≡ o → answer_stop o ≡ Ended n → (w : Watch) × (watch_at i (after_stop i s o).watches ≡ Some w) × (w.is_open ≡ false) × (w.handed ≡ n)
    by_open None e r = cc
    by_open (Some w) e r = let count : w.handed ≡ n = cc in (stopped w, at_set_same s.watches i w (stopped w) (open_is (watch_at i s.watches) w e).0, refl, count)
