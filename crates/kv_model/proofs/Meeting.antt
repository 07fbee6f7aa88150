-- What a watch is handed is what its own calls meet.
use Rattle.std.proofs.Common.{◌≡◌, ℕ, ⊎_elim, Bool, true, false, cond, eqb, List, [], ◌∷◌, ◌++◌, Option, Some, None, Result, Ok, Err, filter, refl, sym, ap, ◌∙◌, subst}
use Rattle.std.specs.Prelude.{◌||◌, is_some, option_map}
use Rattle.std.specs.List.{list_any}
use Rattle.std.specs.Option.{option_to_list, option_and_then}
use Rattle.std.proofs.lemmas.Bool.Decides.{eqb_tells}
use Rattle.kv_keys.specs.declared.error.KvError.{KvError}
use Rattle.kv_model.specs.Acceptance.{accept}
use Rattle.kv_model.specs.Acts.{Act, Wrote, Seal, Write}
use Rattle.kv_model.specs.Configuration.{Configuration}
use Rattle.kv_model.specs.Requests.{asked}
use Rattle.kv_model.specs.Given.{Item}
use Rattle.kv_model.specs.declared.call.Call.{Call}
use Rattle.kv_model.specs.declared.call.Call.TheVariants as ask
use Rattle.kv_model.specs.State.{after_handed, State, Watch, watch_at, next_of, open_at, if_open, has_room, add_watch, opened, handed_one, stopped, after_write, after_item, after_take, after_stop, answer_take, after, answer_to}
use Rattle.kv_model.specs.further.Meeting.{Own, Taking, Stopping, Meeting, may_add_act, compacts, own_call, bears_on, meets, meetings_of}
use Rattle.kv_model.specs.Runs.{item_in, item_for, items_in}
use Rattle.kv_model.proofs.Numbers.{at_set_same}
use Rattle.kv_model.proofs.Others.{config_step, others_step}
use Rattle.kv_model.proofs.Told.{in_answer}

-- ---- what a watch's own calls hand out

-- what a watch is handed by a call, and what it is after it
abbrev item_of : ℕ → List Act → Watch → Option Own → Option Item
item_of h acts w None = None
item_of h acts w (Some Taking) = cond w.is_open (next_of h acts w) None
item_of h acts w (Some Stopping) = None

abbrev went : ℕ → List Act → Watch → Option Own → Watch
went h acts w None = w
went h acts w (Some Taking) = after_handed w (cond w.is_open (next_of h acts w) None)
went h acts w (Some Stopping) = cond w.is_open (stopped w) w

abbrev handed_by : ℕ → Watch → List Meeting → List Item
handed_by h w [] = []
handed_by h w (m ∷ ms) = option_to_list (item_of h m.acts w (Some m.own)) ++ handed_by h (went h m.acts w (Some m.own)) ms

-- an open watch, or none where it is stopped
open_here : (s : State) (i : ℕ) (w : Watch) (b : Bool) → watch_at i s.watches ≡ Some w → w.is_open ≡ b → open_at i s ≡ cond b (Some w) None
open_here s i w b h e = ap (option_and_then if_open) h ∙ ap (λ c. cond c (Some w) None) e

abbrev Taken : State → ℕ → Watch → Option Watch → Bool → Type 0
Taken s i w o b =
    (watch_at i (after_take i s o).watches ≡ Some (after_handed w (cond b (next_of s.config.history s.acts w) None)))
    × (item_in (answer_take s o) ≡ cond b (next_of s.config.history s.acts w) None)

taken : (s : State) (i : ℕ) (w : Watch) → watch_at i s.watches ≡ Some w → Taken s i w (open_at i s) w.is_open
taken s i w h = by_flag w.is_open refl
  where
    by_next : (next : Option Item) → (watch_at i (after_item i s w next).watches ≡ Some (after_handed w next))
    by_next None = h
    by_next (Some item) = at_set_same s.watches i w (handed_one w) h

    here : (b : Bool) → Taken s i w (cond b (Some w) None) b
    here true = (by_next (next_of s.config.history s.acts w), in_answer (next_of s.config.history s.acts w))
    here false = (h, refl)

    by_flag : (b : Bool) → w.is_open ≡ b → Taken s i w (open_at i s) w.is_open
    by_flag b e = subst (Taken s i w (open_at i s)) (sym e) (subst (λ o. Taken s i w o b) (sym (open_here s i w b h e)) (here b))

abbrev Ends : State → ℕ → Watch → Option Watch → Bool → Type 0
Ends s i w o b = watch_at i (after_stop i s o).watches ≡ Some (cond b (stopped w) w)

ends : (s : State) (i : ℕ) (w : Watch) → watch_at i s.watches ≡ Some w → Ends s i w (open_at i s) w.is_open
ends s i w h = by_flag w.is_open refl
  where
    here : (b : Bool) → Ends s i w (cond b (Some w) None) b
    here true = at_set_same s.watches i w (stopped w) h
    here false = h

    by_flag : (b : Bool) → w.is_open ≡ b → Ends s i w (open_at i s) w.is_open
    by_flag b e = subst (Ends s i w (open_at i s)) (sym e) (subst (λ o. Ends s i w o b) (sym (open_here s i w b h e)) (here b))

abbrev Hands : State → ℕ → Watch → Call → Option Own → Type 0
Hands s i w call own =
    (watch_at i (after s call).watches ≡ Some (went s.config.history s.acts w own))
    × (item_for i call (answer_to s call) ≡ item_of s.config.history s.acts w own)

hands_take : (s : State) (i j : ℕ) (w : Watch) → watch_at i s.watches ≡ Some w → Hands s i w (ask.Take j) (own_call i (ask.Take j))
hands_take s i j w h = ⊎_elim
    (λ (e : (eqb j i ≡ true) × (j ≡ i)). same j e.1 e.0)
    (λ (e : (eqb j i ≡ false) × (j ≡ i → ⊥)). rw e.0 (others_step s i w (ask.Take j) e.1 h, refl))
    (eqb_tells j i)
  where
    same : (j : ℕ) → j ≡ i → eqb j i ≡ true → Hands s i w (ask.Take j) (own_call i (ask.Take j))
    same j is e =
        let at = taken s i w h in
        rw e (
          ap (λ n. watch_at i (after_take n s (open_at n s)).watches) is ∙ at.0,
          ap (λ n. item_in (answer_take s (open_at n s))) is ∙ at.1,
        )

hands_stop : (s : State) (i j : ℕ) (w : Watch) → watch_at i s.watches ≡ Some w → Hands s i w (ask.Stop j) (own_call i (ask.Stop j))
hands_stop s i j w h = ⊎_elim
    (λ (e : (eqb j i ≡ true) × (j ≡ i)). rw e.0 (ap (λ n. watch_at i (after_stop n s (open_at n s)).watches) e.1 ∙ ends s i w h, refl))
    (λ (e : (eqb j i ≡ false) × (j ≡ i → ⊥)). rw e.0 (others_step s i w (ask.Stop j) e.1 h, refl))
    (eqb_tells j i)

hands : (s : State) (i : ℕ) (w : Watch) (call : Call) → watch_at i s.watches ≡ Some w → Hands s i w call (own_call i call)
hands s i w (ask.Write request) h = (others_step s i w (ask.Write request) tt h, refl)
hands s i w ask.Seal h = (h, refl)
hands s i w (ask.Get key) h = (h, refl)
hands s i w (ask.GetAt key revision) h = (h, refl)
hands s i w (ask.History key) h = (h, refl)
hands s i w (ask.Keys filters) h = (h, refl)
hands s i w ask.Status h = (h, refl)
hands s i w (ask.Watch filters options) h = (others_step s i w (ask.Watch filters options) tt h, refl)
hands s i w (ask.Take j) h = hands_take s i j w h
hands s i w (ask.Stop j) h = hands_stop s i j w h
hands s i w (ask.Compact floor) h = (others_step s i w (ask.Compact floor) tt h, refl)

handed_once : (h : ℕ) (acts : List Act) (w : Watch) (own : Option Own) (ms : List Meeting) →
    option_to_list (item_of h acts w own) ++ handed_by h (went h acts w own) ms ≡ handed_by h w (option_to_list (option_map (meets acts) own) ++ ms)
handed_once h acts w None ms = refl
handed_once h acts w (Some own) ms = refl

pub items_are_handed : (s : State) (i : ℕ) (w : Watch) (calls : List Call) → watch_at i s.watches ≡ Some w → items_in i s calls ≡ handed_by s.config.history w (meetings_of i s calls)
items_are_handed s i w [] h = refl
items_are_handed s i w (call ∷ calls) h =
    let own = own_call i call in
    let step = hands s i w call h in
    let next = went s.config.history s.acts w own in
    let rest = items_are_handed (after s call) i next calls step.0 in
    ap (λ o. option_to_list o ++ items_in i (after s call) calls) step.1
    ∙ ap (λ items. option_to_list (item_of s.config.history s.acts w own) ++ items) rest
    ∙ ap (λ (c : Configuration). option_to_list (item_of s.config.history s.acts w own) ++ handed_by c.history next (meetings_of i (after s call) calls)) (config_step s call)
    ∙ handed_once s.config.history s.acts w own (meetings_of i (after s call) calls)

-- the same meetings hand out the same items
pub same_items : (s t : State) (w : Watch) (i j : ℕ) (calls others : List Call) → s.config.history ≡ t.config.history → watch_at i s.watches ≡ Some w → watch_at j t.watches ≡ Some w →
    meetings_of i s calls ≡ meetings_of j t others → items_in i s calls ≡ items_in j t others
same_items s t w i j calls others limit here there same =
    items_are_handed s i w calls here
    ∙ ap (λ h. handed_by h w (meetings_of i s calls)) limit
    ∙ ap (handed_by t.config.history w) same
    ∙ sym (items_are_handed t j w others there)

-- ---- calls that leave the acts

acts_item : (s : State) (j : ℕ) (w : Watch) (next : Option Item) → (after_item j s w next).acts ≡ s.acts
acts_item s j w None = refl
acts_item s j w (Some item) = refl

acts_take : (s : State) (j : ℕ) (o : Option Watch) → (after_take j s o).acts ≡ s.acts
acts_take s j None = refl
acts_take s j (Some w) = acts_item s j w (next_of s.config.history s.acts w)

acts_stop : (s : State) (j : ℕ) (o : Option Watch) → (after_stop j s o).acts ≡ s.acts
acts_stop s j None = refl
acts_stop s j (Some w) = refl

pub acts_left : (s : State) (call : Call) → may_add_act call ≡ false → (after s call).acts ≡ s.acts
acts_left s (ask.Write request) none = cc
acts_left s ask.Seal none = cc
acts_left s (ask.Get key) none = refl
acts_left s (ask.GetAt key revision) none = refl
acts_left s (ask.History key) none = refl
acts_left s (ask.Keys filters) none = refl
acts_left s ask.Status none = refl
acts_left s (ask.Watch filters options) none = elim (has_room s) as (λ b. (cond b (add_watch (opened filters options s) s) s).acts ≡ s.acts) [ true ↦ refl | false ↦ refl ]
acts_left s (ask.Take j) none = acts_take s j (open_at j s)
acts_left s (ask.Stop j) none = acts_stop s j (open_at j s)
acts_left s (ask.Compact floor) none = cc

-- ---- a run without the calls of other watches

acts_write : (s t : State) (result : Result Write KvError) → s.acts ≡ t.acts → (after_write s result).acts ≡ (after_write t result).acts
acts_write s t (Err why) same = same
acts_write s t (Ok w) same = ap (λ (acts : List Act). acts ++ Wrote w ∷ []) same

-- the acts after a call come from the limits and the acts before it, but for a compaction, which meets the watches too
acts_step : (s t : State) (call : Call) → compacts call ≡ false → s.config ≡ t.config → s.acts ≡ t.acts → (after s call).acts ≡ (after t call).acts
acts_step s t call plain limits same = by_kind call plain
  where
    quiet : (call : Call) → may_add_act call ≡ false → (after s call).acts ≡ (after t call).acts
    quiet call none = acts_left s call none ∙ same ∙ sym (acts_left t call none)

    by_kind : (call : Call) → compacts call ≡ false → (after s call).acts ≡ (after t call).acts
    by_kind (ask.Write request) plain =
        acts_write s t (accept s.config (asked request) s.acts) same
        ∙ ap (λ (c : Configuration). (after_write t (accept c (asked request) s.acts)).acts) limits
        ∙ ap (λ (acts : List Act). (after_write t (accept t.config (asked request) acts)).acts) same
    by_kind ask.Seal plain = ap (λ (acts : List Act). acts ++ Seal ∷ []) same
    by_kind (ask.Get key) plain = same
    by_kind (ask.GetAt key revision) plain = same
    by_kind (ask.History key) plain = same
    by_kind (ask.Keys filters) plain = same
    by_kind ask.Status plain = same
    by_kind (ask.Watch filters options) plain = quiet (ask.Watch filters options) refl
    by_kind (ask.Take j) plain = quiet (ask.Take j) refl
    by_kind (ask.Stop j) plain = quiet (ask.Stop j) refl
    by_kind (ask.Compact floor) plain = cc

-- a call that doesn't bear on a watch adds no act, and is not its own
neither : (b : Bool) (own : Option Own) → b || is_some own ≡ false → (b ≡ false) × (own ≡ None)
neither true own e = cc
neither false None e = (refl, refl)
neither false (Some own) e = cc

alone_step : (i : ℕ) (s t : State) (call : Call) (calls : List Call) → s.acts ≡ t.acts
    → meetings_of i (after s call) (filter (bears_on i) calls) ≡ meetings_of i (after t call) calls
    → (s.acts ≡ (after t call).acts → meetings_of i s (filter (bears_on i) calls) ≡ meetings_of i (after t call) calls)
    → (b : Bool) → bears_on i call ≡ b → meetings_of i s (cond (bears_on i call) (call ∷ filter (bears_on i) calls) (filter (bears_on i) calls)) ≡ meetings_of i t (call ∷ calls)
alone_step i s t call calls same with_it without true e = rw e (
    ap (λ (acts : List Act). option_to_list (option_map (meets acts) (own_call i call)) ++ meetings_of i (after s call) (filter (bears_on i) calls)) same
    ∙ ap (λ ms. option_to_list (option_map (meets t.acts) (own_call i call)) ++ ms) with_it)
alone_step i s t call calls same with_it without false e =
    let none = neither (may_add_act call) (own_call i call) e in
    rw (e, none.1) (without (same ∙ sym (acts_left t call none.0)))

none_compacts : (call : Call) (calls : List Call) → list_any compacts (call ∷ calls) ≡ false → (compacts call ≡ false) × (list_any compacts calls ≡ false)
none_compacts call calls plain = by_test (compacts call) (list_any compacts calls) plain
  where
    by_test : (a b : Bool) → a || b ≡ false → (a ≡ false) × (b ≡ false)
    by_test true b e = cc
    by_test false b e = (refl, e)

alone_meets : (i : ℕ) (s t : State) (calls : List Call) → list_any compacts calls ≡ false → s.config ≡ t.config → s.acts ≡ t.acts → meetings_of i s (filter (bears_on i) calls) ≡ meetings_of i t calls
alone_meets i s t [] plain limits same = refl
alone_meets i s t (call ∷ calls) plain limits same =
    let none = none_compacts call calls plain in
    alone_step i s t call calls same
    (alone_meets i (after s call) (after t call) calls none.1 (config_step s call ∙ limits ∙ sym (config_step t call)) (acts_step s t call none.0 limits same))
    (λ later. alone_meets i s (after t call) calls none.1 (limits ∙ sym (config_step t call)) later)
    (bears_on i call) refl

pub alone : (s : State) (w : Watch) (i : ℕ) (calls : List Call) → list_any compacts calls ≡ false → watch_at i s.watches ≡ Some w → items_in i s (filter (bears_on i) calls) ≡ items_in i s calls
alone s w i calls plain here = same_items s s w i i (filter (bears_on i) calls) calls refl here here (alone_meets i s s calls plain refl refl)
