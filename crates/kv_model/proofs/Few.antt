-- The numbers of watches rise, and few are open.
use Rattle.std.proofs.Common.{◌≡◌, ℕ, ◌+◌, ◌-◌, ◌<◌, ◌≤◌, Bool, true, false, cond, List, [], ◌∷◌, Option, Some, None, Result, Ok, Err, length, filter, refl, ap, arith, length-append, length-set}
use Rattle.std.specs.Prelude.{◌&&◌, nat_lt}
use Rattle.std.proofs.lemmas.Bool.{ltb-true}
use Rattle.kv_keys.specs.declared.error.KvError.{KvError}
use Rattle.kv_model.specs.Acceptance.{accept}
use Rattle.kv_model.specs.Acts.{Write}
use Rattle.kv_model.specs.Configuration.{Configuration}
use Rattle.kv_model.specs.Requests.{asked}
use Rattle.kv_model.specs.declared.options.Options.{Options}
use Rattle.kv_model.specs.Given.{Item}
use Rattle.kv_model.specs.declared.call.Call.{Call}
use Rattle.kv_model.specs.declared.call.Call.TheVariants as ask
use Rattle.kv_model.specs.Answers.{Watching}
use Rattle.kv_model.specs.Runs.{run}
use Rattle.kv_model.specs.State.{State, Watch, watch_at, open_count, empty, next_of, open_at, has_room, set_watch, add_watch, opened, handed_one, stopped, may_compact, after_write, after_item, after_take, after_stop, after_compact, after, answer_to}
use Rattle.kv_model.proofs.Finds.{count_set, count_fewer, count_push}
use Rattle.kv_model.proofs.Numbers.{at_get, at_within, open_is}
use Rattle.kv_model.proofs.Others.{opened_is, leaves_run}

-- a later opening has a greater number
pub numbers_rise : (s : State) (between : List Call) (filters more_filters : List (List ℕ)) (options more_options : Options) (i j : ℕ) → answer_to s (ask.Watch filters options) ≡ Watching i →
    answer_to (run (after s (ask.Watch filters options)) between) (ask.Watch more_filters more_options) ≡ Watching j → i < j
numbers_rise s between filters more_filters options more_options i j first second =
    let t = run (after s (ask.Watch filters options)) between in
    let left = leaves_run (after s (ask.Watch filters options)) i (opened filters options s) between (opened_is s filters options i first).1 in
    let within = at_within t.watches i left.0 left.1 in
    let number : j ≡ length t.watches + 1 = (opened_is t more_filters more_options j second).0 in
    omega (arith, within.0, within.1, number)

-- few watches are open, and few were opened
pub record IsFew (s : State) : Type 0 where
  pub open_now : open_count s.watches ≤ 64
  pub ever : length s.watches ≤ 4294967295

set_one : (s : State) (j : ℕ) (w v : Watch) → watch_at j s.watches ≡ Some w → v.is_open ≡ w.is_open → IsFew s → IsFew (set_watch j v s)
set_one s j w v here same few = record {
  open_now = omega (arith, few.open_now, count_set (λ (u : Watch). u.is_open) s.watches (j - 1) w v (at_get s.watches j w here) same);
  ever = omega (arith, few.ever, length-set s.watches (j - 1) v);
}

stop_one : (s : State) (j : ℕ) (w : Watch) → watch_at j s.watches ≡ Some w → w.is_open ≡ true → IsFew s → IsFew (set_watch j (stopped w) s)
stop_one s j w here is few = record {
  open_now = omega (arith, few.open_now, count_fewer (λ (u : Watch). u.is_open) s.watches (j - 1) w (stopped w) (at_get s.watches j w here) is refl);
  ever = omega (arith, few.ever, length-set s.watches (j - 1) (stopped w));
}

both_true : (a b : Bool) → a && b ≡ true → (a ≡ true) × (b ≡ true)
both_true true b e = (refl, e)
both_true false b e = cc

add_one : (s : State) (w : Watch) → w.is_open ≡ true → has_room s ≡ true → IsFew (add_watch w s)
add_one s w is room =
    let both = both_true (nat_lt (open_count s.watches) 64) (nat_lt (length s.watches) 4294967295) room in
    let count : length (filter (λ (u : Watch). u.is_open) (w ∷ [])) ≡ 1 = ap (λ b. length (cond b (w ∷ []) [])) is in
    record {
      open_now = omega (arith, ltb-true (open_count s.watches) 64 both.0, count_push (λ (u : Watch). u.is_open) s.watches w, count);
      ever = omega (arith, ltb-true (length s.watches) 4294967295 both.1, length-append s.watches (w ∷ []));
    }

few_item : (s : State) (j : ℕ) (w : Watch) (next : Option Item) → watch_at j s.watches ≡ Some w → IsFew s → IsFew (after_item j s w next)
few_item s j w None here few = few
few_item s j w (Some item) here few = set_one s j w (handed_one w) here refl few

few_take : (s : State) (j : ℕ) (o : Option Watch) → open_at j s ≡ o → IsFew s → IsFew (after_take j s o)
few_take s j None e few = few
few_take s j (Some w) e few = few_item s j w (next_of s.config.history s.acts w) (open_is (watch_at j s.watches) w e).0 few

few_stop : (s : State) (j : ℕ) (o : Option Watch) → open_at j s ≡ o → IsFew s → IsFew (after_stop j s o)
few_stop s j None e few = few
few_stop s j (Some w) e few = let at = open_is (watch_at j s.watches) w e in stop_one s j w at.0 at.1 few

few_write : (s : State) (result : Result Write KvError) → IsFew s → IsFew (after_write s result)
few_write s (Err why) few = few
few_write s (Ok w) few = record { open_now = few.open_now; ever = few.ever }

few_compact : (s : State) (result : Result ℕ KvError) → IsFew s → IsFew (after_compact s result)
few_compact s (Err why) few = few
few_compact s (Ok floor) few = record { open_now = few.open_now; ever = few.ever }

few_watch : (s : State) (filters : List (List ℕ)) (options : Options) (b : Bool) → has_room s ≡ b → IsFew s → IsFew (cond b (add_watch (opened filters options s) s) s)
few_watch s filters options true e few = add_one s (opened filters options s) refl e
few_watch s filters options false e few = few

few_step : (s : State) (call : Call) → IsFew s → IsFew (after s call)
few_step s (ask.Write request) few = few_write s (accept s.config (asked request) s.acts) few
few_step s ask.Seal few = record { open_now = few.open_now; ever = few.ever }
few_step s (ask.Get key) few = few
few_step s (ask.GetAt key revision) few = few
few_step s (ask.History key) few = few
few_step s (ask.Keys filters) few = few
few_step s ask.Status few = few
few_step s (ask.Watch filters options) few = few_watch s filters options (has_room s) refl few
few_step s (ask.Take j) few = few_take s j (open_at j s) refl few
few_step s (ask.Stop j) few = few_stop s j (open_at j s) refl few
few_step s (ask.Compact floor) few = few_compact s (may_compact floor s) few

few_run : (s : State) (calls : List Call) → IsFew s → IsFew (run s calls)
few_run s [] few = few
few_run s (call ∷ calls) few = few_run (after s call) calls (few_step s call few)

pub few : (config : Configuration) (calls : List Call) → IsFew (run (empty config) calls)
few config calls = few_run (empty config) calls (record { open_now = omega arith; ever = omega arith })
