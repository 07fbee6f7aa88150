-- Calls of C in a row are a run of the model.
use Rattle.std.proofs.Common.{◌≡◌, ℕ, ◌+◌, List, [], ◌∷◌, ◌++◌, Option, Some, None, Ok, length, map, refl, sym, ap, ◌∙◌, subst, arith, length-append}
use Rattle.std.specs.List.{slice_get}
use Rattle.std.proofs.lemmas.List.{map-append}
use Rattle.kv_c.specs.Calling.{StandsAt}
use Rattle.kv_c.specs.Rows.{AreDone, Does, Done, exchanges_of, told, written, step, batch, failed}
use Rattle.kv_c.specs.declared.content.Content.{Content}
use Rattle.kv_c.specs.declared.filed.Filed.{Filed}
use Rattle.kv_c.specs.declared.content.Content.TheVariants.{Bucket, View, Feed, Batch, Made}
use Rattle.kv_model.specs.Acts.{Wrote, Write, writes_of}
use Rattle.kv_model.specs.Answers.{Answer, Revision}
use Rattle.kv_model.specs.Batches.{accept_all, first_revision}
use Rattle.kv_model.specs.Requests.{asked}
use Rattle.kv_model.specs.Runs.{Exchange, calls_of, run, transcript}
use Rattle.kv_model.specs.State.{State, Watch, add_act, after, after_write, answer_to, answer_write, open_at}
use Rattle.kv_model.specs.Told.{Tells, TellsEachWatch}
use Rattle.kv_model.specs.declared.call.Call.{Call}
use Rattle.kv_model.specs.declared.call.Call.TheVariants as calls
use Rattle.kv_model.specs.declared.request.Request.{Request}
use Rattle.kv_model.proofs.Batching.{as_many, batch_runs, first_number, numbered, rest_of, split_ok}
use Rattle.kv_model.proofs.Numbered.{writes_of-wrote}
use Rattle.kv_model.proofs.Others.{run-append}
use Rattle.kv_model.proofs.Theorem.{tells_each_watch}
use Rattle.kv_model.specs.Acceptance.{accept}
use Rattle.kv_single.specs.Held.{Bucketed, Represents}
use Rattle.kv_single.proofs.Whoever.{run_tells}

-- exchanges are those of the run of their calls, and that leads to what a handle holds
abbrev Ran : State → List Exchange → Option Content → Type 0
Ran state es new = (es ≡ transcript state (calls_of es)) × StandsAt (run state (calls_of es)) new

-- ---- a batch

calls_written : (requests : List Request) (first : ℕ) → calls_of (written requests first) ≡ map calls.Write requests
calls_written [] first = refl
calls_written (r ∷ rs) first = ap (λ (cs : List Call). calls.Write r ∷ cs) (calls_written rs (first + 1))

numbered_from : (s : State) (requests : List Request) (ws : List Write) (first : ℕ) → accept_all s.config (map asked requests) s.acts ≡ Ok ws → first ≡ length (writes_of s.acts) + 1 → written requests first ≡ transcript s (map calls.Write requests)
numbered_from s [] ws first h at = refl
numbered_from s (r ∷ rs) ws first h at =
    let one = split_ok (accept s.config (asked r) s.acts) (rest_of s.config (map asked rs) s.acts) ws h in
    let v = one.0 in
    let next : after s (calls.Write r) ≡ add_act (Wrote v) s = ap (after_write s) one.2 in
    let number = numbered s.config (map asked (r ∷ rs)) s.acts ws 0 v h (ap (λ (us : List Write). slice_get us 0) one.4) in
    let same : first ≡ v.revision = omega (arith, at, number) in
    let answer : Revision first ≡ answer_to s (calls.Write r) = ap Revision same ∙ sym (ap answer_write one.2) in
    let total : length (writes_of (s.acts ++ Wrote v ∷ [])) ≡ length (writes_of s.acts) + 1 = ap length (writes_of-wrote s.acts v) ∙ length-append (writes_of s.acts) (v ∷ []) in
    let more = numbered_from (add_act (Wrote v) s) rs one.1 (first + 1) one.3 (omega (arith, at, total)) in
    ap (λ (a : Answer). record { call = calls.Write r; answer = a } ∷ written rs (first + 1)) answer
    ∙ ap (λ (es : List Exchange). record { call = calls.Write r; answer = answer_to s (calls.Write r) } ∷ es) (more ∙ ap (λ (t : State). transcript t (map calls.Write rs)) (sym next))

from_first : (s : State) (requests : List Request) (ws : List Write) (first : ℕ) → accept_all s.config (map asked requests) s.acts ≡ Ok ws → first ≡ first_revision s.acts ws → written requests first ≡ transcript s (map calls.Write requests)
from_first s [] ws first h at = refl
from_first s (r ∷ rs) ws first h at =
    let some : ws ≡ [] → ⊥ = λ none. omega (arith, as_many s.config (map asked (r ∷ rs)) s.acts ws h, ap (λ (us : List Write). length us) none) in
    numbered_from s (r ∷ rs) ws first h (at ∙ first_number s.config (map asked (r ∷ rs)) s.acts ws h some)

-- ---- one call

batch_ran : (requests : List Request) (first : ℕ) (old : Bucketed) (f : Option Filed) (m : ℕ) (next : Option Content) (state : State) → Does (batch requests first) (Some (Bucket old f m)) next → Represents state old → Ran state (written requests first) next
batch_ran requests first old f m None state does r = absurd does
batch_ran requests first old f m (Some (View v o)) state does r = absurd does
batch_ran requests first old f m (Some (Feed w o)) state does r = absurd does
batch_ran requests first old f m (Some (Batch whats)) state does r = absurd does
batch_ran requests first old f m (Some (Made w n)) state does r = absurd does
batch_ran requests first old f m (Some (Bucket new g n)) state does r =
    let made = does.1 state r in
    let are = calls_written requests first in (
      from_first state requests made.0 first made.1.0 made.1.1.0 ∙ ap (transcript state) (sym are),
      subst (λ (s : State). Represents s new) (sym (ap (run state) are ∙ batch_runs state requests made.0 made.1.0)) made.1.1.1,
    )

step_ran : (exchange : Exchange) (old : Bucketed) (f : Option Filed) (m : ℕ) (next : Option Content) (state : State) → Does (step exchange) (Some (Bucket old f m)) next → Represents state old → Ran state (exchange ∷ []) next
step_ran exchange old f m None state does r = absurd does
step_ran exchange old f m (Some (View v o)) state does r = absurd does
step_ran exchange old f m (Some (Feed w o)) state does r = absurd does
step_ran exchange old f m (Some (Batch whats)) state does r = absurd does
step_ran exchange old f m (Some (Made w n)) state does r = absurd does
step_ran exchange old f m (Some (Bucket new g n)) state does r =
    let one = does.1 state r in (ap (λ (a : Answer). record { call = exchange.call; answer = a } ∷ []) one.0, one.1)

failed_ran : (old : Bucketed) (f : Option Filed) (m : ℕ) (next : Option Content) (state : State) → Does failed (Some (Bucket old f m)) next → Represents state old → Ran state [] next
failed_ran old f m None state does r = absurd does
failed_ran old f m (Some (View v o)) state does r = absurd does
failed_ran old f m (Some (Feed w o)) state does r = absurd does
failed_ran old f m (Some (Batch whats)) state does r = absurd does
failed_ran old f m (Some (Made w n)) state does r = absurd does
failed_ran old f m (Some (Bucket new g n)) state does r = (refl, subst (Represents state) (sym does.1) r)

in_bucket : (done : Done) (old : Bucketed) (f : Option Filed) (m : ℕ) (next : Option Content) (state : State) → Does done (Some (Bucket old f m)) next → Represents state old → Ran state (exchanges_of done) next
in_bucket (step exchange) old f m next state does r = step_ran exchange old f m next state does r
in_bucket (batch requests first) old f m next state does r = batch_ran requests first old f m next state does r
in_bucket failed old f m next state does r = failed_ran old f m next state does r

one_ran : (done : Done) (old next : Option Content) (state : State) → Does done old next → StandsAt state old → Ran state (exchanges_of done) next
one_ran done None next state does stands = absurd stands
one_ran done (Some (View v o)) next state does stands = absurd stands
one_ran done (Some (Feed f o)) next state does stands = absurd stands
one_ran done (Some (Batch whats)) next state does stands = absurd stands
one_ran done (Some (Made w n)) next state does stands = absurd stands
one_ran done (Some (Bucket old f m)) next state does stands = in_bucket done old f m next state does stands

-- ---- calls in a row

first_of : {X : Type 0} {x y : X} {xs ys : List X} → x ∷ xs ≡ y ∷ ys → x ≡ y
first_of e = cc

others_of : {X : Type 0} {x y : X} {xs ys : List X} → x ∷ xs ≡ y ∷ ys → xs ≡ ys
others_of e = cc

join : (state : State) (some more : List Exchange) → some ≡ transcript state (calls_of some) → more ≡ transcript (run state (calls_of some)) (calls_of more) → some ++ more ≡ transcript state (calls_of (some ++ more))
join state [] more are rest = rest
join state (x ∷ xs) more are rest =
    ap (λ (y : Exchange). y ∷ (xs ++ more)) (first_of are)
    ∙ ap (λ (es : List Exchange). record { call = x.call; answer = answer_to state x.call } ∷ es) (join (after state x.call) xs more (others_of are) rest)

all_ran : (done : List Done) (old new : Option Content) (state : State) → AreDone old done new → StandsAt state old → Ran state (told done) new
all_ran [] old new state are stands = (refl, subst (StandsAt state) (sym are) stands)
all_ran (d ∷ ds) old new state are stands =
    let one = one_ran d old are.0 state are.1 stands in
    let some = calls_of (exchanges_of d) in
    let rest = all_ran ds are.0 new (run state some) are.2 one.1 in
    let split : run state (calls_of (exchanges_of d ++ told ds)) ≡ run (run state some) (calls_of (told ds)) = ap (run state) (map-append (λ (e : Exchange). e.call) (exchanges_of d) (told ds)) ∙ run-append state some (calls_of (told ds)) in
    (join state (exchanges_of d) (told ds) one.0 rest.0, subst (λ (s : State). StandsAt s new) (sym split) rest.1)

pub calls_tell : (old new : Option Content) (done : List Done) (state : State) → AreDone old done new → StandsAt state old → TellsEachWatch state (told done)
calls_tell old new done state are stands = subst (TellsEachWatch state) (sym (all_ran done old new state are stands).0) (tells_each_watch state (calls_of (told done)))

-- ---- a watch that was open before

pub calls_tell_held : (old new : Option Content) (done : List Done) (state : State) (number : ℕ) (watch : Watch) → AreDone old done new → StandsAt state old → open_at number state ≡ Some watch → Tells state (told done) number watch
calls_tell_held None new done state number watch are stands is_open = absurd stands
calls_tell_held (Some (View v o)) new done state number watch are stands is_open = absurd stands
calls_tell_held (Some (Feed f o)) new done state number watch are stands is_open = absurd stands
calls_tell_held (Some (Batch whats)) new done state number watch are stands is_open = absurd stands
calls_tell_held (Some (Made w n)) new done state number watch are stands is_open = absurd stands
calls_tell_held (Some (Bucket old f m)) new done state number watch are stands is_open =
    subst (λ (es : List Exchange). Tells state es number watch) (sym (all_ran done (Some (Bucket old f m)) new state are stands).0)
    (run_tells state old watch stands number (calls_of (told done)) is_open)
