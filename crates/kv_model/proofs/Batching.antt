-- What batches accept and refuse, request by request.
use Rattle.std.proofs.Common.{◌≡◌, ℕ, zero, suc, ◌+◌, ◌<◌, ◌⊎◌, inl, inr, ⊎_elim, List, [], ◌∷◌, ◌++◌, Some, Result, Ok, Err, length, map, take, refl, sym, ap, ◌∙◌, subst, arith, append_assoc, append-nil, length-append}
use Rattle.std.specs.Prelude.{IsOk}
use Rattle.std.specs.List.{slice_get}
use Rattle.std.proofs.lemmas.List.{map-append}
use Rattle.kv_keys.specs.Outcome.{Refuses}
use Rattle.kv_keys.specs.declared.error.KvError.{KvError}
use Rattle.kv_keys.specs.declared.error.KvError.TheVariants.{OutOfMemory}
use Rattle.kv_model.specs.Acceptance.{accept}
use Rattle.kv_model.specs.Acts.{Act, Wrote, Write, writes_of}
use Rattle.kv_model.specs.Answers.{Answer, Revision}
use Rattle.kv_model.specs.Batches.{IsRefusedAt, behind_one, and_rest, accept_all, after_all, after_batch, first_revision}
use Rattle.kv_model.specs.Configuration.{Configuration}
use Rattle.kv_model.specs.Requests.{Asked, asked}
use Rattle.kv_model.specs.Runs.{run, answers_to}
use Rattle.kv_model.specs.State.{State, add_act, after, after_write, answer_to, answer_write}
use Rattle.kv_model.specs.declared.batch.BatchRefused.{BatchRefused}
use Rattle.kv_model.specs.declared.call.Call.TheVariants as ask
use Rattle.kv_model.specs.declared.request.Request.{Request}
use Rattle.kv_model.proofs.NoMemory.{accept_no}
use Rattle.kv_model.proofs.Numbered.{accepted_is_next, writes_of-wrote}

-- a refusal that is none of memory is the outcome, and the other way round
refuses_is : {X : Type 0} (e : KvError) (outcome : Result X KvError) → (e ≡ OutOfMemory → ⊥) → (Refuses e outcome → outcome ≡ Err e) × (outcome ≡ Err e → Refuses e outcome)
refuses_is {X} OutOfMemory outcome other = absurd (other refl)
refuses_is {X} _ outcome other = (λ h. h, λ h. h)

pub outcome_of : {X : Type 0} (e : KvError) (outcome : Result X KvError) → Refuses e outcome → (e ≡ OutOfMemory → ⊥) → outcome ≡ Err e
outcome_of {X} e outcome h other = (refuses_is e outcome other).0 h

refuses_outcome : {X : Type 0} (e : KvError) (outcome : Result X KvError) → outcome ≡ Err e → (e ≡ OutOfMemory → ⊥) → Refuses e outcome
refuses_outcome {X} e outcome h other = (refuses_is e outcome other).1 h

abbrev pub refused_at : ℕ → KvError → BatchRefused
refused_at at error = record { at = at; error = error }

-- one act more in front
pub after_more : (acts : List Act) (w : Write) (ws : List Write) → after_all (acts ++ Wrote w ∷ []) ws ≡ after_all acts (w ∷ ws)
after_more acts w ws = append_assoc acts (Wrote w ∷ []) (map Wrote ws)

-- and one more behind the others
pub after_last : (acts : List Act) (ws : List Write) (w : Write) → after_all acts (ws ++ w ∷ []) ≡ after_all acts ws ++ Wrote w ∷ []
after_last acts ws w = ap (λ (more : List Act). acts ++ more) (map-append Wrote ws (w ∷ [])) ∙ sym (append_assoc acts (map Wrote ws) (Wrote w ∷ []))

pub after_none : (acts : List Act) → after_all acts [] ≡ acts
after_none acts = append-nil acts

-- ---- the first request of a batch and the rest

abbrev pub SplitOk : Result Write KvError → (Write → Result (List Write) BatchRefused) → List Write → Type 0
SplitOk r rest ws = (v : Write) × (vs : List Write) × (r ≡ Ok v) × (rest v ≡ Ok vs) × (ws ≡ v ∷ vs)

pub split_ok : (r : Result Write KvError) (rest : Write → Result (List Write) BatchRefused) (ws : List Write) → and_rest r rest ≡ Ok ws → SplitOk r rest ws
split_ok (Err error) rest ws h = cc
split_ok (Ok v) rest ws h = by_rest (rest v) refl h
  where
    by_rest : (q : Result (List Write) BatchRefused) → rest v ≡ q → behind_one v q ≡ Ok ws → SplitOk (Ok v) rest ws
    by_rest (Ok vs) e g = (v, vs, refl, e, cc)
    by_rest (Err refused) e g = cc

abbrev SplitErr : Result Write KvError → (Write → Result (List Write) BatchRefused) → BatchRefused → Type 0
SplitErr r rest refused = ((e : KvError) × (r ≡ Err e) × (refused ≡ refused_at 0 e))
    ⊎ ((v : Write) × (later : BatchRefused) × (r ≡ Ok v) × (rest v ≡ Err later) × (refused ≡ refused_at (later.at + 1) later.error))

split_err : (r : Result Write KvError) (rest : Write → Result (List Write) BatchRefused) (refused : BatchRefused) → and_rest r rest ≡ Err refused → SplitErr r rest refused
split_err (Err error) rest refused h = inl (error, refl, cc)
split_err (Ok v) rest refused h = by_rest (rest v) refl h
  where
    by_rest : (q : Result (List Write) BatchRefused) → rest v ≡ q → behind_one v q ≡ Err refused → SplitErr (Ok v) rest refused
    by_rest (Ok vs) e g = cc
    by_rest (Err later) e g = inr (v, later, refl, e, cc)

join_ok : (r : Result Write KvError) (rest : Write → Result (List Write) BatchRefused) (v : Write) (q : Result (List Write) BatchRefused) → r ≡ Ok v → rest v ≡ q → and_rest r rest ≡ behind_one v q
join_ok r rest v q e f = ap (λ (o : Result Write KvError). and_rest o rest) e ∙ ap (behind_one v) f

module _ (config : Configuration) where
  abbrev pub rest_of : List Asked → List Act → Write → Result (List Write) BatchRefused
  rest_of xs acts w = accept_all config xs (acts ++ Wrote w ∷ [])

  -- ---- a batch grows by a request at its end

  pub accept_more : (xs : List Asked) (x : Asked) (acts : List Act) (ws : List Write) (w : Write) → accept_all config xs acts ≡ Ok ws → accept config x (after_all acts ws) ≡ Ok w → accept_all config (xs ++ x ∷ []) acts ≡ Ok (ws ++ w ∷ [])
  accept_more [] x acts ws w h next =
      let none : ws ≡ [] = cc in
      let here : accept config x acts ≡ Ok w = ap (accept config x) (sym (after_none acts)) ∙ (ap (λ us. accept config x (after_all acts us)) (sym none) ∙ next) in
      join_ok (accept config x acts) (rest_of [] acts) w (Ok []) here refl ∙ ap (λ us. Ok (us ++ w ∷ [])) (sym none)
  accept_more (y ∷ xs) x acts ws w h next =
      let one = split_ok (accept config y acts) (rest_of xs acts) ws h in
      let v = one.0 in
      let vs = one.1 in
      let there : accept config x (after_all (acts ++ Wrote v ∷ []) vs) ≡ Ok w = ap (accept config x) (after_more acts v vs) ∙ (ap (λ us. accept config x (after_all acts us)) (sym one.4) ∙ next) in
      let more = accept_more xs x (acts ++ Wrote v ∷ []) vs w one.3 there in
      join_ok (accept config y acts) (rest_of (xs ++ x ∷ []) acts) v (Ok (vs ++ w ∷ [])) one.2 more ∙ ap (λ us. Ok (us ++ w ∷ [])) (sym one.4)

  -- the first requests of a batch make its first writes
  pub accept_take : (xs : List Asked) (acts : List Act) (ws : List Write) (k : ℕ) → accept_all config xs acts ≡ Ok ws → accept_all config (take k xs) acts ≡ Ok (take k ws)
  accept_take xs acts ws zero h = refl
  accept_take [] acts ws (suc k) h = let none : [] ≡ ws = cc in ap (λ us. Ok (take (suc k) us)) none
  accept_take (x ∷ xs) acts ws (suc k) h =
      let one = split_ok (accept config x acts) (rest_of xs acts) ws h in
      let more = accept_take xs (acts ++ Wrote one.0 ∷ []) one.1 k one.3 in
      join_ok (accept config x acts) (rest_of (take k xs) acts) one.0 (Ok (take k one.1)) one.2 more ∙ ap (λ us. Ok (take (suc k) us)) (sym one.4)

  -- ---- how many, and their revisions

  pub as_many : (xs : List Asked) (acts : List Act) (ws : List Write) → accept_all config xs acts ≡ Ok ws → length ws ≡ length xs
  as_many [] acts ws h = let none : ws ≡ [] = cc in ap length none
  as_many (x ∷ xs) acts ws h =
      let one = split_ok (accept config x acts) (rest_of xs acts) ws h in
      ap length one.4 ∙ ap suc (as_many xs (acts ++ Wrote one.0 ∷ []) one.1 one.3)

  first_is : (x : Asked) (acts : List Act) (v : Write) → accept config x acts ≡ Ok v → v.revision ≡ length (writes_of acts) + 1
  first_is x acts v h = ap (λ (w : Write). w.revision) (sym (accepted_is_next config x acts v h))

  pub numbered : (xs : List Asked) (acts : List Act) (ws : List Write) (i : ℕ) (w : Write) → accept_all config xs acts ≡ Ok ws → slice_get ws i ≡ Some w → w.revision ≡ length (writes_of acts) + 1 + i
  numbered [] acts ws i w h at = let none : ws ≡ [] = cc in absurd (cc (ap (λ us. slice_get us i) none, at))
  numbered (x ∷ xs) acts ws zero w h at =
      let one = split_ok (accept config x acts) (rest_of xs acts) ws h in
      let same : one.0 ≡ w = cc (ap (λ us. slice_get us 0) one.4, at) in
      let number = first_is x acts one.0 one.2 in
      omega (arith, number, ap (λ (v : Write). v.revision) same)
  numbered (x ∷ xs) acts ws (suc j) w h at =
      let one = split_ok (accept config x acts) (rest_of xs acts) ws h in
      let later = numbered xs (acts ++ Wrote one.0 ∷ []) one.1 j w one.3 (sym (ap (λ us. slice_get us (suc j)) one.4) ∙ at) in
      let total : length (writes_of (acts ++ Wrote one.0 ∷ [])) ≡ length (writes_of acts) + 1 = ap length (writes_of-wrote acts one.0) ∙ length-append (writes_of acts) (one.0 ∷ []) in
      omega (arith, later, total)

  pub first_number : (xs : List Asked) (acts : List Act) (ws : List Write) → accept_all config xs acts ≡ Ok ws → (ws ≡ [] → ⊥) → first_revision acts ws ≡ length (writes_of acts) + 1
  first_number xs acts [] h some = absurd (some refl)
  first_number xs acts (v ∷ vs) h some = let number = numbered xs acts (v ∷ vs) 0 v h refl in omega (arith, number)

  pub from_first : (xs : List Asked) (acts : List Act) (ws : List Write) (i : ℕ) (w : Write) → accept_all config xs acts ≡ Ok ws → slice_get ws i ≡ Some w → w.revision ≡ first_revision acts ws + i
  from_first xs acts [] i w h at = cc
  from_first xs acts (v ∷ vs) i w h at =
      let number = numbered xs acts (v ∷ vs) i w h at in
      let first = first_number xs acts (v ∷ vs) h (λ e. cc) in
      omega (arith, number, first)

  -- ---- where a batch is refused

  refused_first : (x : Asked) (xs : List Asked) (acts : List Act) (e : KvError) → accept config x acts ≡ Err e → IsRefusedAt config (x ∷ xs) acts (refused_at 0 e)
  refused_first x xs acts e h = record {
    request = x;
    is = refl;
    before = [];
    accepted = refl;
    refuses = refuses_outcome e (accept config x (after_all acts [])) (ap (accept config x) (after_none acts) ∙ h) (λ f. accept_no config x acts (h ∙ ap Err f));
  }

  refused_later : (x : Asked) (xs : List Asked) (acts : List Act) (v : Write) (later : BatchRefused) → accept config x acts ≡ Ok v → IsRefusedAt config xs (acts ++ Wrote v ∷ []) later → IsRefusedAt config (x ∷ xs) acts (refused_at (later.at + 1) later.error)
  refused_later x xs acts v later h r =
      let n : later.at + 1 ≡ suc later.at = omega arith in
      record {
        request = r.request;
        is = ap (slice_get (x ∷ xs)) n ∙ r.is;
        before = v ∷ r.before;
        accepted = ap (λ k. accept_all config (take k (x ∷ xs)) acts) n ∙ join_ok (accept config x acts) (rest_of (take later.at xs) acts) v (Ok r.before) h r.accepted;
        refuses = subst (λ (before : List Act). Refuses later.error (accept config r.request before)) (after_more acts v r.before) r.refuses;
      }

  pub refused_somewhere : (xs : List Asked) (acts : List Act) (refused : BatchRefused) → accept_all config xs acts ≡ Err refused → IsRefusedAt config xs acts refused
  refused_somewhere [] acts refused h = cc
  refused_somewhere (x ∷ xs) acts refused h =
      ⊎_elim
      (λ (s : (e : KvError) × (accept config x acts ≡ Err e) × (refused ≡ refused_at 0 e)). subst (IsRefusedAt config (x ∷ xs) acts) (sym s.2) (refused_first x xs acts s.0 s.1))
      (λ (s : (v : Write) × (later : BatchRefused) × (accept config x acts ≡ Ok v) × (rest_of xs acts v ≡ Err later) × (refused ≡ refused_at (later.at + 1) later.error)).
      subst (IsRefusedAt config (x ∷ xs) acts) (sym s.4) (refused_later x xs acts s.0 s.1 s.2 (refused_somewhere xs (acts ++ Wrote s.0 ∷ []) s.1 s.3)))
      (split_err (accept config x acts) (rest_of xs acts) refused h)

  pub never_memory : (xs : List Asked) (acts : List Act) (refused : BatchRefused) → accept_all config xs acts ≡ Err refused → refused.error ≡ OutOfMemory → ⊥
  never_memory [] acts refused h = cc
  never_memory (x ∷ xs) acts refused h =
      ⊎_elim
      (λ (s : (e : KvError) × (accept config x acts ≡ Err e) × (refused ≡ refused_at 0 e)). λ f. accept_no config x acts (s.1 ∙ ap Err (sym (ap (λ (r : BatchRefused). r.error) s.2) ∙ f)))
      (λ (s : (v : Write) × (later : BatchRefused) × (accept config x acts ≡ Ok v) × (rest_of xs acts v ≡ Err later) × (refused ≡ refused_at (later.at + 1) later.error)).
      λ f. never_memory xs (acts ++ Wrote s.0 ∷ []) s.1 s.3 (sym (ap (λ (r : BatchRefused). r.error) s.4) ∙ f))
      (split_err (accept config x acts) (rest_of xs acts) refused h)

  refused_there : (xs : List Asked) (acts : List Act) (at : ℕ) (e : KvError) (x : Asked) (before : List Write) → slice_get xs at ≡ Some x → accept_all config (take at xs) acts ≡ Ok before → accept config x (after_all acts before) ≡ Err e → accept_all config xs acts ≡ Err (refused_at at e)
  refused_there [] acts at e x before is h denied = cc
  refused_there (y ∷ ys) acts zero e x before is h denied =
      let none : before ≡ [] = cc in
      let same : y ≡ x = cc in
      let here : accept config y acts ≡ Err e = ap (λ z. accept config z acts) same ∙ (ap (accept config x) (sym (after_none acts)) ∙ (ap (λ us. accept config x (after_all acts us)) (sym none) ∙ denied)) in
      ap (λ (o : Result Write KvError). and_rest o (rest_of ys acts)) here
  refused_there (y ∷ ys) acts (suc k) e x before is h denied =
      let one = split_ok (accept config y acts) (rest_of (take k ys) acts) before h in
      let there : accept config x (after_all (acts ++ Wrote one.0 ∷ []) one.1) ≡ Err e = ap (accept config x) (after_more acts one.0 one.1) ∙ (ap (λ us. accept config x (after_all acts us)) (sym one.4) ∙ denied) in
      let n : k + 1 ≡ suc k = omega arith in
      join_ok (accept config y acts) (rest_of ys acts) one.0 (Err (refused_at k e)) one.2 (refused_there ys (acts ++ Wrote one.0 ∷ []) k e x one.1 is one.3 there) ∙ ap (λ m. Err (refused_at m e)) n

  pub refused_only : (xs : List Asked) (acts : List Act) (refused : BatchRefused) → IsRefusedAt config xs acts refused → (refused.error ≡ OutOfMemory → ⊥) → accept_all config xs acts ≡ Err refused
  refused_only xs acts refused r other =
      refused_there xs acts refused.at refused.error r.request r.before r.is r.accepted (outcome_of refused.error (accept config r.request (after_all acts r.before)) r.refuses other)

-- want of memory at one of the requests of a batch that would be accepted
pub memory_at : (config : Configuration) (xs : List Asked) (acts : List Act) (ws : List Write) (k : ℕ) → accept_all config xs acts ≡ Ok ws → k < length xs → IsRefusedAt config xs acts (refused_at k OutOfMemory)
memory_at config [] acts ws k h l = absurd (omega arith)
memory_at config (x ∷ xs) acts ws zero h l =
    let one = split_ok (accept config x acts) (rest_of config xs acts) ws h in
    record {
      request = x;
      is = refl;
      before = [];
      accepted = refl;
      refuses = subst (λ (r : Result Write KvError). IsOk r) (sym (ap (accept config x) (after_none acts) ∙ one.2)) refl;
    }
memory_at config (x ∷ xs) acts ws (suc k) h l =
    let one = split_ok (accept config x acts) (rest_of config xs acts) ws h in
    let later = memory_at config xs (acts ++ Wrote one.0 ∷ []) one.1 k one.3 (omega arith) in
    let n : k + 1 ≡ suc k = omega arith in
    subst (λ m. IsRefusedAt config (x ∷ xs) acts (refused_at m OutOfMemory)) n (refused_later config x xs acts one.0 (refused_at k OutOfMemory) one.2 later)

-- ---- a batch is a run

pub none_stays : (s : State) → after_batch s (Ok []) ≡ s
none_stays s = ap (λ (acts : List Act). record s { acts = acts }) (after_none s.acts)

pub batch_runs : (s : State) (requests : List Request) (ws : List Write) → accept_all s.config (map asked requests) s.acts ≡ Ok ws → run s (map ask.Write requests) ≡ after_batch s (Ok ws)
batch_runs s [] ws h =
    let none : ws ≡ [] = cc in
    sym (none_stays s) ∙ ap (λ us. after_batch s (Ok us)) (sym none)
batch_runs s (r ∷ rs) ws h =
    let one = split_ok (accept s.config (asked r) s.acts) (rest_of s.config (map asked rs) s.acts) ws h in
    let v = one.0 in
    let first : after s (ask.Write r) ≡ add_act (Wrote v) s = ap (after_write s) one.2 in
    ap (λ (t : State). run t (map ask.Write rs)) first
    ∙ (batch_runs (add_act (Wrote v) s) rs one.1 one.3
    ∙ (ap (λ (acts : List Act). record s { acts = acts }) (after_more s.acts v one.1) ∙ ap (λ us. after_batch s (Ok us)) (sym one.4)))

pub batch_answers : (s : State) (requests : List Request) (ws : List Write) → accept_all s.config (map asked requests) s.acts ≡ Ok ws → answers_to s (map ask.Write requests) ≡ map (λ w. Revision w.revision) ws
batch_answers s [] ws h = let none : ws ≡ [] = cc in ap (map (λ w. Revision w.revision)) (sym none)
batch_answers s (r ∷ rs) ws h =
    let one = split_ok (accept s.config (asked r) s.acts) (rest_of s.config (map asked rs) s.acts) ws h in
    let v = one.0 in
    let first : after s (ask.Write r) ≡ add_act (Wrote v) s = ap (after_write s) one.2 in
    let answer : answer_to s (ask.Write r) ≡ Revision v.revision = ap answer_write one.2 in
    ap (λ (a : Answer). a ∷ answers_to (after s (ask.Write r)) (map ask.Write rs)) answer
    ∙ (ap (λ (t : State). Revision v.revision ∷ answers_to t (map ask.Write rs)) first
    ∙ (ap (λ as'. Revision v.revision ∷ as') (batch_answers (add_act (Wrote v) s) rs one.1 one.3) ∙ ap (map (λ w. Revision w.revision)) (sym one.4)))
