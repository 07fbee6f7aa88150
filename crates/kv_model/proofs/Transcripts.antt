-- Transcripts of runs, split at an exchange.
use Rattle.std.proofs.Common.{◌≡◌, List, [], ◌∷◌, ◌++◌, refl, sym, ap, ◌∙◌, subst}
use Rattle.kv_model.specs.declared.call.Call.{Call}
use Rattle.kv_model.specs.Runs.{Exchange, calls_of, run, transcript}
use Rattle.kv_model.specs.State.{State, after, answer_to}

-- the calls of a transcript are those of its run
pub calls_are : (s : State) (calls : List Call) → calls_of (transcript s calls) ≡ calls
calls_are s [] = refl
calls_are s (call ∷ calls) = ap (λ (cs : List Call). call ∷ cs) (calls_are (after s call) calls)

-- an exchange of a run: the calls before it, its answer, and the transcripts of the runs before and behind it
pub record Splits (s : State) (calls : List Call) (earlier later : List Exchange) (e : Exchange) : Type 0 where
  pub made : calls ≡ calls_of earlier ++ e.call ∷ calls_of later
  pub answer : answer_to (run s (calls_of earlier)) e.call ≡ e.answer
  pub before : earlier ≡ transcript s (calls_of earlier)
  pub behind : later ≡ transcript (after (run s (calls_of earlier)) e.call) (calls_of later)

first_of : {X : Type 0} {x y : X} {xs ys : List X} → x ∷ xs ≡ y ∷ ys → x ≡ y
first_of e = cc

rest_of : {X : Type 0} {x y : X} {xs ys : List X} → x ∷ xs ≡ y ∷ ys → xs ≡ ys
rest_of e = cc

pub splits : (s : State) (calls : List Call) (earlier later : List Exchange) (e : Exchange) → transcript s calls ≡ earlier ++ e ∷ later → Splits s calls earlier later e
splits s [] [] later e parts = cc
splits s [] (x ∷ earlier) later e parts = cc
splits s (call ∷ calls) [] later e parts =
    let one : e ≡ record { call = call; answer = answer_to s call } = sym (first_of parts) in
    let called : e.call ≡ call = ap (λ (x : Exchange). x.call) one in
    let rest : later ≡ transcript (after s call) calls = sym (rest_of parts) in
    let more : calls_of later ≡ calls = ap calls_of rest ∙ calls_are (after s call) calls in
    record {
      made = ap (λ (c : Call). c ∷ calls) (sym called) ∙ ap (λ (cs : List Call). e.call ∷ cs) (sym more);
      answer = ap (answer_to s) called ∙ sym (ap (λ (x : Exchange). x.answer) one);
      before = refl;
      behind = rest ∙ ap (transcript (after s call)) (sym more) ∙ ap (λ (c : Call). transcript (after s c) (calls_of later)) (sym called);
    }
splits s (call ∷ calls) (x ∷ earlier) later e parts =
    let one : x ≡ record { call = call; answer = answer_to s call } = sym (first_of parts) in
    let called : call ≡ x.call = sym (ap (λ (y : Exchange). y.call) one) in
    let at : Splits (after s call) calls earlier later e = splits (after s call) calls earlier later e (rest_of parts) in
    let here : Splits (after s x.call) calls earlier later e = subst (λ (c : Call). Splits (after s c) calls earlier later e) called at in
    record {
      made = ap (λ (c : Call). c ∷ calls) called ∙ ap (λ (cs : List Call). x.call ∷ cs) here.made;
      answer = here.answer;
      before = ap (λ (y : Exchange). y ∷ earlier) (one ∙ ap (λ (c : Call). record { call = c; answer = answer_to s c }) called) ∙ ap (λ (es : List Exchange). record { call = x.call; answer = answer_to s x.call } ∷ es) here.before;
      behind = here.behind;
    }
