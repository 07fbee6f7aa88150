-- One call more of a run, and what a run tells each watch.
use Rattle.std.proofs.Common.{◌≡◌, ◌<◌, ℕ, List, [], ◌∷◌, ◌++◌, Result, Ok, Err, OnErr, length, map, drop, take, sym, ap, ◌∙◌, subst, append_assoc}
use Rattle.std.proofs.Math.Seq.{drop-append_seam}
use Rattle.std.proofs.lemmas.List.{map-append}
use Rattle.kv_model.specs.declared.call.Call.{Call}
use Rattle.kv_single.specs.declared.reply.Reply.{Reply}
use Rattle.kv_single.specs.Replies.{answer_of}
use Rattle.kv_model.specs.Answers.{Answer}
use Rattle.kv_single.specs.Held.{Bucketed, Represents}
use Rattle.kv_model.specs.Runs.{run, answers_to, exchanges}
use Rattle.kv_model.specs.State.{State}
use Rattle.kv_single.specs.Stepping.{IsRun, IsStep}
use Rattle.kv_model.specs.Told.{TellsEachWatch}
use Rattle.kv_model.proofs.Others.{run-append, answers-append}
use Rattle.kv_model.proofs.Theorem.{tells_each_watch}

pub run_push : (old now new : Bucketed) (calls : List Call) (call : Call) (before replies more : List Reply) (reply : Reply) →
    IsRun old calls before replies now → IsStep now call (answer_of reply) new → more ≡ replies ++ reply ∷ [] → IsRun old (calls ++ call ∷ []) before more new
run_push old now new calls call before replies more reply ran step pushed = (
  ran.0 ++ reply ∷ [],
  pushed ∙ ap (λ rs. rs ++ reply ∷ []) ran.1 ∙ append_assoc before ran.0 (reply ∷ []),
  λ state r. (
      let so_far = ran.2 state r in
      let one = step (run state calls) so_far.1 in (
        map-append answer_of ran.0 (reply ∷ [])
            ∙ ap (λ (as' : List Answer). as' ++ answer_of reply ∷ []) so_far.0
            ∙ ap (λ (a : Answer). answers_to state calls ++ a ∷ []) one.0
            ∙ sym (answers-append state calls (call ∷ [])),
        subst (λ (s : State). Represents s new) (sym (run-append state calls (call ∷ []))) one.1,
      )),
)

pub run_tells : (old new : Bucketed) (calls : List Call) (before replies : List Reply) → IsRun old calls before replies new →
    (state : State) → Represents state old → TellsEachWatch state (exchanges calls (map answer_of (drop (length before) replies)))
run_tells old new calls before replies ran state r =
    let added : drop (length before) replies ≡ ran.0 = ap (drop (length before)) ran.1 ∙ drop-append_seam before ran.0 in
    let answers : map answer_of (drop (length before) replies) ≡ answers_to state calls = ap (map answer_of) added ∙ (ran.2 state r).0 in
    subst (λ (told : List Answer). TellsEachWatch state (exchanges calls told)) (sym answers) (tells_each_watch state calls)

-- the same of a run that ended early, of the calls that it answered
pub tells_early : {T E : Type 0} (result : Result T E) (old new : Bucketed) (calls : List Call) (before replies : List Reply) (k : ℕ) → k < length calls → IsRun old (take k calls) before replies new →
    OnErr result ((n : ℕ) × (n < length calls) × IsRun old (take n calls) before replies new × ((state : State) → Represents state old → TellsEachWatch state (exchanges (take n calls) (map answer_of (drop (length before) replies)))))
tells_early (Ok value) old new calls before replies k within ran = tt
tells_early (Err error) old new calls before replies k within ran = (k, within, ran, run_tells old new (take k calls) before replies ran)
