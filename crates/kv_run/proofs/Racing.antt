-- What a race over a script did, by where it ended.
use Rattle.std.proofs.Common.{◌≡◌, ◌⊎◌, ◌&&◌, ℕ, nat_le, Bool, true, false, true≢false, cond, List, [], ◌++◌, take, drop, take-append-drop, append_assoc, append-nil, Option, Result, Ok, Err, refl, sym, ap, subst, ◌∙◌, inl, inr}
use Rattle.std.specs.Prelude.{⊤, IsOk, IsErr, IfErr, IsErrOf}
use Rattle.std.specs.Result.{IsErrAnd}
use Rattle.std.specs.Io.KnownBytes.{Appends, Consumes, IsAtEnd}
use Rattle.std.proofs.KnownBytes.{Appends-nil, Appends-trans}
use Rattle.kv_keys.specs.Outcome.{Refuses}
use Rattle.kv_keys.specs.declared.error.KvError.{KvError}
use Rattle.kv_keys.specs.declared.error.KvError.TheVariants.{OutOfMemory, BadBucket, BadConfig, NoReader, ReadFault, WriteFault}
use Rattle.kv_model.specs.Answers.{Answer}
use Rattle.kv_race.specs.Racing.{IsRaced}
use Rattle.kv_replay.specs.Faults.{IsWriteOrMemory}
use Rattle.kv_model.specs.Requests.{Asked}
use Rattle.kv_store.specs.Stored.{Stored}
use Rattle.kv_model.specs.declared.options.Options.{Options}
use Rattle.kv_race.specs.Openings.{may_race, then_race, RefusesRace}
use Rattle.kv_script.specs.declared.form.Form.{Form}
use Rattle.kv_run.specs.Dealing.{dealt}
use Rattle.kv_run.specs.Planning.{Planned}
use Rattle.kv_run.specs.Reporting.{report_text}
use Rattle.kv_run.specs.Races.{EndsRace, IsTextOf, Races, RanRace, StaysSilent, StopsRace, plan_of}
use Rattle.kv_replay.specs.inside.Written.{Puts}
use Rattle.kv_replay.proofs.Ending.{by_cause, error_of}
use Rattle.kv_replay.proofs.Progress.{starts}
use Rattle.kv_model.specs.Configuration.{Configuration, configure}

module _ (form : Form) (config : Configuration) (workers : ℕ) (unread left held holds : Option (List ℕ)) where
  -- it ended early
  pub ran_early : (result : Result ⊤ KvError) → IsErr result → StopsRace form config workers unread left held holds → (IsErrOf result ReadFault → StaysSilent form config workers unread left held holds)
      → IfErr result (λ e. EndsRace e (may_race config workers 0)) → RanRace form config workers unread left held holds result
  ran_early (Ok done) bad stop silent fault = absurd (true≢false (sym bad))
  ran_early (Err e) bad stop silent fault = record { ok = tt; read_fault = silent; early = stop; legal = tt; fault = fault }

  -- a beginning of the answers to the refused lines was written
  pub stopped_in_refused : (input : List ℕ) (n : ℕ) (shown : List ℕ) → shown ≡ (plan_of form input).refused → Consumes unread left input → IsAtEnd left → Appends held holds (take n shown)
      → StopsRace form config workers unread left held holds
  stopped_in_refused input n shown is read complete written =
      let all = (plan_of form input).refused in
      record {
        input = input;
        read = read;
        text = take n all;
        complete = inr complete;
        begins = inl (starts all (take n all) (drop n all) (sym (take-append-drop n all)));
        written = subst (λ t. Appends held holds (take n t)) is written;
      }

  -- all of them were
  pub stopped_behind_refused : (input shown : List ℕ) → shown ≡ (plan_of form input).refused → Consumes unread left input → IsAtEnd left → Appends held holds shown
      → StopsRace form config workers unread left held holds
  stopped_behind_refused input shown is read complete written =
      let all = (plan_of form input).refused in
      record {
        input = input;
        read = read;
        text = all;
        complete = inr complete;
        begins = inl (starts all all [] (sym (append-nil all)));
        written = subst (Appends held holds) is written;
      }

  module _ (mid : Option (List ℕ)) (input shown report : List ℕ) (is : shown ≡ (plan_of form input).refused) (read : Consumes unread left input) (complete : IsAtEnd left)
      (first : Appends held mid shown) (answers : IsTextOf form config workers (plan_of form input) ((plan_of form input).refused ++ report)) where
    -- the report was written too
    pub raced : Appends mid holds report → Races form config workers unread left held holds
    raced second = record {
      input = input;
      read = read;
      complete = complete;
      text = (plan_of form input).refused ++ report;
      answers = answers;
      written = Appends-trans held mid holds (plan_of form input).refused report (subst (Appends held mid) is first) second;
    }

    -- or a beginning of it
    pub stopped_in_report : Puts report mid holds → StopsRace form config workers unread left held holds
    stopped_in_report puts =
        let all = (plan_of form input).refused in
        record {
          input = input;
          read = read;
          text = all ++ puts.front;
          complete = inr complete;
          begins = inr (all ++ report, (answers, starts (all ++ report) (all ++ puts.front) puts.rest (ap (λ t. all ++ t) puts.parts ∙ sym (append_assoc all puts.front puts.rest))));
          written = Appends-trans held mid holds all puts.front (subst (Appends held mid) is first) puts.written;
        }

-- nothing was written
pub stopped_silent : (form : Form) (config : Configuration) (workers : ℕ) (unread left held : Option (List ℕ)) (input : List ℕ) → Consumes unread left input → StopsRace form config workers unread left held held
stopped_silent form config workers unread left held input read = record {
  input = input;
  read = read;
  text = [];
  complete = inl refl;
  begins = inl (starts (plan_of form input).refused [] (plan_of form input).refused refl);
  written = Appends-nil held;
}

pub silent : (form : Form) (config : Configuration) (workers : ℕ) (unread left held : Option (List ℕ)) (input : List ℕ) → Consumes unread left input → StaysSilent form config workers unread left held held
silent form config workers unread left held input read = record { input = input; read = read; written = Appends-nil held }

-- the refusal of what the rules refuse
err_ends : (e d : KvError) → Refuses {X = Configuration} e (Err d) → EndsRace {X = Configuration} d (Err d) → EndsRace {X = Configuration} e (Err d)
unfolding error_of
err_ends e d h base = elim (by_cause {X = Configuration} e (Err d) h) [
  | inl memory ↦ absurd (true≢false (sym memory.1))
  | inr cause ↦ subst (λ x. EndsRace {X = Configuration} x (Err d)) (ap (error_of e) cause) base
]

ok_ends : (config : Configuration) (e : KvError) → Refuses e (Ok config) → EndsRace e (Ok config)
ok_ends config e h = elim (by_cause e (Ok config) h) [
  | inl memory ↦ subst (λ x. EndsRace {X = Configuration} x (Ok config)) (sym memory.0) refl
  | inr cause ↦ absurd (true≢false (sym (subst IsOk cause refl)))
]

counted_ends : (config : Configuration) (counted : Bool) (e : KvError) → Refuses e (cond counted (Ok config) (Err BadConfig)) → EndsRace e (cond counted (Ok config) (Err BadConfig))
counted_ends config true e h = ok_ends config e h
counted_ends config false e h = err_ends e BadConfig h refl

-- what a configuration comes to, by what is wrong with it
abbrev of_parts : Configuration → Bool → Bool → Result Configuration KvError
of_parts config named numbers = cond named (cond numbers (Ok config) (Err BadConfig)) (Err BadBucket)

-- why a race is not begun
pub check_ends : (config : Configuration) (named numbers : Bool) (workers : ℕ) (e : KvError) → Refuses e (then_race workers 0 (of_parts config named numbers)) → EndsRace e (then_race workers 0 (of_parts config named numbers))
check_ends config false numbers workers e h = err_ends e BadBucket h refl
check_ends config true false workers e h = err_ends e BadConfig h refl
check_ends config true true workers e h = counted_ends config (nat_le 1 workers && nat_le workers 16) e h

-- a script that is not read to its end
pub read_ends : (outcome : Result Configuration KvError) (e : KvError) → IsOk outcome → (e ≡ OutOfMemory) ⊎ (e ≡ ReadFault) → EndsRace e outcome
read_ends outcome e legal h = elim h [
  | inl memory ↦ subst (λ k. EndsRace k outcome) (sym memory) legal
  | inr fault ↦ subst (λ k. EndsRace k outcome) (sym fault) legal
]

-- an error of another cause is no fault of the source
pub not_read : {P : Type 0} (result : Result ⊤ KvError) (e d : KvError) → IsErrAnd result (λ x. x ≡ e) → e ≡ d → (d ≡ ReadFault → ⊥) → IsErrOf result ReadFault → P
not_read {P} result e d same cause other is = absurd (other (sym (subst (λ (r : Result ⊤ KvError). IsErrAnd r (λ x. x ≡ e)) is same ∙ cause)))

-- a legal race that is refused lacks memory or a reader
left_over : (config : Configuration) (workers watches : ℕ) (e : KvError) (outcome : Result Configuration KvError) → then_race workers 0 outcome ≡ Ok config → then_race workers watches outcome ≡ Err e → e ≡ NoReader
unfolding error_of
left_over config workers watches e (Err d) legal refused = absurd (true≢false (sym (subst IsErr legal refl)))
left_over config workers watches e (Ok c) legal refused = go (nat_le 1 workers && nat_le workers 16) (nat_le watches 32) legal refused
  where
    go : (counted few : Bool) → cond counted (Ok c) (Err BadConfig) ≡ Ok config → cond counted (cond few (Ok c) (Err NoReader)) (Err BadConfig) ≡ Err e → e ≡ NoReader
    go true true h k = absurd (true≢false (sym (subst IsOk k refl)))
    go true false h k = sym (ap (error_of e) k)
    go false few h k = absurd (true≢false (sym (subst IsErr h refl)))

pub report_cause : (config : Configuration) (workers watches : ℕ) (e : KvError) → may_race config workers 0 ≡ Ok config → RefusesRace e (may_race config workers watches) → (e ≡ OutOfMemory) ⊎ (e ≡ NoReader)
report_cause config workers watches e legal refused = elim refused [
  | inl rules ↦ elim (by_cause e (may_race config workers watches) rules) [
    | inl memory ↦ inl memory.0
    | inr cause ↦ inr (left_over config workers watches e (configure config) legal cause)
  ]
  | inr none ↦ inr none.0
]

pub report_ends : (outcome : Result Configuration KvError) (e : KvError) → IsOk outcome → (e ≡ OutOfMemory) ⊎ (e ≡ NoReader) → EndsRace e outcome
report_ends outcome e legal h = elim h [
  | inl memory ↦ subst (λ k. EndsRace k outcome) (sym memory) legal
  | inr none ↦ subst (λ k. EndsRace k outcome) (sym none) legal
]

-- a report that is not written to its end
pub write_ends : (outcome : Result Configuration KvError) (e : KvError) → IsOk outcome → IsWriteOrMemory e → EndsRace e outcome
write_ends outcome OutOfMemory legal h = legal
write_ends outcome WriteFault legal h = legal
write_ends outcome _ legal h = absurd h

-- a race of the same scripts and watches
pub raced_same : (config : Configuration) (scripts same_scripts : List (List Asked)) (watches same_watches : List (List (List ℕ) × Options)) (replies : List (List (Result ℕ KvError))) (seen : List (List Answer)) (version : Stored)
    → IsRaced config scripts watches replies seen version → scripts ≡ same_scripts → watches ≡ same_watches → IsRaced config same_scripts same_watches replies seen version
raced_same config scripts same_scripts watches same_watches replies seen version raced s w =
    subst (λ (all : List (List (List ℕ) × Options)). IsRaced config same_scripts all replies seen version) w
    (subst (λ (all : List (List Asked)). IsRaced config all watches replies seen version) s raced)

pub text_of : (form : Form) (config : Configuration) (workers : ℕ) (plan : Planned) (replies : List (List (Result ℕ KvError))) (seen : List (List Answer)) (version : Stored)
    → IsRaced config (dealt workers plan.requests) plan.watches replies seen version → IsTextOf form config workers plan (plan.refused ++ report_text form replies seen)
text_of form config workers plan replies seen version raced = record { replies = replies; seen = seen; version = version; raced = raced; is = refl }
