use Rattle.std.proofs.Common.{◌≡◌, [], refl, sym, subst, ap, inl, inr, length, map, Result, Vec, Global, ◌∙◌}
use Rattle.std.specs.Prelude.{⊤, IsOk, IfErr}
use Rattle.std.proofs.lemmas.Result.{IfErr-weaker, on_err_weaker, on_ok_weaker}
use Rattle.std.proofs.KnownBytes.{Consumes-nil}
use Rattle.kv_keys.specs.Grammar.{is_name}
use Rattle.kv_keys.specs.declared.error.KvError.TheVariants.{NoReader, OutOfMemory, WriteFault}
use Rattle.kv_keys.specs.declared.error.KvError.{KvError}
use Rattle.kv_run.proofs.Dealt.{dealt-length}
use Rattle.kv_run.specs.Dealing.{dealt}
use Rattle.kv_replay.specs.Faults.{IsBadConfiguration, IsWriteOrMemory}
use Rattle.kv_model.specs.Requests.{asked}
use Rattle.kv_model.specs.declared.request.Request.{Request}
use Rattle.kv_race.specs.Openings.{may_race, RefusesRace}
use Rattle.kv_run.specs.Races.{EndsRace, plan_of}
use Rattle.kv_replay.proofs.Ending.{handed_on, on_ok}
use Rattle.kv_run.proofs.Racing.{check_ends, not_read, ran_early, raced, raced_same, read_ends, report_cause, report_ends, silent, stopped_behind_refused, stopped_in_refused, stopped_in_report, stopped_silent, text_of, write_ends}
use Rattle.kv_run.proofs.races.over_scripts.race_script.Goals as goal
use Rattle.kv_model.specs.Configuration.{has_legal_numbers}

abbrev Script : Type 0
Script = Vec Request Global

pub returns-in_err-check-clause-ran : goal.returns-in_err-check-clause-ran
returns-in_err-check-clause-ran g c =
    let config = c.args.config.now in
    let workers = c.args.workers in
    let fault = check_ends config (is_name config.bucket) (has_legal_numbers config) workers _ c.in_err-check.ensures.refused in
    ran_early c.args.form config workers _ _ _ _ c.from_residual.result c.from_residual.ensures.0 (stopped_silent c.args.form config workers _ _ _ [] (Consumes-nil _)) (λ _. silent c.args.form config workers _ _ _ [] (Consumes-nil _))
    (handed_on c.from_residual.result _ (λ e. EndsRace e (may_race config workers 0)) c.from_residual.ensures.1 fault)

pub returns-in_err-plan-clause-ran : goal.returns-in_err-plan-clause-ran
returns-in_err-plan-clause-ran g c =
    let config = c.args.config.now in
    let workers = c.args.workers in
    let ends = c.from_residual-in_err-plan in
    let part = c.in_err-plan.ensures.part in
    let legal = subst IsOk (sym c.in_ok-check.ensures.ok.0) refl in
    ran_early c.args.form config workers _ _ _ _ ends.result ends.ensures.0 (stopped_silent c.args.form config workers _ _ _ part.0 part.1) (λ _. silent c.args.form config workers _ _ _ part.0 part.1)
    (handed_on ends.result _ (λ e. EndsRace e (may_race config workers 0)) ends.ensures.1 (read_ends (may_race config workers 0) _ legal c.in_err-plan.ensures.fault))

pub returns-in_err-scripts-clause-ran : goal.returns-in_err-scripts-clause-ran
returns-in_err-scripts-clause-ran g c =
    let config = c.args.config.now in
    let workers = c.args.workers in
    let ends = c.from_residual-in_err-scripts in
    let all = c.in_ok-plan.ensures.ok in
    let legal = subst IsOk (sym c.in_ok-check.ensures.ok.0) refl in
    ran_early c.args.form config workers _ _ _ _ ends.result ends.ensures.0 (stopped_silent c.args.form config workers _ _ _ all.0 all.1.0) (λ _. silent c.args.form config workers _ _ _ all.0 all.1.0)
    (handed_on ends.result _ (λ e. EndsRace e (may_race config workers 0)) ends.ensures.1 (read_ends (may_race config workers 0) _ legal (inl c.in_err-scripts.ensures.err)))

pub returns-in_err-write-clause-ran : goal.returns-in_err-write-clause-ran
returns-in_err-write-clause-ran g c =
    let config = c.args.config.now in
    let workers = c.args.workers in
    let ends = c.from_residual-in_err-write in
    let all = c.in_ok-plan.ensures.ok in
    let legal = subst IsOk (sym c.in_ok-check.ensures.ok.0) refl in
    let plan = all.1.1.1 in
    let is = c.deref.ensures.value ∙ c.parts-refused.ensures.refused ∙ ap (λ p. p.refused) plan in
    let cause = c.in_err-write.ensures.fault in
    let failed = c.in_err-write.ensures.err in
    ran_early c.args.form config workers _ _ _ _ ends.result ends.ensures.0 (stopped_in_refused c.args.form config workers _ _ _ _ all.0 failed.0 _ is all.1.0 all.1.1.0 failed.1)
    (not_read ends.result _ WriteFault ends.ensures.1 cause (λ e. cc e))
    (handed_on ends.result _ (λ e. EndsRace e (may_race config workers 0)) ends.ensures.1 (subst (λ e. EndsRace e (may_race config workers 0)) (sym cause) legal))

pub returns-in_err-report-clause-ran : goal.returns-in_err-report-clause-ran
returns-in_err-report-clause-ran g c =
    let config = c.args.config.now in
    let workers = c.args.workers in
    let ends = c.from_residual-in_err-report in
    let same : length c.deref-2.result.now ≡ workers = ap length c.deref-2.ensures.value ∙ dealt-length (λ script. map asked script.items) workers c.in_ok-scripts.scripts.items _ c.in_ok-scripts.ensures.ok in
    let watches = length c.deref-3.result.now in
    let cause = report_cause config workers watches c.in_err-report.field-0.0 c.in_ok-check.ensures.ok.0 (subst (λ n. RefusesRace c.in_err-report.field-0.0 (may_race config n watches)) same c.in_err-report.ensures.refused) in
    let all = c.in_ok-plan.ensures.ok in
    let legal = subst IsOk (sym c.in_ok-check.ensures.ok.0) refl in
    let plan = all.1.1.1 in
    let is = c.deref.ensures.value ∙ c.parts-refused.ensures.refused ∙ ap (λ p. p.refused) plan in
    ran_early c.args.form config workers _ _ _ _ ends.result ends.ensures.0 (stopped_behind_refused c.args.form config workers _ _ _ _ all.0 _ is all.1.0 all.1.1.0 c.in_ok-write.ensures.ok)
    (λ fault. elim cause [
      | inl memory ↦ not_read ends.result _ OutOfMemory ends.ensures.1 memory (λ e. cc e) fault
      | inr none ↦ not_read ends.result _ NoReader ends.ensures.1 none (λ e. cc e) fault
    ])
    (handed_on ends.result _ (λ e. EndsRace e (may_race config workers 0)) ends.ensures.1 (report_ends (may_race config workers 0) _ legal cause))

pub returns-in_err-report-clause-refused : goal.returns-in_err-report-clause-refused
returns-in_err-report-clause-refused g c =
    let config = c.args.config.now in
    let workers = c.args.workers in
    let ends = c.from_residual-in_err-report in
    let same : length c.deref-2.result.now ≡ workers = ap length c.deref-2.ensures.value ∙ dealt-length (λ script. map asked script.items) workers c.in_ok-scripts.scripts.items _ c.in_ok-scripts.ensures.ok in
    let watches = length c.deref-3.result.now in
    let cause = report_cause config workers watches c.in_err-report.field-0.0 c.in_ok-check.ensures.ok.0 (subst (λ n. RefusesRace c.in_err-report.field-0.0 (may_race config n watches)) same c.in_err-report.ensures.refused) in
    handed_on ends.result _ _ ends.ensures.1 (λ bad. elim cause [
      | inl memory ↦ absurd (subst IsBadConfiguration memory bad)
      | inr none ↦ absurd (subst IsBadConfiguration none bad)
    ])

pub returns-clause-ran : goal.returns-clause-ran
returns-clause-ran g c =
    let config = c.args.config.now in
    let workers = c.args.workers in
    let all = c.in_ok-plan.ensures.ok in
    let input = all.0 in
    let plan = all.1.1.1 in
    let legal = subst IsOk (sym c.in_ok-check.ensures.ok.0) refl in
    let is = c.deref.ensures.value ∙ c.parts-refused.ensures.refused ∙ ap (λ p. p.refused) plan in
    let scripts = ap (map (λ (script : Script). map asked script.items)) c.deref-2.ensures.value ∙ c.in_ok-scripts.ensures.ok ∙ ap (dealt workers) (c.parts-refused.ensures.requests ∙ ap (λ p. p.requests) plan) in
    let watches = c.deref-3.ensures.value ∙ c.parts-refused.ensures.watches ∙ ap (λ p. p.watches) plan in
    let answers = text_of c.args.form config workers (plan_of c.args.form input) _ _ _ (raced_same config _ _ _ _ _ _ _ c.in_ok-report.ensures.ok scripts watches) in
    record {
      ok = on_ok_weaker c.write_report.result (λ written. raced c.args.form config workers _ _ _ _ _ input _ _ is all.1.0 all.1.1.0 c.in_ok-write.ensures.ok answers written) c.write_report.ensures.ok;
      read_fault = λ fault. absurd (subst (λ (r : Result ⊤ KvError). IfErr r IsWriteOrMemory) fault c.write_report.ensures.fault);
      early = on_err_weaker c.write_report.result (λ puts. stopped_in_report c.args.form config workers _ _ _ _ _ input _ _ is all.1.0 all.1.1.0 c.in_ok-write.ensures.ok answers puts) c.write_report.ensures.err;
      legal = on_ok c.write_report.result c.in_ok-check.ensures.ok.0;
      fault = IfErr-weaker c.write_report.result _ _ (λ e fault. write_ends (may_race config workers 0) e legal fault) c.write_report.ensures.fault;
    }

pub returns-clause-write_fault : goal.returns-clause-write_fault
returns-clause-write_fault g c = λ fault. g.met.K.Output.failed_later _ _ _ c.in_ok-write.ensures.same (c.write_report.ensures.failed fault)
