use Rattle.std.proofs.Common.{◌≡◌, Some, ap, refl, sym, subst, map, string_bytes, inl, inr, ◌∙◌}
use Rattle.kv_keys.specs.declared.error.KvError.TheVariants.{OutOfMemory}
use Rattle.kv_durable.specs.declared.error.DurableError.TheVariants.{Refused}
use Rattle.kv_run.specs.Clashes.{clash_of}
use Rattle.kv_run.specs.Arguments.{Wanted, faults_of, wanted_of}
use Rattle.kv_run.specs.Programs.{IsRefusedBy, status_of}
use Rattle.kv_run.proofs.FileEnds.{not_done, not_wrong, only_memory, three}
use Rattle.kv_run.proofs.Programs.{ends_as_wanted, refused_by}
use Rattle.kv_run.proofs.Statuses.{status_two}
use Rattle.kv_run.proofs.running.program.Goals as goal

pub returns-in-Err-run-clause-refused : goal.returns-in-Err-run-clause-refused
returns-in-Err-run-clause-refused g c = λ in_memory two.
    let error = c.in-Err-run.error in
    let wanted = c.in-Ok.arguments in
    let kinds = faults_of (map string_bytes c.args.words.now) in
    let status : status_of error ≡ 2 = sym c.fail.ensures.status ∙ two in
    let refused = refused_by kinds wanted.form wanted.race wanted.config _ _ _ _ error _ c.in-Err-run.ensures.ran c.in-Ok.ensures.0 status in (
      c.in-Err-run.ensures.refused (status_two error status),
      inr (error, (subst (λ (same : Wanted). IsRefusedBy kinds same.race same.config error) c.in-Ok.ensures.1 refused, c.fail.ensures.told)),
    )

pub returns-in-Err-run-clause-stopped : goal.returns-in-Err-run-clause-stopped
returns-in-Err-run-clause-stopped g c = λ in_memory one.
    let error = c.in-Err-run.error in
    let wanted = c.in-Ok.arguments in
    let kinds = faults_of (map string_bytes c.args.words.now) in
    let ran = c.in-Err-run.ensures in (
      error,
      (
        c.fail.ensures.told,
        ends_as_wanted kinds wanted (wanted_of (map string_bytes c.args.words.now)) _ _ _ _ error _ _ _ c.in-Ok.ensures.1 ran.ran c.in-Ok.ensures.0
            (λ same. (ap g.R.Input.left same.0, ap g.W.Output.held same.1)) ran.read_fault ran.write_fault (sym c.fail.ensures.status ∙ one),
      ),
    )

pub returns-in-Err-clause-stopped : goal.returns-in-Err-clause-stopped
returns-in-Err-clause-stopped g c = λ in_memory one.
    let ended = c.refuse.ensures.stopped one (faults_of (map string_bytes c.args.words.now)) c.in-Err.ensures in (
      ended.0,
      (
        ended.1.0,
        elim ended.1.1 [
          | inl shown ↦ inr (inl shown)
          | inr none ↦ inr (inr (none.0, (refl, ap g.W.Output.held none.1)))
        ],
      ),
    )

pub returns-in-Ok-clause-clashes : goal.returns-in-Ok-clause-clashes
returns-in-Ok-clause-clashes g c = λ fine clash is.
    let there = subst (λ (w : Wanted). clash_of w ≡ Some clash) (sym c.in-Ok.ensures.1) is in
    let all = c.with_file.ensures.clashes clash there in
    (all.1.0, inl (all.0, all.1.1))

pub returns-in-Ok-clause-file_stopped : goal.returns-in-Ok-clause-file_stopped
returns-in-Ok-clause-file_stopped g c = λ fine speaks one. rw c.in-Ok.ensures.1 at (c.with_file.ensures.stopped one)

pub returns-in-Err-clause-clashes : goal.returns-in-Err-clause-clashes
returns-in-Err-clause-clashes g c = λ fine clash is.
    let kinds = faults_of (map string_bytes c.args.words.now) in
    elim (three c.refuse.result c.refuse.ensures.status) [
      | inl zero ↦ absurd (not_done _ _ kinds fine ((c.refuse.ensures.done zero).1 kinds c.in-Err.ensures))
      | inr some ↦ elim some [
        | inl one ↦
            let ended = c.refuse.ensures.stopped one kinds c.in-Err.ensures in
            let memory = only_memory _ _ kinds fine ended.0 ended.1.1 in
            ((refl, memory.1), inr (one, rw memory.0 at ended.1.0))
        | inr two ↦ absurd (not_wrong kinds fine ((c.refuse.ensures.wrong two).1 kinds c.in-Err.ensures))
      ]
    ]

pub returns-in-Err-clause-file_stopped : goal.returns-in-Err-clause-file_stopped
returns-in-Err-clause-file_stopped g c = λ fine speaks one.
    let kinds = faults_of (map string_bytes c.args.words.now) in
    let ended = c.refuse.ensures.stopped one kinds c.in-Err.ensures in
    let memory = only_memory _ _ kinds fine ended.0 ended.1.1 in
    (Refused OutOfMemory, (refl, inl (tt, ((refl, memory.1), rw memory.0 at ended.1.0))))
