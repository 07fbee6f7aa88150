use Rattle.std.proofs.Common.{refl, sym, ap, subst, ◌⊎◌, ◌∙◌, List, ℕ}
use Rattle.std.specs.Io.KnownBytes.{Appends}
use Rattle.kv_run.specs.Clashes.{clash_text}
use Rattle.kv_run.proofs.FileEnds.{of_configuration, same_some, some_none, stops_by, told_refused}
use Rattle.kv_run.proofs.files.with_file.Goals as goal

pub returns-in-Some-clause-clashes : goal.returns-in-Some-clause-clashes
returns-in-Some-clause-clashes g c = λ clash is.
    let same = same_some c.in-Some.fault.now clash _ c.in-Some.ensures is in (
      c.accuse.ensures.status,
      ((refl, refl), subst (λ (t : List ℕ). Appends (g.F.Output.held c.args.faults.now) (g.F.Output.held c.accuse.new.faults) (clash_text t) ⊎ g.F.Output.failed_between c.args.faults.now c.accuse.new.faults) same c.accuse.ensures.told),
    )

pub returns-in-Some-clause-refused : goal.returns-in-Some-clause-refused
returns-in-Some-clause-refused g c = λ two none. some_none c.in-Some.fault.now _ c.in-Some.ensures none

pub returns-in-Err-clause-refused : goal.returns-in-Err-clause-refused
returns-in-Err-clause-refused g c = λ two none.
    let error = c.in-Err.error in
    let of = of_configuration c.args.arguments.now _ _ _ _ _ _ _ _ _ error (sym c.fail.ensures.status ∙ two) c.in-Err.ensures.err in
    (of.3.0, (of.0, of.2, told_refused of.0 error _ _ _ of.1 (ap g.F.Output.held of.3.1) c.fail.ensures.told (λ failed. g.met.F.Output.failed_later _ _ _ c.in-Err.ensures.same failed)))

pub returns-in-Err-clause-stopped : goal.returns-in-Err-clause-stopped
returns-in-Err-clause-stopped g c = λ one.
    stops_by c.args.arguments.now _ _ _ _ _ _ _ _ _ _ _ _ _ _ c.in-Err.error (sym c.fail.ensures.status ∙ one) c.in-Err.ensures.err (λ still. ap g.F.Output.held still) c.fail.ensures.told
    (λ failed. g.met.F.Output.failed_earlier _ _ _ failed c.fail.ensures.same) (λ failed. g.met.F.Output.failed_later _ _ _ c.in-Err.ensures.same failed)
