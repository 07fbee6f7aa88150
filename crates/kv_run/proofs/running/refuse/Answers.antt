use Rattle.std.proofs.Common.{sym, refl, inl, inr, arith, rules, ◌∙◌}
use Rattle.clap.specs.Values.{kind_of}
use Rattle.clap.specs.declared.error.kind.ErrorKind.TheVariants.{DisplayHelp, DisplayVersion}
use Rattle.kv_keys.specs.declared.error.KvError.TheVariants.{OutOfMemory, WriteFault}
use Rattle.kv_run.specs.declared.help.TheConstants.{HELP, VERSION}
use Rattle.kv_run.proofs.Programs.{among}
use Rattle.kv_run.proofs.running.refuse.Goals as goal

pub returns-in-OutOfMemory-clause-stopped : goal.returns-in-OutOfMemory-clause-stopped
returns-in-OutOfMemory-clause-stopped g c = λ one kinds has. (OutOfMemory, (c.fail.ensures.told, inr (refl, refl)))

pub returns-in-DisplayHelp-clause-done : goal.returns-in-DisplayHelp-clause-done
returns-in-DisplayHelp-clause-done g c = search rules

pub returns-in-DisplayHelp-clause-stopped : goal.returns-in-DisplayHelp-clause-stopped
returns-in-DisplayHelp-clause-stopped g c = λ one kinds has.
    let stop = c.show.ensures.stopped one in
    let asked = among kinds c.args.error.now DisplayHelp (sym c.in-DisplayHelp.ensures) (λ e. cc e) has in
    (WriteFault, (stop.1.1, inl ((refl, (HELP.now, (inl (asked, refl), stop.0))), stop.1.0)))

pub returns-in-DisplayVersion-clause-stopped : goal.returns-in-DisplayVersion-clause-stopped
returns-in-DisplayVersion-clause-stopped g c = λ one kinds has.
    let stop = c.show-in-DisplayVersion.ensures.stopped one in
    let asked = among kinds c.args.error.now DisplayVersion (sym c.in-DisplayVersion.ensures) (λ e. cc e) has in
    (WriteFault, (stop.1.1, inl ((refl, (VERSION.now, (inr (asked, refl), stop.0))), stop.1.0)))

pub returns-in_default : goal.returns-in_default
returns-in_default g c = record {
  status = elim c.accuse.ensures.status [
    | inl two ↦ omega (arith, two)
    | inr one ↦ omega (arith, one)
  ];
  done = λ zero. absurd (elim c.accuse.ensures.status [
    | inl two ↦ omega (arith, two, zero)
    | inr one ↦ omega (arith, one, zero)
  ]);
  stopped = λ one kinds has. (OutOfMemory, (c.accuse.ensures.stopped one, inr (refl, refl)));
  wrong = λ two. (
    refl,
    λ kinds has. (
      kind_of c.args.error.now,
      (
        among kinds c.args.error.now (kind_of c.args.error.now) refl (λ e. c.in_default.not-OutOfMemory (c.kind.ensures ∙ e)) has,
        (λ e. c.in_default.not-DisplayHelp (c.kind.ensures ∙ e), λ e. c.in_default.not-DisplayVersion (c.kind.ensures ∙ e)),
      ),
    ),
  );
}
