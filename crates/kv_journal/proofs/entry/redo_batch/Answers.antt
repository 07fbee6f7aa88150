use Rattle.std.proofs.Common.{◌∷◌, ◌++◌, [], Ok, ap, ◌∙◌}
use Rattle.kv_journal.specs.Records.{act_record, did_all}
use Rattle.kv_journal.proofs.Together.{all_redone, never_all, no_part, none_redone, one_more_redone, some_part}
use Rattle.kv_journal.proofs.entry.redo_batch.Goals as goal

pub loop-part-init : goal.loop-part-init
loop-part-init c = ([], none_redone c.args.version.now c.args.bytes.now c.in_ok-next.next c.in_ok-next.ensures.ok)

pub loop-part-preserved : goal.loop-part-preserved
loop-part-preserved c =
    let inv = c.loop-part.invariant in
    let found = c.in-Some.ensures in
    let done = c.redo_act.ensures.done (c.in-Ok-true.is ∙ ap Ok c.in-Ok-true.field-0-test) in (
      inv.0 ++ done.0 ∷ [],
      one_more_redone c.args.version.now c.args.bytes.now inv.0 c.loop-part.rest.now c.loop-part.next c.in-Some.part.now c.in-Some.after.now done.0 c.redo_act.new.version inv.1 found.1 found.0 done.1 c.in-Ok-true.ensures.config,
    )

pub returns-in-Ok-false-clause-not : goal.returns-in-Ok-false-clause-not
returns-in-Ok-false-clause-not c = λ _ acts stands content e h.
    let inv = c.loop-part.invariant in
    let found = c.in-Some.ensures in
    let none = c.redo_act.ensures.not (c.in-Ok-false.is ∙ ap Ok c.in-Ok-false.field-0-test) in
    never_all c.args.version.now c.args.bytes.now inv.0 c.loop-part.rest.now c.loop-part.next inv.1 (some_part c.in-Some.part.now c.in-Some.after.now c.loop-part.rest.now found.1)
    (λ before there. no_part c.loop-part.next.config c.in-Some.part.now c.in-Some.after.now c.loop-part.rest.now (before ++ inv.0) found.0 found.1 (none (before ++ inv.0) there)) acts stands content e h

pub returns-then-not-has_none-clause-not : goal.returns-then-not-has_none-clause-not
returns-then-not-has_none-clause-not c = λ _ acts stands content e h.
    let inv = c.loop-part.invariant in
    never_all c.args.version.now c.args.bytes.now inv.0 c.loop-part.rest.now c.loop-part.next inv.1 (c.has_none.ensures.no c.if-not-has_none.true)
    (λ before there act after short is _. c.in_default.ensures (act_record act) after short is) acts stands content e h

pub returns-clause-done : goal.returns-clause-done
returns-clause-done c = λ _.
    let inv = c.loop-part.invariant in
    (did_all inv.0, all_redone c.args.version.now c.args.bytes.now inv.0 c.loop-part.rest.now c.loop-part.next inv.1 (c.has_none.ensures.yes c.if-not-has_none.false))
