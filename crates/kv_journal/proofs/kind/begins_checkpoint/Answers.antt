use Rattle.std.proofs.Common.{sym, ◌∙◌}
use Rattle.kv_journal.proofs.OtherKinds.{none_whole, not_checkpoint, not_entries}
use Rattle.kv_journal.proofs.kind.begins_checkpoint.Goals as goal

pub returns-in-Some-clause-yes : goal.returns-in-Some-clause-yes
returns-in-Some-clause-yes c = λ is.
    not_entries c.args.framing.now.seed c.args.at c.args.bytes.now c.in-Some.payload.now c.in-Some.field-0-1.now c.in-Some.ensures.some.0 c.in-Some.ensures.some.1 (sym c.tells_checkpoint.ensures ∙ is)

pub returns-in-Some-clause-no : goal.returns-in-Some-clause-no
returns-in-Some-clause-no c = λ is.
    not_checkpoint c.args.framing.now.seed c.args.at c.args.bytes.now c.in-Some.payload.now c.in-Some.field-0-1.now c.in-Some.ensures.some.0 c.in-Some.ensures.some.1 (sym c.tells_checkpoint.ensures ∙ is)

pub returns-in-None-clause-no : goal.returns-in-None-clause-no
returns-in-None-clause-no c = λ _. none_whole c.args.framing.now.seed c.args.at c.args.bytes.now c.in-None.ensures.none
