use Rattle.std.proofs.lemmas.Result.{on_ok_weaker}
use Rattle.kv_durable_script.proofs.Telling.{parts_of, too_short}
use Rattle.kv_durable_script.proofs.lines.push_entry.Goals as goal

pub returns-in-Some-clause-ok : goal.returns-in-Some-clause-ok
returns-in-Some-clause-ok c =
    on_ok_weaker c.push_content.result (λ appends entry e can.
    appends entry.content (parts_of entry.loose c.in-Some.field-0-0 entry.content c.in-Some.record.now c.args.payload.now can.0 c.in-Some.ensures.0 e c.in-Some.ensures.1) can.1)
    c.push_content.ensures.ok

pub returns-in-None-clause-ok : goal.returns-in-None-clause-ok
returns-in-None-clause-ok c = λ entry e can. absurd (too_short entry c.args.payload.now e c.in-None.ensures)
