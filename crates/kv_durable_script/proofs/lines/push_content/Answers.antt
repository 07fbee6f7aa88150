use Rattle.std.proofs.Common.{◌++◌, sym, ap, ◌∙◌}
use Rattle.std.proofs.lemmas.Result.{on_ok_weaker}
use Rattle.kv_journal.specs.Records.{Content}
use Rattle.kv_durable_script.specs.Dumps.{content_lines, lines_text}
use Rattle.kv_durable_script.proofs.Telling.{tells_batch, tells_one}
use Rattle.kv_durable_script.proofs.lines.push_content.Goals as goal

pub returns-in-Some-clause-ok : goal.returns-in-Some-clause-ok
returns-in-Some-clause-ok c =
    on_ok_weaker c.push_batch.result (λ appends content e can.
    let told = tells_batch content c.in-Some.batch.now (e ∙ c.in-Some.ensures) can in
    appends told.0 told.2 told.3 ∙ ap (λ (x : Content). c.args.out.now.items ++ lines_text (content_lines x)) (sym told.1))
    c.push_batch.ensures.ok

pub returns-in-None-clause-ok : goal.returns-in-None-clause-ok
returns-in-None-clause-ok c =
    on_ok_weaker c.push_one.result (λ appends content e can. appends content e (tells_one content c.args.bytes.now e c.in-None.ensures) can) c.push_one.ensures.ok
