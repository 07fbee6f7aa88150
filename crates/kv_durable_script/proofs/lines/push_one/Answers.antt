use Rattle.std.proofs.Common.{◌++◌, ap, ◌∙◌}
use Rattle.std.specs.Prelude.{List, ℕ}
use Rattle.kv_journal.proofs.Redone.{says_so}
use Rattle.kv_durable_script.specs.Dumps.{lines_text}
use Rattle.kv_durable_script.proofs.Telling.{said_is}
use Rattle.kv_durable_script.proofs.lines.push_one.Goals as goal

pub returns-in_ok-push_record-in-Some-clause-ok : goal.returns-in_ok-push_record-in-Some-clause-ok
returns-in_ok-push_record-in-Some-clause-ok c = λ content e single can.
    let said = says_so _ c.in_ok-record.field-0 c.in-Some.record c.args.bytes.now c.in_ok-record.ensures.ok c.in-Some.is in
    c.in_ok-push_record-in-Some.ensures.ok ∙ ap (λ (lines : List (List ℕ)). c.args.out.now.items ++ lines_text lines) (said_is c.in-Some.record content c.args.bytes.now said c.push_record.ensures.fits e single can)
