use Rattle.std.proofs.Common.{◌++◌, sym, ap, ◌∙◌, append_assoc, List, ℕ}
use Rattle.std.specs.Prelude.{map}
use Rattle.std.proofs.lemmas.Result.{on_ok_weaker}
use Rattle.kv_durable_script.specs.Dumps.{act_line, batch_lines, lines_text}
use Rattle.kv_durable_script.proofs.Telling.{lines_text-append}
use Rattle.kv_durable_script.proofs.lines.push_batch.Goals as goal

pub returns-clause-ok : goal.returns-clause-ok
returns-clause-ok c =
    on_ok_weaker c.push_parts.result (λ appends acts e can.
    appends acts e can ∙ ap (λ (w : List ℕ). w ++ lines_text (map act_line acts)) (c.in_ok-push_start.ensures acts e can)
    ∙ append_assoc c.args.out.now.items (lines_text (batch_lines acts)) (lines_text (map act_line acts))
    ∙ ap (λ (w : List ℕ). c.args.out.now.items ++ w) (sym (lines_text-append (batch_lines acts) (map act_line acts))))
    c.push_parts.ensures.ok
