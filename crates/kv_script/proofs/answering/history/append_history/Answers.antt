use Rattle.std.proofs.Common.{◌++◌, map, ap, ◌∙◌}
use Rattle.std.proofs.lemmas.Result.{on_ok_weaker}
use Rattle.kv_model.specs.State.{read_entry}
use Rattle.kv_script.specs.inside.Showing.{history_object}
use Rattle.kv_script.proofs.Lines.{history_line}
use Rattle.kv_script.proofs.Sending.{line_of}
use Rattle.kv_script.proofs.Whole.{history_whole}
use Rattle.kv_script.proofs.answering.history.append_history.Goals as goal

pub returns-clause-ok : goal.returns-clause-ok
returns-clause-ok c =
    let form = c.args.form in
    let entries = map (λ w. read_entry w.now) c.args.writes.now in
    on_ok_weaker c.append_line.result (λ sent.
    line_of (history_object form c.args.writes.now) _ _ (history_whole form entries) sent
    ∙ ap (λ text. c.args.out.now.items ++ text) (history_line form entries)) c.append_line.ensures.ok
