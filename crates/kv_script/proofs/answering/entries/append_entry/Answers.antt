use Rattle.std.proofs.Common.{◌++◌, refl, subst, ap, ◌∙◌}
use Rattle.std.proofs.lemmas.Result.{on_ok_weaker}
use Rattle.serde_json.specs.Data.{no_members}
use Rattle.serde_json.specs.Events.{SendsValue}
use Rattle.kv_model.specs.State.{read_entry}
use Rattle.kv_script.specs.inside.Fields.{entry_object}
use Rattle.kv_script.specs.inside.Sends.{AddsLine}
use Rattle.kv_script.proofs.Lines.{entry_line}
use Rattle.kv_script.proofs.Sending.{line_of}
use Rattle.kv_script.proofs.Whole.{entry_whole}
use Rattle.kv_script.proofs.answering.entries.append_entry.Goals as goal

pub returns-clause-ok : goal.returns-clause-ok
returns-clause-ok c =
    let form = c.args.form in
    let entry = read_entry c.args.write.now in
    let before = c.args.out.now.items in
    let after = c.append_line.new.out.items in
    on_ok_weaker c.append_line.result (λ sent.
    line_of (entry_object form entry) before after (entry_whole form entry no_members refl) (subst (λ d. AddsLine (SendsValue d) before after) c.found.ensures sent)
    ∙ ap (λ text. before ++ text) (entry_line form entry)) c.append_line.ensures.ok
