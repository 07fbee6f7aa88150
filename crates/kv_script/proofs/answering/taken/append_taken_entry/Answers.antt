use Rattle.std.proofs.Common.{◌++◌, refl, ap, ◌∙◌}
use Rattle.std.specs.Option.{option_copied}
use Rattle.std.proofs.lemmas.Result.{on_ok_weaker}
use Rattle.serde_json.specs.Data.{object}
use Rattle.kv_script.specs.inside.Fields.{parts_entry, entry_fields, watch_field}
use Rattle.kv_script.proofs.Lines.{taken_entry_line}
use Rattle.kv_script.proofs.Sending.{line_of}
use Rattle.kv_script.proofs.Whole.{entry_whole}
use Rattle.kv_script.proofs.answering.taken.append_taken_entry.Goals as goal

pub returns-clause-ok : goal.returns-clause-ok
returns-clause-ok c =
    let a = c.args in
    let entry = parts_entry a.key.now a.op a.revision a.size (option_copied a.value) in
    let told = rw c.as_str.ensures.value at c.append_line.ensures.ok in
    on_ok_weaker c.append_line.result (λ sent.
    line_of (object (entry_fields a.form entry (watch_field a.watch))) _ _ (entry_whole a.form entry (watch_field a.watch) refl) sent
    ∙ ap (λ text. a.out.now.items ++ text) (taken_entry_line a.form a.watch entry)) told
