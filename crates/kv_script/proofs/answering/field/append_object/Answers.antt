use Rattle.std.proofs.lemmas.Result.{on_ok_weaker}
use Rattle.serde_json.specs.Data.{object}
use Rattle.kv_script.specs.inside.Objects.{fields_of}
use Rattle.kv_script.proofs.Sending.{line_of}
use Rattle.kv_script.proofs.Whole.{fields_whole}
use Rattle.kv_script.proofs.answering.field.append_object.Goals as goal

pub returns-clause-ok : goal.returns-clause-ok
returns-clause-ok c =
    let fields = c.args.fields.now in
    on_ok_weaker c.append_line.result (line_of (object (fields_of fields)) _ _ (fields_whole fields)) c.append_line.ensures.ok
