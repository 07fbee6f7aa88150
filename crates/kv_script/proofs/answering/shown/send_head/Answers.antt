use Rattle.std.proofs.Common.{codes}
use Rattle.std.proofs.lemmas.Result.{on_ok_weaker}
use Rattle.serde_json.specs.Data.{Members, member, string}
use Rattle.kv_script.specs.Text.{op_text}
use Rattle.kv_script.specs.inside.Fields.{number_field}
use Rattle.kv_script.proofs.answering.shown.send_head.Goals as goal

pub returns : goal.returns
returns g c =
    let shown = c.args.shown.now in
    let sized = λ (more : Members). number_field (codes "size") shown.size more in
    let numbered = λ (more : Members). number_field (codes "revision") shown.revision (sized more) in
    let done = λ (more : Members). member (codes "op") (string (op_text shown.op)) (numbered more) in
    let op = rw c.op_name.ensures at c.in_ok-send_text-2.ensures in
    on_ok_weaker c.send_number-2.result
    (λ sent more end h. c.in_ok-send_text.ensures (done more) end (op (numbered more) end (c.in_ok-send_number.ensures (sized more) end (sent more end h))))
    c.send_number-2.ensures
