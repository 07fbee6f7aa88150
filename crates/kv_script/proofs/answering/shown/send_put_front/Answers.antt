use Rattle.std.proofs.lemmas.Result.{on_ok_weaker}
use Rattle.base64.specs.Engines.{standard}
use Rattle.base64.specs.GeneralPurpose.{encode_of}
use Rattle.kv_script.specs.inside.Fields.{value_field}
use Rattle.kv_script.proofs.answering.shown.send_put_front.Goals as goal

pub returns-in_ok-send_head-in-Base64 : goal.returns-in_ok-send_head-in-Base64
returns-in_ok-send_head-in-Base64 g c =
    rw c.in-Base64.is (on_ok_weaker c.send_base64.result
    (λ sent more end h. c.in_ok-send_head-in-Base64.ensures (value_field (encode_of standard c.args.value.now) more) end (sent more end h))
    c.send_base64.ensures)
