use Rattle.std.proofs.Common.{◌≡◌, false, true}
use Rattle.std.specs.Str.{is_utf8}
use Rattle.std.proofs.lemmas.Bool.{false_from_ne_true}
use Rattle.std.proofs.lemmas.Result.{on_ok_weaker}
use Rattle.std.proofs.lemmas.Str.{IsUtf8-from_is_utf8, is_utf8-from_IsUtf8}
use Rattle.kv_script.specs.inside.Fields.{value_field}
use Rattle.kv_script.specs.inside.Showing.{head_of}
use Rattle.kv_script.proofs.answering.shown.send_text_front.Goals as goal

pub returns-in_ok-send_head-in-Ok : goal.returns-in_ok-send_head-in-Ok
returns-in_ok-send_head-in-Ok g c =
    let is_text : is_utf8 c.args.value.now ≡ true = is_utf8-from_IsUtf8 _ c.in-Ok.ensures.cases.1 in
    let value = rw c.in-Ok.ensures.cases.0 at c.send_text.ensures in
    rw is_text (on_ok_weaker c.send_text.result
    (λ sent more end h. c.in_ok-send_head-in-Ok.ensures (value_field c.args.value.now more) end (sent more end h)) value)

pub returns-in_ok-send_base64-in-Err : goal.returns-in_ok-send_base64-in-Err
returns-in_ok-send_base64-in-Err g c =
    let not_text : is_utf8 c.args.value.now ≡ false = false_from_ne_true _ (λ text. c.in-Err.ensures.cases.0 (IsUtf8-from_is_utf8 _ text)) in
    rw not_text (on_ok_weaker c.send_head-in-Err.result
    (λ sent more end h. c.in_ok-send_base64-in-Err.ensures (head_of c.args.shown.now more) end (sent more end h)) c.send_head-in-Err.ensures)
