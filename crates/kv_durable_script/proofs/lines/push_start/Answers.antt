use Rattle.std.proofs.Common.{sym, ◌∙◌, length}
use Rattle.std.specs.List.{list_all}
use Rattle.std.proofs.lemmas.Result.{on_ok_weaker}
use Rattle.kv_durable_script.specs.Dumps.{is_write}
use Rattle.kv_durable_script.proofs.Telling.{count_told}
use Rattle.kv_durable_script.proofs.lines.push_start.Goals as goal

pub returns-in-Some : goal.returns-in-Some
returns-in-Some c =
    on_ok_weaker c.push_number.result (λ appends acts e can.
    let told = count_told (list_all is_write acts) c.in-Some.count (length acts) (sym c.in-Some.is ∙ c.writes_in.ensures acts e can) in
    rw (told.0, sym told.1) appends)
    c.push_number.ensures.ok
