use Rattle.std.proofs.lemmas.Result.{on_ok_weaker}
use Rattle.serde_json.specs.Data.{no_members}
use Rattle.kv_script.proofs.answering.shown.send_end.Goals as goal

pub returns-in-Ok : goal.returns-in-Ok
returns-in-Ok g c =
    rw c.in-Some.is (on_ok_weaker c.end_map.result (λ ended. c.in-Ok.ensures no_members _ ended) c.end_map.ensures)
