use Rattle.std.proofs.Common.{◌++◌, ap, ◌∙◌}
use Rattle.kv_replay.proofs.Reading.{history_found}
use Rattle.kv_replay.proofs.reads.answer_history.Goals as goal

pub returns-in_ok-append_history-in-Ok-clause-ok : goal.returns-in_ok-append_history-in-Ok-clause-ok
returns-in_ok-append_history-in-Ok-clause-ok c = λ state r.
    let known = c.version.ensures.acts state r in
    let found = rw known.0 at (c.in-Ok.ensures state.acts known.1) in
    rw c.deref.ensures.value at c.in_ok-append_history-in-Ok.ensures.ok ∙ ap (λ t. c.args.out.now.items ++ t) (history_found c.args.form state.config.bucket _ _ found)
