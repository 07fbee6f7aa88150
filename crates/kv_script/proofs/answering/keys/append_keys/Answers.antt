use Rattle.std.proofs.Common.{◌++◌, map, ap, ◌∙◌}
use Rattle.std.proofs.lemmas.Result.{on_ok_weaker}
use Rattle.kv_script.specs.inside.Showing.{keys_object}
use Rattle.kv_script.proofs.Lines.{keys_line}
use Rattle.kv_script.proofs.Sending.{line_of}
use Rattle.kv_script.proofs.Whole.{keys_whole}
use Rattle.kv_script.proofs.answering.keys.append_keys.Goals as goal

pub returns-clause-ok : goal.returns-clause-ok
returns-clause-ok c =
    let keys = map (λ key. key.now) c.args.keys.now in
    on_ok_weaker c.append_line.result (λ sent.
    line_of (keys_object c.args.keys.now) _ _ (keys_whole keys) sent
    ∙ ap (λ text. c.args.out.now.items ++ text) (keys_line keys)) c.append_line.ensures.ok
