use Rattle.std.proofs.Common.{◌++◌, ◌-◌, ap, ◌∙◌}
use Rattle.std.proofs.lemmas.Result.{on_ok_weaker}
use Rattle.kv_script.specs.Text.{revisions_behind}
use Rattle.kv_script.specs.inside.Showing.{revisions_object}
use Rattle.kv_script.proofs.Lines.{revisions_line}
use Rattle.kv_script.proofs.Sending.{line_of}
use Rattle.kv_script.proofs.Whole.{revisions_whole}
use Rattle.kv_script.proofs.answering.batches.append_revisions.Goals as goal

pub returns-clause-ok : goal.returns-clause-ok
returns-clause-ok c =
    let revisions = revisions_behind c.args.before (c.args.last - c.args.before) in
    on_ok_weaker c.append_line.result (λ sent.
    line_of (revisions_object c.args.before c.args.last) _ _ (revisions_whole revisions) sent
    ∙ ap (λ text. c.args.out.now.items ++ text) (revisions_line revisions)) c.append_line.ensures.ok
