use Rattle.std.proofs.Common.{◌∙◌}
use Rattle.kv_run.proofs.ArgumentOptions.{parsed_number}
use Rattle.kv_run.proofs.clashes.number_of.Goals as goal

pub returns : goal.returns
returns c = c.ok.ensures.value ∙ parsed_number c.args.word.now c.parse.result c.parse.ensures.value.0
