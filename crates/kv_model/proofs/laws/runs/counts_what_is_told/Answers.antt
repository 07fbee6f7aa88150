use Rattle.std.proofs.Common.{[]}
use Rattle.kv_model.specs.State.{empty}
use Rattle.kv_model.proofs.Told.{nothing_yet, told_run}
use Rattle.kv_model.proofs.laws.runs.counts_what_is_told.Goals as goal

pub returns : goal.returns
returns c = λ config calls number. told_run (empty config) number [] calls (nothing_yet config number)
