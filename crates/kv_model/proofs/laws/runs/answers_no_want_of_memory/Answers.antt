use Rattle.kv_model.proofs.NoMemory.{no_memory}
use Rattle.kv_model.proofs.laws.runs.answers_no_want_of_memory.Goals as goal

pub returns : goal.returns
returns c = no_memory
