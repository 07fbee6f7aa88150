use Rattle.kv_model.proofs.Others.{run-append, answers-append}
use Rattle.kv_model.proofs.Theorem.{items-append}
use Rattle.kv_model.proofs.laws.runs.runs_join.Goals as goal

pub returns-clause-state : goal.returns-clause-state
returns-clause-state c = run-append

pub returns-clause-answers : goal.returns-clause-answers
returns-clause-answers c = answers-append

pub returns-clause-items : goal.returns-clause-items
returns-clause-items c = λ state calls more number. items-append state number calls more
