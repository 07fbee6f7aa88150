use Rattle.kv_journal.proofs.Telling.{numbers_behind}
use Rattle.kv_journal.proofs.numbers.numbers_in.Goals as goal

pub returns : goal.returns
returns c = numbers_behind c.numbers_of.result c.in-Some.rest.now c.args.payload.now c.in-Some.ensures c.numbers_of.ensures
