use Rattle.std.proofs.Common.{lit<}
use Rattle.kv_script.proofs.Spaced.{split_words}
use Rattle.kv_script.proofs.parsing.words.split_word.Goals as goal

pub returns : goal.returns
returns c = split_words c.args.text.now c.split_once.result (c.split_once.ensures.byte (lit< tt) (λ w o found. found))
