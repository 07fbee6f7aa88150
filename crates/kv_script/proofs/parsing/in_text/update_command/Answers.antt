use Rattle.std.proofs.Common.{rules, tests}
use Rattle.kv_script.proofs.Spaced.{update_text}
use Rattle.kv_script.proofs.parsing.in_text.update_command.Goals as goal

pub returns-in_err-key : goal.returns-in_err-key
returns-in_err-key c =
    let words = update_text c.args.arguments.now c.in-Some.key.now c.in-Some.rest.now c.in-Some-split_word.last.now c.in-Some-split_word.text.now c.in-Some.ensures c.in-Some-split_word.ensures in
    rw words (search (rules, tests))

pub returns : goal.returns
returns c =
    let words = update_text c.args.arguments.now c.in-Some.key.now c.in-Some.rest.now c.in-Some-split_word.last.now c.in-Some-split_word.text.now c.in-Some.ensures c.in-Some-split_word.ensures in
    rw words (search (rules, tests))
