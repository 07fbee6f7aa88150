use Rattle.std.proofs.Common.{◌≡◌, ◌==◌, ap, ◌∙◌, lit<}
use Rattle.std.specs.List.{slice_split}
use Rattle.std.proofs.lemmas.Result.{IfOk-at_ok}
use Rattle.std.proofs.lemmas.Iterator.Consumers.{map_from_collect}
use Rattle.std.proofs.lemmas.Iterator.Splits.{YieldsList-from_str_split}
use Rattle.kv_script.specs.Commands.{texts}
use Rattle.kv_script.proofs.parsing.grammar.many_words_command.Goals as goal

pub returns : goal.returns
returns c =
    let collected = map_from_collect c.collect.result c.collect.ensures.ran
    (YieldsList-from_str_split 32 c.args.line.now (lit< tt) c.split.ensures.text c.split.ensures.has_more c.split.ensures.pattern) in
    let parts = IfOk-at_ok (λ w. texts w.items ≡ slice_split (λ byte. byte == 32) c.args.line.now) c.in_ok-words.was collected in
    let words : texts c.deref.result.now ≡ slice_split (λ byte. byte == 32) c.args.line.now = ap texts c.deref.ensures.value ∙ parts in
    rw (← words) c.present_words_command.ensures
