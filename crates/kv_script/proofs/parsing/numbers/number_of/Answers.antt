use Rattle.std.proofs.Common.{◌≡◌, ◌<◌, true, length, sym, ◌∙◌, arith}
use Rattle.std.specs.Str.{all_ascii_digits}
use Rattle.kv_script.proofs.Digits.{parsed_digits, number_of-digits}
use Rattle.kv_script.proofs.parsing.numbers.number_of.Goals as goal

pub returns : goal.returns
returns c =
    let word = c.args.word.now in
    let some : 0 < length word = grind (arith) in
    let digits : all_ascii_digits word ≡ true = grind (arith) in
    c.ok.ensures.value ∙ parsed_digits c.parse.result word digits some c.parse.ensures.value.0 ∙ sym (number_of-digits word some (omega arith) digits)
