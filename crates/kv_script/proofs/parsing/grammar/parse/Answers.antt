use Rattle.std.proofs.Common.{◌≡◌, nat_le, false, true, length, refl, arith, rules}
use Rattle.std.specs.Str.{is_utf8}
use Rattle.std.proofs.lemmas.Bool.{false_from_ne_true, le-leb}
use Rattle.std.proofs.lemmas.Str.{IsUtf8-from_is_utf8, is_utf8-from_IsUtf8}
use Rattle.kv_script.specs.Commands.{line_command}
use Rattle.kv_script.proofs.parsing.grammar.parse.Goals as goal

pub returns-then-line-gt-MOST_OF_LINE : goal.returns-then-line-gt-MOST_OF_LINE
unfolding line_command
returns-then-line-gt-MOST_OF_LINE c = search rules

pub returns-in_default : goal.returns-in_default
unfolding line_command
returns-in_default c =
    let not_text : is_utf8 c.args.line.now ≡ false = false_from_ne_true _ (λ text. c.in_default.ensures.cases.0 (IsUtf8-from_is_utf8 _ text)) in
    rw not_text refl

pub returns : goal.returns
unfolding line_command
returns c =
    let is_text : is_utf8 c.args.line.now ≡ true = is_utf8-from_IsUtf8 _ c.in-Ok.ensures.cases.1 in
    let fits : nat_le (length c.args.line.now) 1400000 ≡ true = le-leb (length c.args.line.now) 1400000 (omega arith) in
    rw (is_text, fits, ← c.in-Ok.ensures.cases.0) c.command_in.ensures
