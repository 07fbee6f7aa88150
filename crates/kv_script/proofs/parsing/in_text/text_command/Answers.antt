use Rattle.kv_script.proofs.Spaced.{lone_line}
use Rattle.kv_script.proofs.parsing.in_text.text_command.Goals as goal

pub returns-in_default : goal.returns-in_default
returns-in_default c = rw (lone_line c.args.line.now c.in_default.ensures) c.plain_command.ensures
