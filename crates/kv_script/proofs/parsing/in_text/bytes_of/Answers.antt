use Rattle.std.proofs.Common.{rules}
use Rattle.kv_script.proofs.parsing.in_text.bytes_of.Goals as goal

pub returns : goal.returns
returns c = search rules
