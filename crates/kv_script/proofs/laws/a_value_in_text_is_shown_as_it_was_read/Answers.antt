use Rattle.std.proofs.Common.{refl}
use Rattle.kv_script.proofs.PutLines.{put_line, shown_value}
use Rattle.kv_script.proofs.laws.a_value_in_text_is_shown_as_it_was_read.Goals as goal

pub returns-clause-read : goal.returns-clause-read
returns-clause-read c = put_line

pub returns-clause-shown : goal.returns-clause-shown
returns-clause-shown c = shown_value

pub returns-clause-other : goal.returns-clause-other
returns-clause-other c value not_text = rw not_text refl
