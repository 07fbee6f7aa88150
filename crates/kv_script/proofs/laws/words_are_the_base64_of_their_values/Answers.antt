use Rattle.std.proofs.Common.{refl}
use Rattle.kv_script.proofs.Base64Words.{value_word}
use Rattle.kv_script.proofs.laws.words_are_the_base64_of_their_values.Goals as goal

pub returns-clause-some : goal.returns-clause-some
returns-clause-some c = value_word

pub returns-clause-none : goal.returns-clause-none
returns-clause-none c = refl
