use Rattle.kv_script.proofs.Places.{digits_value, eight_digits, quoted_place}
use Rattle.kv_script.proofs.laws.places_are_eight_digits.Goals as goal

pub returns-clause-eight : goal.returns-clause-eight
returns-clause-eight c = eight_digits

pub returns-clause-value : goal.returns-clause-value
returns-clause-value c = digits_value

pub returns-clause-plain : goal.returns-clause-plain
returns-clause-plain c = quoted_place
