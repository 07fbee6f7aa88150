-- The filter of every key is a list of filters.
use Rattle.std.proofs.Common.{◌≡◌, true, ◌∷◌, [], refl}
use Rattle.kv_keys.specs.Grammar.{parts, is_filter, are_filters}

pub every_key : are_filters (parts (62 ∷ [])) ≡ true
unfolding are_filters is_filter
every_key = refl
