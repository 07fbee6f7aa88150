-- What waits to be appended.
use Rattle.std.specs.Prelude.{List, [], ◌∷◌, Option, Some, None}

-- it, if there is one, as the end of a list
abbrev pub waiting : {A : Type 0} → Option A → List A
waiting None = []
waiting (Some x) = x ∷ []
