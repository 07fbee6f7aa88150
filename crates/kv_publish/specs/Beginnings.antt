-- What the acts count as that a history began with.
use Rattle.std.specs.Prelude.{ℕ, zero, suc, ◌+◌, ◌-◌, ◌≡◌, ◌⊎◌, List, [], ◌∷◌, ◌++◌, length, map, true}
use Rattle.kv_model.specs.Acts.{Act, Seal, IsPrefix}
use Rattle.kv_publish.specs.declared.entry.Entry.{Entry}
use Rattle.kv_publish.specs.Rules.{acts_in, entry}

-- the acts that a history began with count as one, where there are any
abbrev pub counted : List Act → ℕ
counted [] = 0
counted (act ∷ acts) = 1

-- how far a beginning of a history is: nowhere, where it has nothing; else behind the acts that the history began with, and
-- behind each one that was added since
abbrev pub count_of : List Act → List Act → ℕ
count_of began [] = 0
count_of began (act ∷ acts) = counted began + (length (act ∷ acts) - length began)

-- it has nothing, or all that the history began with
abbrev pub IsFrom : List Act → List Act → Type 0
IsFrom began acts = (acts ≡ []) ⊎ IsPrefix began acts

-- what was seen by who is so far: nothing, or what the history began with and what was added
abbrev pub seen_of : ℕ → List Act → List Entry → List Act
seen_of zero began log = []
seen_of (suc n) began log = began ++ acts_in log

-- so far is who has seen nothing, or these entries of what was added
abbrev pub IsSoFar : ℕ → List Act → List Entry → Type 0
IsSoFar n began log = (n ≡ 0) ⊎ (n ≡ counted began + length log)

-- the title of a history: its first right, and behind that the acts that it began with
abbrev pub title_of : ℕ → List Act → List Entry
title_of first began = entry Seal true 0 first ∷ map (λ act. entry act true 0 0) began

abbrev pub first_in : List Entry → ℕ
first_in [] = 0
first_in (e ∷ log) = e.next

abbrev pub began_in : List Entry → List Act
began_in [] = []
began_in (e ∷ log) = acts_in log
