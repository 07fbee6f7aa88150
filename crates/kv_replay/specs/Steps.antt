-- What is made of the calls of a line.
use Rattle.std.specs.Prelude.{◌≡◌, ◌≤◌, ◌<◌, ◌+◌, ℕ, List, ◌++◌, length, take}
use Rattle.kv_single.specs.Held.{Bucketed, Represents}
use Rattle.kv_model.specs.State.{State}
use Rattle.kv_replay.specs.Text.{Step, steps_text, steps_next}

-- all calls were made and answered
abbrev pub Does : State → List Step → List ℕ → List ℕ → Bucketed → Type 0
Does state steps before now bucket = (now ≡ before ++ steps_text steps) × Represents (steps_next state steps) bucket

-- the first calls were made, and these were answered, but perhaps for the last of them; where there are calls, one has
-- no answer
pub record EndsEarly (state : State) (steps : List Step) (before now : List ℕ) (bucket : Bucketed) : Type 0 where
  pub answered : ℕ
  pub made : ℕ
  pub ordered : answered ≤ made
  pub nearly : made ≤ answered + 1
  pub within : made ≤ length steps
  pub unfinished : 0 < length steps → answered < length steps
  pub appended : now ≡ before ++ steps_text (take answered steps)
  pub stands : Represents (steps_next state (take made steps)) bucket

-- the first calls were made, and each of these was answered
pub record EndsBetween (state : State) (steps : List Step) (before now : List ℕ) (bucket : Bucketed) : Type 0 where
  pub made : ℕ
  pub within : made ≤ length steps
  pub unfinished : 0 < length steps → made < length steps
  pub appended : now ≡ before ++ steps_text (take made steps)
  pub stands : Represents (steps_next state (take made steps)) bucket
