-- What a contract sees of the last step of a history.
use Rattle.std.specs.Prelude.{ℕ, ◌+◌, List, [], ◌∷◌}
use Rattle.kv_model.specs.Acts.{Act, Wrote}
use Rattle.kv_model.specs.Requests.{asked, write_for}
use Rattle.kv_model.specs.declared.request.Request.{Request}

-- the acts before the step, and those with it
pub record JournalStep : Type 0 where
  pub before : List Act
  pub acts : List Act

abbrev pub step_of : List Act → List Act → JournalStep
step_of before acts = record { before = before; acts = acts }

-- the writes for requests in a row, the first with this revision and each other with one more
abbrev pub acts_from : ℕ → List Request → List Act
acts_from revision [] = []
acts_from revision (request ∷ requests) = Wrote (write_for (asked request) revision) ∷ acts_from (revision + 1) requests
