-- What a name stands for.
use Rattle.std.specs.Prelude.{ℕ, List}
use Rattle.logbook.specs.Pages.{Book}
use Rattle.kv_model.specs.Acts.{Act}
use Rattle.kv_model.specs.Configuration.{Configuration}

-- which history it is: the book that has it, the first right to add to it there, and the acts that the bucket had when it was
-- opened, with which the history begins
pub record HistoryName : Type 0 where
  pub written_in : Book
  pub first : ℕ
  pub began : List Act

-- one opening of a bucket: its history, and its configuration
pub record Opening : Type 0 where
  pub book : HistoryName
  pub config : Configuration
