-- What a contract sees of a beginning of a history.
use Rattle.std.specs.Prelude.{List}
use Rattle.kv_model.specs.Acts.{Act}
use Rattle.kv_publish.specs.Openings.{HistoryName}

-- its acts, and which history it is
pub record JournalPrefix : Type 0 where
  pub acts : List Act
  pub book : HistoryName
