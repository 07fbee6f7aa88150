-- What a contract sees of what was seen of a history.
use Rattle.std.specs.Prelude.{List}
use Rattle.kv_publish.specs.declared.entry.Entry.{Entry}
use Rattle.kv_publish.specs.Openings.{HistoryName}

-- its entries, and which history it is
pub record Witnessed : Type 0 where
  pub log : List Entry
  pub book : HistoryName
