-- The end of a durable bucket.
use Rattle.std.specs.Prelude.{ℕ, List, [], ◌∷◌, ◌++◌, length}
use Rattle.kv_model.specs.Acts.{Act, writes_of}
use Rattle.kv_journal.specs.Entries.{Entry}
use Rattle.kv_journal.specs.Records.{Content, closed}
use Rattle.kv_durable.specs.Bases.{Base}
use Rattle.kv_durable.specs.Files.{file_of}
use Rattle.kv_durable.specs.Journals.{told_next}
use Rattle.kv_durable.specs.declared.journal.Journal.{Journal}

-- that a journal ends cleanly behind these acts
abbrev pub end_of : List Act → List Content
end_of acts = closed (length (writes_of acts)) ∷ []

-- The file was given back: it has all entries on the disk, and behind them that it ends cleanly.
abbrev pub IsClosed : {F : Type 0} → (F → List ℕ → List ℕ → Type 0) → Base → (kept loose : List Entry) → (acts : List Act) → Journal F → F → Type 0
IsClosed has base kept loose acts journal file = has file (file_of journal.framing.seed base ((kept ++ loose) ++ told_next journal (end_of acts))) []
