-- What a contract sees of what is published.
use Rattle.std.specs.Prelude.{◌≡◌}
use Rattle.logbook.specs.Pages.{Named}
use Rattle.kv_model.specs.Configuration.{Configuration}
use Rattle.kv_store.specs.Stored.{Stored}
use Rattle.kv_publish.specs.Prefixes.{JournalPrefix}
use Rattle.kv_publish.specs.Openings.{Opening}
use Rattle.kv_publish.specs.Rules.{head_of}

-- a version, and what was seen of the history that it stands for
pub record Published : Type 0 where
  pub version : Stored
  pub raw_prefix : JournalPrefix

-- it is of this opening: of its history, under its configuration
abbrev pub IsOf : Opening → Published → Type 0
IsOf opening publication = (publication.raw_prefix.book ≡ opening.book) × (publication.version.config ≡ opening.config)

-- what the two copies have in common: what was seen, the configuration, and whose rights they have
abbrev pub common_of : Named → Published → JournalPrefix × Configuration × Named
common_of right publication = (publication.raw_prefix, publication.version.config, head_of right.book)

abbrev pub common_after : JournalPrefix × Configuration × Named → Published → JournalPrefix × Configuration × Named
common_after before next = (next.raw_prefix, next.version.config, before.2)
