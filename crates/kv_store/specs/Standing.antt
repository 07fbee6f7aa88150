-- Which lists of acts a version stands for.
use Rattle.std.specs.Prelude.{◌≡◌, ℕ, List, length}
use Rattle.kv_model.specs.Acceptance.{IsLawful}
use Rattle.kv_model.specs.Acts.{Act, writes_of, floor_of, is_sealed}
use Rattle.kv_model.specs.Configuration.{IsLegal}
use Rattle.kv_model.specs.Reads.{unless_empty, write_at_of}
use Rattle.kv_model.specs.Retained.{kept, last_write, retained, revisions}
use Rattle.kv_store.specs.Stored.{Stored, kept_at, last_at, write_at}

-- a version stands for lawful acts under its legal configuration: it has by revision the writes that are stored after
-- them, of each key the kept revisions in order and the last write, and nothing else; its floor is that of their last
-- compaction, and it is sealed where they hold a seal
pub record StandsFor (acts : List Act) (version : Stored) : Type 0 where
  pub legal : IsLegal version.config
  pub lawful : IsLawful version.config acts
  pub last : version.last ≡ length (writes_of acts)
  pub written : (revision : ℕ) → write_at revision version ≡ write_at_of version.config.history revision acts
  pub kept : (key : List ℕ) → kept_at key version ≡ unless_empty (revisions (kept version.config.history key acts))
  pub last_of : (key : List ℕ) → last_at key version ≡ last_write key acts
  pub values : version.values ≡ length (retained version.config.history acts)
  pub floor : version.floor ≡ floor_of acts
  pub sealed : version.sealed ≡ is_sealed acts
