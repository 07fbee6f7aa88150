-- A version that was made of a checkpoint.
use Rattle.std.specs.Prelude.{◌≡◌, ℕ, List, None, ◌++◌, filter, find, ◌==◌}
use Rattle.std.specs.List.{last_or}
use Rattle.std.specs.Str.{bytes_eq}
use Rattle.kv_frames.specs.Frames.{ArePayloads, frames}
use Rattle.kv_model.specs.Acceptance.{IsLawful}
use Rattle.kv_model.specs.Acts.{Act, Write}
use Rattle.kv_model.specs.Configuration.{Configuration}
use Rattle.kv_model.specs.Reads.{unless_empty}
use Rattle.kv_model.specs.Retained.{last_n, revisions, since_purge}
use Rattle.kv_store.specs.Stored.{Stored, kept_at, last_at, write_at}
use Rattle.kv_journal.specs.Checkpoints.{Checkpoint, checkpoint_of, checkpoint_payloads}

-- these writes of a key
abbrev pub those_of : List ℕ → List Write → List Write
those_of key ws = filter (λ w. bytes_eq w.key key) ws

-- the version has these writes by revision; of each key it has those from the last purge on, and of these the last ones,
-- as the kept revisions, and the last one as the last write
pub record HasPutBack (ws : List Write) (version : Stored) : Type 0 where
  pub written : (revision : ℕ) → write_at revision version ≡ find (λ w. w.revision == revision) ws
  pub kept : (key : List ℕ) → kept_at key version ≡ unless_empty (revisions (last_n version.config.history (since_purge (those_of key ws))))
  pub last_of : (key : List ℕ) → last_at key version ≡ last_or None (those_of key ws)

-- the writes of the checkpoint, and its numbers
pub record IsRestored (config : Configuration) (checkpoint : Checkpoint) (version : Stored) : Type 0 where
  pub same : version.config ≡ config
  pub writes : HasPutBack checkpoint.writes version
  pub last : version.last ≡ checkpoint.last
  pub values : version.values ≡ checkpoint.values
  pub floor : version.floor ≡ checkpoint.floor
  pub sealed : version.sealed ≡ checkpoint.sealed

-- where the bytes begin with the checkpoint of a bucket, it is this one
abbrev pub IsOnly : Configuration → (seed at : ℕ) → List ℕ → Checkpoint → Type 0
IsOnly config seed at bytes checkpoint = (acts : List Act) (left : List ℕ) → IsLawful config acts → ArePayloads (checkpoint_payloads (checkpoint_of config acts)) →
    bytes ≡ frames seed at (checkpoint_payloads (checkpoint_of config acts)) ++ left → checkpoint_of config acts ≡ checkpoint
