-- What stands before the entries of a file.
use Rattle.std.specs.Prelude.{◌≡◌, ℕ, true, false, List, [], ◌++◌}
use Rattle.kv_frames.specs.Frames.{ArePayloads, Splits, frames, offset_after}
use Rattle.kv_model.specs.Acceptance.{IsLawful}
use Rattle.kv_model.specs.Acts.{Act}
use Rattle.kv_model.specs.Configuration.{Configuration}
use Rattle.kv_store.specs.Standing.{StandsFor}
use Rattle.kv_journal.specs.Checkpoints.{checkpoint_of, checkpoint_payloads}
use Rattle.kv_journal.specs.Entries.{Entry, payloads_of}
use Rattle.kv_durable.specs.Bases.{Base, IsBaseOf, KnowsBase, acts_before}
use Rattle.kv_durable.specs.declared.start.Started.{Started}

-- The bytes behind the configuration, which lie at this offset, begin with a checkpoint of these payloads, or with none where
-- these are none. The version stands for the acts in whose place it stands, and there are some, and entries begin behind it.
pub record IsStarted (config : Configuration) (seed at : ℕ) (bytes : List ℕ) (payloads : List (List ℕ)) (rest : List ℕ) (started : Started) : Type 0 where
  pub same : started.version.config ≡ config
  pub whole : bytes ≡ frames seed at payloads ++ rest
  pub fit : ArePayloads payloads
  pub offset : started.offset ≡ offset_after at payloads
  pub plain : started.checkpointed ≡ false → payloads ≡ []
  pub some : started.checkpointed ≡ true → payloads ≡ [] → ⊥
  pub stands : (base : Base) → IsBaseOf config payloads base → StandsFor (acts_before base) started.version
  pub front : (acts : List Act) (left : List ℕ) → IsLawful config acts → ArePayloads (checkpoint_payloads (checkpoint_of config acts)) →
      bytes ≡ frames seed at (checkpoint_payloads (checkpoint_of config acts)) ++ left → checkpoint_payloads (checkpoint_of config acts) ≡ payloads
  pub knows : KnowsBase config payloads started.checkpointed
  pub none : (entries : List Entry) (left : List ℕ) → Splits seed at bytes (payloads_of entries) left → payloads ≡ []
