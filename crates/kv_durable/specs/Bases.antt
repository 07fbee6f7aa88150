-- What the entries of a journal go on from.
use Rattle.std.specs.Prelude.{◌≡◌, ℕ, Bool, false, List, [], ◌++◌, Option, None, Some, length, unwrap_or}
use Rattle.std.specs.Option.{option_map_or}
use Rattle.kv_frames.specs.Frames.{frames}
use Rattle.kv_model.specs.Acceptance.{IsLawful}
use Rattle.kv_model.specs.Acts.{Act}
use Rattle.kv_model.specs.Configuration.{Configuration}
use Rattle.kv_journal.specs.Checkpoints.{checkpoint_of, checkpoint_payloads}
use Rattle.kv_journal.specs.Header.{beginning}

-- a configuration, and the acts in whose place a checkpoint stands, if there is one
pub record Base : Type 0 where
  pub config : Configuration
  pub replaced : Option (List Act)

-- that of a file with no checkpoint
abbrev pub fresh : Configuration → Base
fresh config = record { config = config; replaced = None }

-- that of a file that begins with a checkpoint of these acts
abbrev pub replaced_by : Configuration → List Act → Base
replaced_by config acts = record { config = config; replaced = Some acts }

-- the acts before the first entry
abbrev pub acts_before : Base → List Act
acts_before base = unwrap_or base.replaced []

-- the payloads of its checkpoint
abbrev pub base_payloads : Base → List (List ℕ)
base_payloads base = option_map_or (λ acts. checkpoint_payloads (checkpoint_of base.config acts)) base.replaced []

-- what a file with this seed begins with: the header, the configuration, and the checkpoint
abbrev pub opening : ℕ → Base → List ℕ
opening seed base = beginning seed base.config ++ frames seed (length (beginning seed base.config)) (base_payloads base)

-- how many bytes a file with this seed has that begins so, and has nothing behind it
abbrev pub opening_size : ℕ → Base → ℕ
opening_size seed base = length (opening seed base)

-- the acts could be accepted one behind the other
abbrev pub IsLawfulBase : Base → Type 0
IsLawfulBase base = IsLawful base.config (acts_before base)

-- a base with this configuration, whose checkpoint has these payloads, or that has none where these are none
pub record IsBaseOf (config : Configuration) (payloads : List (List ℕ)) (base : Base) : Type 0 where
  pub same : base.config ≡ config
  pub lawful : IsLawfulBase base
  pub stands : base_payloads base ≡ payloads

-- there is such a base: acts are known in whose place the checkpoint stands. Where there is no checkpoint, it is that of a file
-- with none.
abbrev pub KnowsBase : Configuration → List (List ℕ) → (checkpointed : Bool) → Type 0
KnowsBase config payloads checkpointed = (base : Base) × IsBaseOf config payloads base × (checkpointed ≡ false → base ≡ fresh config)
