-- Versions between the acts of one step.
use Rattle.std.specs.Prelude.{◌≡◌, List, ◌++◌}
use Rattle.kv_model.specs.Acts.{Act, IsPrefix}
use Rattle.kv_model.specs.Configuration.{Configuration}
use Rattle.kv_store.specs.Standing.{StandsFor}
use Rattle.kv_store.specs.Stored.{Stored}

-- for each beginning of the acts that come behind those before, a version stands for these and it
abbrev pub HasBeginnings : Configuration → List Act → List Act → Type 0
HasBeginnings config before more = (beginning : List Act) → IsPrefix beginning more →
    (version : Stored) × ((version.config ≡ config) × StandsFor (before ++ beginning) version)
