-- What a ring's version has in common with the version that it makes the next one of.
use Rattle.std.specs.Prelude.{◌≡◌, List}
use Rattle.kv_model.specs.Acts.{Act}
use Rattle.kv_store.specs.Standing.{StandsFor}
use Rattle.kv_store.specs.Stored.{Stored}

-- the other version has the same configuration, and stands for all that this one stands for
abbrev pub StandsAlike : Stored → Stored → Type 0
StandsAlike version other = (other.config ≡ version.config) × ((acts : List Act) → StandsFor acts version → StandsFor acts other)
