-- What a write leads from one version to the next, also where another version is brought there.
use Rattle.std.specs.Prelude.{◌≡◌, ℕ, ◌+◌, ◌<◌, List}
use Rattle.kv_model.specs.Acts.{Write}
use Rattle.kv_store.specs.Stored.{Stored, kept_at, last_at, write_at}
use Rattle.kv_store.specs.inside.Next.{HasOneMore, kept_after, values_after}

-- a write that is made: the write, the revisions that are kept of its key with it, and how many entries there are then
pub record Made : Type 0 where
  pub write : Write
  pub kept : List ℕ
  pub values : ℕ

-- it is made for this version, which has room for it
pub record IsMadeOf (made : Made) (version : Stored) : Type 0 where
  pub room : version.last < version.config.revision_limit
  pub revision : made.write.revision ≡ version.last + 1
  pub kept : made.kept ≡ kept_after made.write version
  pub values : made.values ≡ values_after made.write version

-- it is made for the old version, and the new one is that version with its write
pub record LeadsTo (made : Made) (old new : Stored) : Type 0 where
  pub fits : IsMadeOf made old
  pub more : HasOneMore made.write old new

-- all that is found in the one version is found in the other
pub record IsAlike (first second : Stored) : Type 0 where
  pub config : second.config ≡ first.config
  pub last : second.last ≡ first.last
  pub written : (revision : ℕ) → write_at revision second ≡ write_at revision first
  pub kept : (key : List ℕ) → kept_at key second ≡ kept_at key first
  pub last_of : (key : List ℕ) → last_at key second ≡ last_at key first
  pub values : second.values ≡ first.values
  pub floor : second.floor ≡ first.floor
  pub sealed : second.sealed ≡ first.sealed
