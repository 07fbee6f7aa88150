-- The bytes of a file that is added to.
use Rattle.std.specs.Prelude.{◌≡◌, ℕ, Bool, true, List, ◌++◌, length}
use Rattle.kv_file.specs.declared.appender.Appender.{Appender}

-- the file has these bytes, no call of it has failed, and the appender knows where they end and how many are loose
pub record Has {F : Type 0} (has : F → List ℕ → List ℕ → Type 0) (usable : F → Bool) (kept loose : List ℕ) (appender : Appender F) : Type 0 where
  pub is_usable : usable appender.file ≡ true
  pub file : has appender.file kept loose
  pub offset : appender.offset ≡ length (kept ++ loose)
  pub count : appender.loose ≡ length loose
