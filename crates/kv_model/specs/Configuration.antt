-- The configuration of a bucket, and which of them are legal.
use Rattle.std.specs.Prelude.{◌≡◌, ℕ, ◌&&◌, Bool, true, nat_le, List, Result, Ok, Err, if◌then◌else◌}
use Rattle.kv_keys.specs.Grammar.{is_name}
use Rattle.kv_keys.specs.declared.error.KvError.{KvError}
use Rattle.kv_keys.specs.declared.error.KvError.TheVariants.{BadBucket, BadConfig}

pub record Configuration : Type 0 where
  pub bucket : List ℕ
  pub history : ℕ
  pub value_limit : ℕ
  pub write_limit : ℕ
  pub revision_limit : ℕ

-- 1 to 64 entries of a key are kept, a value has up to 1,048,576 bytes, 1 to 1,000,000 writes are stored, and the last
-- revision is 1 to 4,294,967,295
abbrev pub has_legal_numbers : Configuration → Bool
has_legal_numbers config =
    (nat_le 1 config.history && nat_le config.history 64)
    && nat_le config.value_limit 1048576
    && (nat_le 1 config.write_limit && nat_le config.write_limit 1000000)
    && (nat_le 1 config.revision_limit && nat_le config.revision_limit 4294967295)

-- the name is a name, and the numbers are within their limits
abbrev pub IsLegal : Configuration → Type 0
IsLegal config = (is_name config.bucket ≡ true) × (has_legal_numbers config ≡ true)

-- the refusal of a configuration: the name first, then the numbers
abbrev pub configure : Configuration → Result Configuration KvError
configure config =
    if is_name config.bucket then (if has_legal_numbers config then Ok config else Err BadConfig) else Err BadBucket
