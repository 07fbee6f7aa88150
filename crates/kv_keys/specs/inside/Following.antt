-- Keys byte by byte, for clauses of this crate alone.
use Rattle.std.specs.Prelude.{ℕ, ◌==◌, Bool, if◌then◌else◌}
use Rattle.kv_keys.specs.Grammar.{is_key_character}

-- a dot follows only where its token has begun, any other character of keys anywhere
abbrev pub may_follow : Bool → ℕ → Bool
may_follow has_begun byte = if byte == 46 then has_begun else is_key_character byte
