-- The bytes of a text, wherever they lie.
use Rattle.std.specs.Prelude.{ℕ, List, string_bytes}
use Rattle.kv_keys.specs.declared.text.Text.{Text}
use Rattle.kv_keys.specs.declared.text.Text.TheVariants.{Inside, Apart}

abbrev pub bytes_of : Text → List ℕ
bytes_of (Inside text) = text.bytes
bytes_of (Apart text) = string_bytes text
