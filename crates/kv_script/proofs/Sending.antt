-- The line of what is sent as JSON with no float is the line of that JSON's text.
use Rattle.std.proofs.Common.{◌≡◌, ℕ, List, ◌++◌, false, ap, ◌∙◌}
use Rattle.serde_json.specs.Data.{Data}
use Rattle.serde_json.specs.Events.{SendsValue}
use Rattle.serde_json.specs.Written.{compact_text, has_float}
use Rattle.serde_json.proofs.FreeTexts.{text_of_value}
use Rattle.kv_script.specs.Line.{line}
use Rattle.kv_script.specs.inside.Sends.{AddsLine}

pub line_of : (d : Data) (old new : List ℕ) → has_float d ≡ false → AddsLine (SendsValue d) old new → new ≡ old ++ line (compact_text d)
line_of d old new whole h = h.4 ∙ ap (λ text. old ++ line text) (text_of_value d h.0 h.1 h.2 h.3 whole)
