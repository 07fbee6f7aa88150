-- What is sent to a serializer, and the line that it is written as, for clauses of this crate alone.
use Rattle.std.specs.Prelude.{◌≡◌, ℕ, List, [], ◌++◌, Some}
use Rattle.serde.specs.Event.{Log}
use Rattle.serde_json.specs.Data.{Members}
use Rattle.serde_json.specs.Events.{SendsMembers}
use Rattle.serde_json.specs.Sent.{IsTextOf}
use Rattle.kv_script.specs.Line.{line}

-- members in front of others: where those come next, all are sent
abbrev pub SendsFront : (Members → Members) → Log → Log → Type 0
SendsFront front old new = (more : Members) (end : Log) → SendsMembers more new end → SendsMembers (front more) old end

-- the text of what is sent, and a line feed, behind what stood there
abbrev pub AddsLine : (Log → Log → Type 0) → List ℕ → List ℕ → Type 0
AddsLine Sends old new = (log : Log) × (text : List ℕ) × Sends (Some []) log × IsTextOf log text × (new ≡ old ++ line text)
