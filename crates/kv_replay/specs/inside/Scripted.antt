-- What a script's run holds: a session, and the line that has begun.
use Rattle.std.specs.Prelude.{◌≡◌, ℕ, List, Option, option_map}
use Rattle.kv_single.specs.Held.{Bucketed, Represents}
use Rattle.kv_replay.specs.Sessions.{Session}
use Rattle.kv_replay.specs.inside.Gathering.{Gathered, gathered}
use Rattle.kv_replay.specs.inside.Reading.{Reading}
use Rattle.kv_replay.specs.declared.interpreter.Interpreter.{Interpreter}
use Rattle.kv_replay.specs.declared.lines.Script.{Script}

pub record Sessioned : Type 0 where
  pub bucket : Bucketed
  pub batch : Option Gathered

-- the bucket represents the state, and what is kept of the batch is of its lines
pub record Stands (session : Session) (held : Sessioned) : Type 0 where
  pub bucket : Represents session.state held.bucket
  pub batch : held.batch ≡ option_map gathered session.batch

pub record Scripted : Type 0 where
  pub session : Sessioned
  pub line : List ℕ

-- the session stands, and the line is the one that has begun
pub record Holds (reading : Reading Session) (script : Scripted) : Type 0 where
  pub session : Stands reading.state script.session
  pub line : script.line ≡ reading.line

-- what an interpreter holds, where it runs on something that is this bucket
abbrev pub held : {T : Type 0} → (T → Bucketed) → Interpreter T → Sessioned
held bucket interpreter = record { bucket = bucket interpreter.target; batch = interpreter.batch }

-- and a script
abbrev pub scripted : {T : Type 0} → (T → Bucketed) → Script T → Scripted
scripted bucket script = record { session = held bucket script.session; line = script.line.items }
