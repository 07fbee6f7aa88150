use Rattle.std.proofs.Common.{◌≡◌, drop}
use Rattle.kv_run.specs.Planning.{after_line}
use Rattle.kv_run.specs.Races.{no_text}
use Rattle.kv_replay.specs.inside.Reading.{after_bytes}
use Rattle.kv_replay.specs.declared.lines.TheConstants.{KEPT_BYTES}
use Rattle.kv_run.proofs.races.notes.Notes.take_bytes.Given as goal

-- the bytes so far were taken
abbrev pub invariant-loop-byte : goal.invariant-loop-byte
invariant-loop-byte l = after_bytes KEPT_BYTES no_text (after_line l.form) l.self (drop l.byte-index l.bytes) ≡ after_bytes KEPT_BYTES no_text (after_line l.form) l.fn.self l.bytes
