use Rattle.std.proofs.Common.{◌≡◌, ℕ, List, false}
use Rattle.std.specs.Io.KnownBytes.{Consumes}
use Rattle.kv_run.specs.Planning.{after_line, nothing}
use Rattle.kv_run.specs.Races.{no_text}
use Rattle.kv_replay.specs.inside.Reading.{after_bytes, beginning}
use Rattle.kv_replay.specs.declared.lines.TheConstants.{KEPT_BYTES}
use Rattle.kv_run.proofs.races.reading.read_lines.Given as goal

-- the source is the same, and the input so far was read
abbrev pub invariant-reads : goal.invariant-reads
invariant-reads g l = record {
  same : g.S.BoundedInput.goes_on l.initial.source l.source;
  in_time : g.S.BoundedInput.has_ended l.initial.source ≡ false → (g.S.BoundedInput.has_ended l.source ≡ false) × (g.S.BoundedInput.was_asked_late l.source ≡ g.S.BoundedInput.was_asked_late l.initial.source);
  reached : (input : List ℕ) × (Consumes (g.S.BoundedInput.left l.initial.source) (g.S.BoundedInput.left l.source) input × (l.notes ≡ after_bytes KEPT_BYTES no_text (after_line l.form) (beginning nothing) input));
}

abbrev pub decreases-reads : goal.decreases-reads
decreases-reads g l = g.S.BoundedInput.calls_left l.source
