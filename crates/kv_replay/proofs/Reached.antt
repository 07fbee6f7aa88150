-- How far a replay of a bucket's script has come.
use Rattle.std.proofs.Common.{ℕ, List, [], Option, append-nil, subst, sym}
use Rattle.std.specs.Io.{StartsWith}
use Rattle.std.specs.Io.KnownBytes.{Appends, Consumes, IsAtEnd, Keeps}
use Rattle.kv_script.specs.declared.form.Form.{Form}
use Rattle.std.proofs.KnownBytes.{Consumes-trans}
use Rattle.kv_single.specs.Held.{Bucketed, Represents}
use Rattle.kv_replay.specs.Replaying.{EndsAt}
use Rattle.kv_replay.specs.Outcome.{Replays, Breaks, Stops, StopsWhole}
use Rattle.kv_replay.specs.inside.Reading.{Reading, beginning, after_bytes, said, closed}
use Rattle.kv_replay.specs.inside.Scripted.{Scripted, Holds}
use Rattle.kv_replay.specs.Sessions.{Session, end_text, line_text, line_next, text_from, whole_from}
use Rattle.kv_replay.specs.inside.Written.{Puts, PutsWhole}
use Rattle.kv_replay.specs.declared.lines.TheConstants.{KEPT_BYTES}
use Rattle.kv_replay.proofs.ByteByByte.{behind_is}
use Rattle.kv_replay.proofs.Progress as progress
use Rattle.kv_replay.proofs.Turns.{line_text-whole, line_text-long, line_next-long}

module _ (form : Form) (start : Session) where
  -- the input so far was read and answered
  abbrev pub Reached : (unread left held holds : Option (List ℕ)) → Scripted → Type 0
  Reached unread left held holds script =
      progress.Progress KEPT_BYTES (line_text form) (line_next form) end_text (line_text-long form) (line_next-long form) (line_text-whole form) Holds start unread left held holds script

  -- the text of the whole lines comes first
  pub whole_first : (input : List ℕ) → StartsWith (text_from form start input) (whole_from form start input)
  whole_first input = progress.whole_first KEPT_BYTES (line_text form) (line_next form) end_text (line_text-long form) (line_next-long form) (line_text-whole form) Holds start input

  pub reached_none : (unread held : Option (List ℕ)) (script : Scripted) → Holds (beginning start) script → Reached unread unread held held script
  reached_none unread held script holding =
      progress.begun KEPT_BYTES (line_text form) (line_next form) end_text (line_text-long form) (line_next-long form) (line_text-whole form) Holds start unread held script holding

  module _ (unread left held holds : Option (List ℕ)) (script : Scripted) (so_far : Reached unread left held holds script) where
    -- the script as it is read so far
    abbrev pub now : Reading Session
    now = after_bytes KEPT_BYTES (line_text form) (line_next form) (beginning start) so_far.input

    pub reached_more : (left' holds' : Option (List ℕ)) (script' : Scripted) (bytes : List ℕ) → Consumes left left' bytes
        → Appends holds holds' (said KEPT_BYTES (line_text form) (line_next form) now bytes) × Holds (after_bytes KEPT_BYTES (line_text form) (line_next form) now bytes) script'
        → Reached unread left' held holds' script'
    reached_more left' holds' script' bytes read (written, holding) =
        progress.read_on KEPT_BYTES (line_text form) (line_next form) end_text (line_text-long form) (line_next-long form) (line_text-whole form) Holds start unread left held holds script so_far left' holds' script' bytes read holding written

    pub reached_end : (left' holds' : Option (List ℕ)) → Consumes left left' [] → IsAtEnd left' → Appends holds holds' (closed KEPT_BYTES (line_text form) (line_next form) end_text now)
        → Replays (text_from form start) (whole_from form start) unread left' held holds'
    reached_end left' holds' read complete written =
        progress.all_read KEPT_BYTES (line_text form) (line_next form) end_text (line_text-long form) (line_next-long form) (line_text-whole form) Holds start unread left held holds script so_far left' holds' read complete written

    pub reached_fault : (left' : Option (List ℕ)) → Keeps left left' → Breaks (text_from form start) (whole_from form start) unread left' held holds
    reached_fault left' kept =
        progress.broken_off KEPT_BYTES (line_text form) (line_next form) end_text (line_text-long form) (line_next-long form) (line_text-whole form) Holds start unread left held holds script so_far left' kept

    pub stopped_in_bytes : (left' holds' : Option (List ℕ)) (bytes : List ℕ) → Consumes left left' bytes → Puts (said KEPT_BYTES (line_text form) (line_next form) now bytes) holds holds'
        → Stops (text_from form start) (whole_from form start) unread left' held holds'
    stopped_in_bytes left' holds' bytes read puts =
        progress.stopped_in_bytes KEPT_BYTES (line_text form) (line_next form) end_text (line_text-long form) (line_next-long form) (line_text-whole form) Holds start unread left held holds script so_far left' holds' bytes puts.front puts.rest read puts.parts puts.written

    pub stopped_at_end : (left' holds' : Option (List ℕ)) → Consumes left left' [] → Puts (closed KEPT_BYTES (line_text form) (line_next form) end_text now) holds holds'
        → Stops (text_from form start) (whole_from form start) unread left' held holds'
    stopped_at_end left' holds' read puts =
        progress.stopped_at_end KEPT_BYTES (line_text form) (line_next form) end_text (line_text-long form) (line_next-long form) (line_text-whole form) Holds start unread left held holds script so_far left' holds' puts.front puts.rest read puts.parts puts.written

    pub whole_in_bytes : (left' holds' : Option (List ℕ)) (bytes : List ℕ) → Consumes left left' bytes → PutsWhole (said KEPT_BYTES (line_text form) (line_next form) now bytes) holds holds'
        → StopsWhole (text_from form start) (whole_from form start) unread left' held holds'
    whole_in_bytes left' holds' bytes read puts =
        progress.whole_in_bytes KEPT_BYTES (line_text form) (line_next form) end_text (line_text-long form) (line_next-long form) (line_text-whole form) Holds start unread left held holds script so_far left' holds' bytes puts.front puts.rest read puts.parts puts.whole puts.written

    pub whole_at_end : (left' holds' : Option (List ℕ)) → Consumes left left' [] → PutsWhole (closed KEPT_BYTES (line_text form) (line_next form) end_text now) holds holds'
        → StopsWhole (text_from form start) (whole_from form start) unread left' held holds'
    whole_at_end left' holds' read puts =
        progress.whole_at_end KEPT_BYTES (line_text form) (line_next form) end_text (line_text-long form) (line_next-long form) (line_text-whole form) Holds start unread left held holds script so_far left' holds' puts.front puts.rest read puts.parts puts.whole puts.written

    pub ended_at : (left' : Option (List ℕ)) (bucket : Bucketed) → Consumes left left' [] → Represents (line_next form now.state now.line).state bucket → EndsAt form start unread left' bucket
    ended_at left' bucket read stands = record {
      input = so_far.input;
      read = subst (Consumes unread left') (append-nil so_far.input) (Consumes-trans unread left left' so_far.input [] so_far.read read);
      stands = subst (λ (s : Session). Represents s.state bucket)
          (sym (behind_is KEPT_BYTES (line_text form) (line_next form) end_text (line_text-long form) (line_next-long form) start so_far.input)) stands;
    }
