-- How far a replay has come, for whatever answers its lines.
use Rattle.std.proofs.Common.{◌≡◌, ℕ, ◌<◌, ◌==◌, Bool, true, false, cond, ◌||◌, List, [], ◌∷◌, ◌++◌, length, take, append_assoc, append-nil, Option, Result, Ok, Err, refl, sym, ap, subst, ◌∙◌}
use Rattle.std.specs.Prelude.{OnErr, IsErrOf}
use Rattle.std.specs.Io.{StartsWith}
use Rattle.std.specs.Io.KnownBytes.{Appends, Consumes, IsAtEnd, Keeps}
use Rattle.std.proofs.lemmas.Bool.{ne_eqb}
use Rattle.std.proofs.lemmas.List.{take_at}
use Rattle.std.proofs.KnownBytes.{Consumes-nil, Appends-nil, Consumes-trans, Appends-trans, Consumes-kept}
use Rattle.kv_replay.specs.Lines.{lines_of, but_last, texts}
use Rattle.kv_replay.specs.Outcome.{IsWholeLines, Replays, Breaks, Stops, StopsWhole}
use Rattle.kv_replay.specs.inside.Reading.{Reading, beginning, after_bytes, said, said_by, step, closed, ended}
use Rattle.kv_replay.proofs.WholeLines.{IsWholeLines-append, IsWholeLines-nil}
use Rattle.kv_replay.proofs.ByteByByte.{texts-said, whole_texts-said, after-append, said-append}

-- a list begins with its front
pub starts : (all front rest : List ℕ) → all ≡ front ++ rest → StartsWith all front
starts all front rest e = ap (take (length front)) e ∙ take_at front rest (length front) refl

module _ {S X : Type 0} (limit : ℕ) (text : S → List ℕ → List ℕ) (next : S → List ℕ → S) (ending : S → List ℕ)
    (long_text : (s : S) (line more : List ℕ) → limit < length line → text s (line ++ more) ≡ text s line)
    (long_next : (s : S) (line more : List ℕ) → limit < length line → next s (line ++ more) ≡ next s line)
    (text_whole : (s : S) (line : List ℕ) → IsWholeLines (text s line))
    (Holds : Reading S → X → Type 0) (start : S) where
  abbrev Said : Reading S → List ℕ → List ℕ
  Said = said limit text next

  abbrev After : Reading S → List ℕ → Reading S
  After = after_bytes limit text next

  abbrev Ended : Reading S → List ℕ
  Ended = ended limit text next

  abbrev Closed : Reading S → List ℕ
  Closed = closed limit text next ending

  abbrev from : Reading S
  from = beginning start

  abbrev script_text : List ℕ → List ℕ
  script_text input = texts text next ending start (lines_of input)

  abbrev whole_text : List ℕ → List ℕ
  whole_text input = texts text next (λ s. []) start (but_last (lines_of input))

  -- the input so far was read and answered
  pub record Progress (unread left held holds : Option (List ℕ)) (script : X) : Type 0 where
    pub input : List ℕ
    pub read : Consumes unread left input
    pub is_after : Holds (After from input) script
    pub written : Appends held holds (Said from input)

  pub begun : (unread held : Option (List ℕ)) (script : X) → Holds from script → Progress unread unread held held script
  begun unread held script holding = record { input = []; read = Consumes-nil unread; is_after = holding; written = Appends-nil held }

  all_text : (input : List ℕ) → script_text input ≡ Said from input ++ Closed (After from input)
  all_text input = texts-said limit text next ending long_text long_next start input

  -- the text of the whole lines comes first
  pub whole_first : (input : List ℕ) → StartsWith (script_text input) (whole_text input)
  whole_first input =
      starts (script_text input) (whole_text input) (Closed (After from input))
      (all_text input ∙ ap (λ t. t ++ Closed (After from input)) (sym (whole_texts-said limit text next ending long_text long_next start input)))

  said_by_whole : (r : Reading S) (ends : Bool) → IsWholeLines (cond ends (Ended r) [])
  said_by_whole r true = text_whole r.state r.line
  said_by_whole r false = IsWholeLines-nil

  said_whole : (r : Reading S) (bytes : List ℕ) → IsWholeLines (Said r bytes)
  said_whole r [] = IsWholeLines-nil
  said_whole r (byte ∷ bytes) =
      IsWholeLines-append (said_by limit text next r byte) (Said (step limit text next r byte) bytes) (said_by_whole r (byte == 10)) (said_whole (step limit text next r byte) bytes)

  module _ (unread left held holds : Option (List ℕ)) (script : X) (so_far : Progress unread left held holds script) where
    abbrev now : Reading S
    now = After from so_far.input

    pub read_on : (left' holds' : Option (List ℕ)) (script' : X) (bytes : List ℕ) → Consumes left left' bytes → Holds (After now bytes) script' → Appends holds holds' (Said now bytes)
        → Progress unread left' held holds' script'
    read_on left' holds' script' bytes read holding written = record {
      input = so_far.input ++ bytes;
      read = Consumes-trans unread left left' so_far.input bytes so_far.read read;
      is_after = subst (λ r. Holds r script') (sym (after-append limit text next ending long_text long_next from so_far.input bytes)) holding;
      written = subst (Appends held holds') (sym (said-append limit text next ending long_text long_next from so_far.input bytes))
          (Appends-trans held holds holds' (Said from so_far.input) (Said now bytes) so_far.written written);
    }

    pub all_read : (left' holds' : Option (List ℕ)) → Consumes left left' [] → IsAtEnd left' → Appends holds holds' (Closed now) → Replays script_text whole_text unread left' held holds'
    all_read left' holds' read complete written = record {
      input = so_far.input;
      read = subst (Consumes unread left') (append-nil so_far.input) (Consumes-trans unread left left' so_far.input [] so_far.read read);
      complete = complete;
      written = subst (Appends held holds') (sym (all_text so_far.input))
          (Appends-trans held holds holds' (Said from so_far.input) (Closed now) so_far.written written);
    }

    pub broken_off : (left' : Option (List ℕ)) → Keeps left left' → Breaks script_text whole_text unread left' held holds
    broken_off left' kept = record {
      input = so_far.input;
      read = Consumes-kept unread left left' so_far.input so_far.read kept;
      written = subst (Appends held holds) (sym (whole_texts-said limit text next ending long_text long_next start so_far.input)) so_far.written;
    }

    -- a beginning of what the bytes say was written
    pub stopped_in_bytes : (left' holds' : Option (List ℕ)) (bytes front rest : List ℕ) → Consumes left left' bytes → Said now bytes ≡ front ++ rest → Appends holds holds' front
        → Stops script_text whole_text unread left' held holds'
    stopped_in_bytes left' holds' bytes front rest read parts written =
        let before = Said from so_far.input in
        let input = so_far.input ++ bytes in
        let end = Closed (After from input) in
        let whole : script_text input ≡ (before ++ front) ++ (rest ++ end) =
        all_text input ∙ ap (λ t. t ++ end) (said-append limit text next ending long_text long_next from so_far.input bytes ∙ ap (λ t. before ++ t) parts ∙ sym (append_assoc before front rest))
        ∙ append_assoc (before ++ front) rest end in
        record {
          input = input;
          read = Consumes-trans unread left left' so_far.input bytes so_far.read read;
          text = before ++ front;
          begins = starts (script_text input) (before ++ front) (rest ++ end) whole;
          written = Appends-trans held holds holds' before front so_far.written written;
        }

    -- a beginning of the answer to the last line, and of what the end says, was written
    pub stopped_at_end : (left' holds' : Option (List ℕ)) (front rest : List ℕ) → Consumes left left' [] → Closed now ≡ front ++ rest → Appends holds holds' front
        → Stops script_text whole_text unread left' held holds'
    stopped_at_end left' holds' front rest read parts written =
        let before = Said from so_far.input in
        let whole : script_text so_far.input ≡ (before ++ front) ++ rest =
        all_text so_far.input ∙ ap (λ t. before ++ t) parts ∙ sym (append_assoc before front rest) in
        record {
          input = so_far.input;
          read = subst (Consumes unread left') (append-nil so_far.input) (Consumes-trans unread left left' so_far.input [] so_far.read read);
          text = before ++ front;
          begins = starts (script_text so_far.input) (before ++ front) rest whole;
          written = Appends-trans held holds holds' before front so_far.written written;
        }

    -- the same, of whole lines
    pub whole_in_bytes : (left' holds' : Option (List ℕ)) (bytes front rest : List ℕ) → Consumes left left' bytes → Said now bytes ≡ front ++ rest → IsWholeLines front → Appends holds holds' front
        → StopsWhole script_text whole_text unread left' held holds'
    unfolding stopped_in_bytes
    whole_in_bytes left' holds' bytes front rest read parts lines written =
        let stop = stopped_in_bytes left' holds' bytes front rest read parts written in
        record {
          input = stop.input;
          read = stop.read;
          text = stop.text;
          begins = stop.begins;
          whole = IsWholeLines-append (Said from so_far.input) front (said_whole from so_far.input) lines;
          written = stop.written;
        }

    pub whole_at_end : (left' holds' : Option (List ℕ)) (front rest : List ℕ) → Consumes left left' [] → Closed now ≡ front ++ rest → IsWholeLines front → Appends holds holds' front
        → StopsWhole script_text whole_text unread left' held holds'
    unfolding stopped_at_end
    whole_at_end left' holds' front rest read parts lines written =
        let stop = stopped_at_end left' holds' front rest read parts written in
        record {
          input = stop.input;
          read = stop.read;
          text = stop.text;
          begins = stop.begins;
          whole = IsWholeLines-append (Said from so_far.input) front (said_whole from so_far.input) lines;
          written = stop.written;
        }

-- what holds anyway holds after an error
pub on_err : {T F : Type 0} {P : Type 0} (r : Result T F) → P → OnErr r P
on_err (Ok x) p = tt
on_err (Err e) p = p

-- what an error brings
pub err_of : {T F : Type 0} {P : Type 0} (r : Result T F) (e : F) → IsErrOf r e → OnErr r P → P
err_of {T} {F} {P} r e is p = subst (λ (q : Result T F). OnErr q P) is p

-- a source that has not ended yet is not asked late
pub in_time_still : (late before began : Bool) {has_ended : Bool} → (has_ended ≡ false → late ≡ before) → (has_ended ≡ false) × (before ≡ began) → late ≡ began
in_time_still late before began is (goes_on, same) = is goes_on ∙ same

-- nor has it ended where it gave some bytes
pub not_ended : (after before : Bool) (count : ℕ) → after ≡ (before || (count == 0)) → before ≡ false → (count ≡ 0 → ⊥) → after ≡ false
not_ended after before count is goes_on some = is ∙ ap (λ b. b || (count == 0)) goes_on ∙ ne_eqb count 0 some
