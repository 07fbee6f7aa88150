-- What a run leaves that ended early.
use Rattle.std.proofs.Common.{◌≡◌, ◌==◌, ◌⊎◌, inl, inr, ℕ, true, false, nat_lt, List, [], ◌∷◌, ◌++◌, length, append_assoc, append-nil, Option, refl, sym, ap, subst, ◌∙◌}
use Rattle.std.specs.Io.KnownBytes.{Appends, Consumes, Keeps}
use Rattle.std.proofs.KnownBytes.{Appends-nil, Appends-trans, Consumes-kept, Consumes-nil, Consumes-trans}
use Rattle.std.proofs.lemmas.Bool.{cases_Bool}
use Rattle.kv_keys.specs.declared.error.KvError.{KvError}
use Rattle.kv_keys.specs.declared.error.KvError.TheVariants.{OutOfMemory, WriteFault}
use Rattle.kv_script.specs.declared.form.Form.{Form}
use Rattle.kv_single.specs.Held.{Bucketed, Represents}
use Rattle.kv_replay.specs.Faults.{IsWriteOrMemory}
use Rattle.kv_replay.specs.Replaying.{HasActs, LeftAt}
use Rattle.kv_replay.specs.Sessions.{Session, end_text, line_text, line_next, state_behind, text_from, turn}
use Rattle.kv_replay.specs.inside.Leaving.{LeftAtEnd, LeftInBytes}
use Rattle.kv_replay.specs.inside.Reading.{Reading, after_bytes, beginning, closed, said, said_by, step}
use Rattle.kv_replay.specs.inside.Scripted.{Scripted}
use Rattle.kv_replay.specs.declared.lines.TheConstants.{KEPT_BYTES}
use Rattle.kv_replay.proofs.ByteByByte.{after-append, behind_is, said-append, texts-said}
use Rattle.kv_replay.proofs.Progress.{starts}
use Rattle.kv_replay.proofs.Reached.{Reached, now}
use Rattle.kv_replay.proofs.Turns.{line_text-long, line_next-long}

-- an error that is no want of memory is one of the sink
pub only_write : (e : KvError) → IsWriteOrMemory e → (e ≡ OutOfMemory → ⊥) → e ≡ WriteFault
only_write OutOfMemory fault other = absurd (other refl)
only_write WriteFault fault other = refl
only_write _ fault other = absurd fault

next_empty : (form : Form) (s : Session) → line_next form s [] ≡ s
unfolding line_next turn
next_empty form s = refl

module _ (form : Form) where
  abbrev Saying : Reading Session → List ℕ → List ℕ
  Saying = said KEPT_BYTES (line_text form) (line_next form)

  abbrev After : Reading Session → List ℕ → Reading Session
  After = after_bytes KEPT_BYTES (line_text form) (line_next form)

  abbrev Step : Reading Session → ℕ → Reading Session
  Step = step KEPT_BYTES (line_text form) (line_next form)

  abbrev Closed : Reading Session → List ℕ
  Closed = closed KEPT_BYTES (line_text form) (line_next form) end_text

  abbrev SayingBy : Reading Session → ℕ → List ℕ
  SayingBy = said_by KEPT_BYTES (line_text form) (line_next form)

  -- where no line has begun
  abbrev fresh_line : Session → Reading Session
  fresh_line s = record { state = s; line = [] }

  step_state : (r : Reading Session) (x : ℕ) → (x == 10) ≡ false → (Step r x).state ≡ r.state
  step_state r x inside = elim (cases_Bool (nat_lt KEPT_BYTES (length r.line))) [
    | inl long ↦ rw (inside, long) refl
    | inr short ↦ rw (inside, short) refl
  ]

  step_silent : (r : Reading Session) (x : ℕ) → (x == 10) ≡ false → SayingBy r x ≡ []
  step_silent r x inside = rw inside refl

  step_feed : (r : Reading Session) (x : ℕ) → (x == 10) ≡ true → Step r x ≡ fresh_line (Step r x).state
  step_feed r x feed = rw feed refl

  -- no line feed is among them, or there is a last one
  abbrev IsSilent : Reading Session → List ℕ → Type 0
  IsSilent r bytes = (Saying r bytes ≡ []) × ((After r bytes).state ≡ r.state)

  record HasLast (r : Reading Session) (bytes : List ℕ) : Type 0 where
    pub done : List ℕ
    pub rest : List ℕ
    pub parts : done ++ rest ≡ bytes
    pub says : Saying r done ≡ Saying r bytes
    pub after : After r done ≡ fresh_line (After r bytes).state

  last_feed : (r : Reading Session) (bytes : List ℕ) → IsSilent r bytes ⊎ HasLast r bytes
  last_feed r [] = inl (refl, refl)
  last_feed r (x ∷ xs) = elim (last_feed (Step r x) xs) [
    | inr last ↦ inr (record {
      done = x ∷ last.done;
      rest = last.rest;
      parts = ap (λ t. x ∷ t) last.parts;
      says = ap (λ t. SayingBy r x ++ t) last.says;
      after = last.after;
    })
    | inl silent ↦ elim (cases_Bool (x == 10)) [
      | inl feed ↦ inr (record {
        done = x ∷ [];
        rest = xs;
        parts = refl;
        says = ap (λ t. SayingBy r x ++ t) (sym silent.0);
        after = step_feed r x feed ∙ ap fresh_line (sym silent.1);
      })
      | inr inside ↦ inl (
        ap (λ t. t ++ Saying (Step r x) xs) (step_silent r x inside) ∙ silent.0,
        silent.1 ∙ step_state r x inside,
      )
    ]
  ]

  -- the whole lines of what was read of a script
  whole_lines : (start : Session) (bytes : List ℕ) → HasLast (beginning start) bytes
  whole_lines start bytes = elim (last_feed (beginning start) bytes) [
    | inr last ↦ last
    | inl silent ↦ record {
      done = [];
      rest = bytes;
      parts = refl;
      says = sym silent.0;
      after = ap fresh_line (sym silent.1);
    }
  ]

  module _ (start : Session) where
    -- what bytes lead to, where nothing stands behind their last line feed
    abbrev from : Reading Session
    from = beginning start

    state_is : (bytes : List ℕ) → state_behind form start bytes ≡ (line_next form (After from bytes).state (After from bytes).line).state
    state_is bytes = ap (λ (s : Session). s.state) (behind_is KEPT_BYTES (line_text form) (line_next form) end_text (line_text-long form) (line_next-long form) start bytes)

    text_is : (bytes : List ℕ) → text_from form start bytes ≡ Saying from bytes ++ Closed (After from bytes)
    text_is bytes = texts-said KEPT_BYTES (line_text form) (line_next form) end_text (line_text-long form) (line_next-long form) start bytes

    -- a beginning of what the whole lines of some of the input say was written, and their acts are there
    pub left_behind : (unread left held holds : Option (List ℕ)) (bucket : Bucketed) (bytes more text rest : List ℕ) → Consumes unread left (bytes ++ more) → HasActs (After from bytes).state.state.acts bucket
        → Saying from bytes ≡ text ++ rest → Appends held holds text → LeftAt form start unread left held holds bucket
    left_behind unread left held holds bucket bytes more text rest read acts parts written =
        let whole = whole_lines start bytes in
        let state : state_behind form start whole.done ≡ (After from bytes).state.state =
        state_is whole.done ∙ ap (λ (r : Reading Session). (line_next form r.state r.line).state) whole.after ∙ ap (λ (s : Session). s.state) (next_empty form (After from bytes).state) in
        record {
          input = bytes ++ more;
          read = read;
          done = whole.done;
          first = (whole.rest ++ more, sym (append_assoc whole.done whole.rest more) ∙ ap (λ t. t ++ more) whole.parts);
          acts = (acts.0, acts.1 ∙ ap (λ s. s.acts) (sym state), acts.2);
          text = text;
          begins = starts (text_from form start whole.done) text (rest ++ Closed (After from whole.done))
              (text_is whole.done ∙ ap (λ t. t ++ Closed (After from whole.done)) (whole.says ∙ parts) ∙ append_assoc text rest (Closed (After from whole.done)));
          written = written;
        }

    module _ (unread left held holds : Option (List ℕ)) (script : Scripted) (so_far : Reached form start unread left held holds script) where
      abbrev here : Reading Session
      here = now form start unread left held holds script so_far

      -- the source failed
      pub left_fault : (left' : Option (List ℕ)) (bucket : Bucketed) → Keeps left left' → script.session.bucket ≡ bucket → LeftAt form start unread left' held holds bucket
      left_fault left' bucket kept same =
          left_behind unread left' held holds bucket so_far.input [] (Saying from so_far.input) []
          (subst (Consumes unread left') (sym (append-nil so_far.input)) (Consumes-kept unread left left' so_far.input so_far.read kept))
          (here.state.state, refl, subst (Represents here.state.state) same so_far.is_after.session.bucket) (sym (append-nil (Saying from so_far.input))) so_far.written

      pub left_in_bytes : (left' holds' : Option (List ℕ)) (bucket : Bucketed) (bytes : List ℕ) → Consumes left left' bytes → LeftInBytes form here bytes holds holds' bucket → LeftAt form start unread left' held holds' bucket
      left_in_bytes left' holds' bucket bytes read in_bytes =
          let front = in_bytes.front in
          let rest = in_bytes.first.0 in
          let before = Saying from so_far.input in
          let puts = in_bytes.written in
          let said_all : Saying from (so_far.input ++ front) ≡ (before ++ puts.front) ++ puts.rest =
          said-append KEPT_BYTES (line_text form) (line_next form) end_text (line_text-long form) (line_next-long form) from so_far.input front
          ∙ ap (λ t. before ++ t) puts.parts ∙ sym (append_assoc before puts.front puts.rest) in
          left_behind unread left' held holds' bucket (so_far.input ++ front) rest (before ++ puts.front) puts.rest
          (subst (Consumes unread left') (ap (λ t. so_far.input ++ t) (sym in_bytes.first.1) ∙ sym (append_assoc so_far.input front rest))
          (Consumes-trans unread left left' so_far.input bytes so_far.read read))
          (subst (λ (r : Reading Session). HasActs r.state.state.acts bucket) (sym (after-append KEPT_BYTES (line_text form) (line_next form) end_text (line_text-long form) (line_next-long form) from so_far.input front)) in_bytes.acts)
          said_all (Appends-trans held holds holds' before puts.front so_far.written puts.written)

      nothing_more : (left' : Option (List ℕ)) → Consumes left left' [] → Consumes unread left' so_far.input
      nothing_more left' read = subst (Consumes unread left') (append-nil so_far.input) (Consumes-trans unread left left' so_far.input [] so_far.read read)

      pub left_at_end : (left' holds' : Option (List ℕ)) (bucket : Bucketed) → Consumes left left' [] → LeftAtEnd form here holds holds' bucket → LeftAt form start unread left' held holds' bucket
      left_at_end left' holds' bucket read at_end = elim at_end [
        | inl all ↦
            let before = Saying from so_far.input in
            let puts = all.1 in
            record {
              input = so_far.input;
              read = nothing_more left' read;
              done = so_far.input;
              first = ([], append-nil so_far.input);
              acts = (all.0.0, all.0.1 ∙ ap (λ s. s.acts) (sym (state_is so_far.input)), all.0.2);
              text = before ++ puts.front;
              begins = starts (text_from form start so_far.input) (before ++ puts.front) puts.rest
                  (text_is so_far.input ∙ ap (λ t. before ++ t) puts.parts ∙ sym (append_assoc before puts.front puts.rest));
              written = Appends-trans held holds holds' before puts.front so_far.written puts.written;
            }
        | inr none ↦
            let before = Saying from so_far.input in
            let puts = none.1 in
            left_behind unread left' held holds' bucket so_far.input [] (before ++ puts.front) puts.rest
            (subst (Consumes unread left') (sym (append-nil so_far.input)) (nothing_more left' read)) none.0
            (sym (append-nil before) ∙ ap (λ t. before ++ t) puts.parts ∙ sym (append_assoc before puts.front puts.rest))
            (Appends-trans held holds holds' before puts.front so_far.written puts.written)
      ]

    -- nothing was read
    pub left_at_once : (unread held : Option (List ℕ)) (bucket : Bucketed) → Represents start.state bucket → LeftAt form start unread unread held held bucket
    left_at_once unread held bucket stands =
        left_behind unread unread held held bucket [] [] [] [] (Consumes-nil unread) (start.state, refl, stands) refl (Appends-nil held)
