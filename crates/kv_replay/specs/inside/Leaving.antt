-- What a call leaves that ended early: which acts the bucket has, and what was made of the answers to what led to them.
use Rattle.std.specs.Prelude.{◌⊎◌, ℕ, List, [], ◌++◌, Option}
use Rattle.kv_model.specs.Acts.{Act, IsPrefix}
use Rattle.kv_script.specs.declared.form.Form.{Form}
use Rattle.kv_single.specs.Held.{Bucketed}
use Rattle.kv_replay.specs.Replaying.{HasActs}
use Rattle.kv_replay.specs.Sessions.{Session, end_text, line_next, line_text}
use Rattle.kv_replay.specs.inside.Reading.{Reading, after_bytes, closed, said}
use Rattle.kv_replay.specs.inside.Written.{Pours, PoursFront, Puts}
use Rattle.kv_replay.specs.declared.lines.TheConstants.{KEPT_BYTES}

-- in the midst of a line: it has the acts behind it, or those before it, and then nothing of its answer was made
abbrev pub LeavesLine : (before behind : List Act) → Bucketed → (held : Option (List ℕ)) → (waited : List ℕ) → (holds : Option (List ℕ)) → (waits : List ℕ) → Type 0
LeavesLine before behind bucket held waited holds waits =
    HasActs behind bucket ⊎ (HasActs before bucket × Pours [] held waited holds waits)

module _ (form : Form) (r : Reading Session) where
  -- in the midst of bytes: it has the acts behind a beginning of them, and no more than the answers to that went to the sink, or
  -- waits, where memory ran out
  pub record LeavesBytes (bytes : List ℕ) (failed lacked : Type 0) (held : Option (List ℕ)) (waited : List ℕ) (holds : Option (List ℕ)) (waits : List ℕ) (bucket : Bucketed) : Type 0 where
    pub front : List ℕ
    pub first : IsPrefix front bytes
    pub acts : HasActs (after_bytes KEPT_BYTES (line_text form) (line_next form) r front).state.state.acts bucket
    pub fault : failed → Puts (waited ++ said KEPT_BYTES (line_text form) (line_next form) r front) held holds
    pub memory : lacked → PoursFront (said KEPT_BYTES (line_text form) (line_next form) r front) held waited holds waits

  -- the same, where nothing waits any more
  pub record LeftInBytes (bytes : List ℕ) (held holds : Option (List ℕ)) (bucket : Bucketed) : Type 0 where
    pub front : List ℕ
    pub first : IsPrefix front bytes
    pub acts : HasActs (after_bytes KEPT_BYTES (line_text form) (line_next form) r front).state.state.acts bucket
    pub written : Puts (said KEPT_BYTES (line_text form) (line_next form) r front) held holds

  -- at the end of the input: it has the acts behind the last line, or those before it, and then nothing was written
  abbrev pub LeftAtEnd : (held holds : Option (List ℕ)) → Bucketed → Type 0
  LeftAtEnd held holds bucket =
      (HasActs (line_next form r.state r.line).state.acts bucket × Puts (closed KEPT_BYTES (line_text form) (line_next form) end_text r) held holds)
      ⊎ (HasActs r.state.state.acts bucket × Puts [] held holds)
