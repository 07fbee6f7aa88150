use Rattle.std.proofs.Common.{◌≡◌, ◌++◌, ℕ, List, sym, ◌∙◌, subst}
use Rattle.kv_frames.specs.Frames.{BeginsWhole, frame}
use Rattle.kv_journal.specs.Header.{BeginsWith, configuration_payload}
use Rattle.kv_journal.proofs.Front.{no_first_frame, begins_so, length_beginning}
use Rattle.kv_journal.proofs.header.begin.Goals as goal

pub returns-in_default-clause-none : goal.returns-in_default-clause-none
returns-in_default-clause-none c = λ _ seed payload rest begins. c.in_default.ensures seed (frame seed 17 payload ++ rest) begins.stands

pub returns-in_default-frame_at-clause-none : goal.returns-in_default-frame_at-clause-none
returns-in_default-frame_at-clause-none c =
    let head = c.in-Some.ensures in
    let none = subst (λ (n : ℕ). BeginsWhole n 17 c.in-Some.rest.now → ⊥) c.new-framing.ensures c.in_default-frame_at.ensures.none in
    λ _ seed payload rest begins. no_first_frame c.args.bytes.now c.in-Some.rest.now c.in-Some.seed head.0 head.1 none seed payload rest begins

pub returns-clause-other : goal.returns-clause-other
returns-clause-other c = λ _.
    let head = c.in-Some.ensures in
    let found = c.in-Some-frame_at.ensures.some in
    let seed = c.new-framing.result.seed in
    let same = c.new-framing.ensures in (
      seed,
      c.in-Some-frame_at.payload.now,
      c.in-Some-frame_at.field-0-1.now,
      subst (λ (n : ℕ). BeginsWith c.args.bytes.now n c.in-Some-frame_at.payload.now c.in-Some-frame_at.field-0-1.now) (sym same)
          (begins_so c.args.bytes.now c.in-Some.rest.now c.in-Some.seed c.in-Some-frame_at.payload.now c.in-Some-frame_at.field-0-1.now head.0 head.1 found.0
          (subst (λ (n : ℕ). c.in-Some.rest.now ≡ frame n 17 c.in-Some-frame_at.payload.now ++ c.in-Some-frame_at.field-0-1.now) same found.1)),
      λ e. c.is_same.ensures.no c.if-is_same.false (e ∙ sym (c.as_slice.ensures.value ∙ c.in-Ok.ensures)),
    )

pub returns-then-is_same-clause-ok : goal.returns-then-is_same-clause-ok
returns-then-is_same-clause-ok c =
    let head = c.in-Some.ensures in
    let found = c.in-Some-frame_at.ensures.some in
    let seed = c.new-framing.result.seed in
    let same = c.new-framing.ensures in
    let is = c.is_same.ensures.yes c.if-is_same.true ∙ (c.as_slice.ensures.value ∙ c.in-Ok.ensures) in (
      c.in-Some-frame_at.field-0-1.now,
      subst (λ (n : ℕ). BeginsWith c.args.bytes.now n (configuration_payload c.args.config.now) c.in-Some-frame_at.field-0-1.now) (sym same)
          (subst (λ (p : List ℕ). BeginsWith c.args.bytes.now c.in-Some.seed p c.in-Some-frame_at.field-0-1.now) is
          (begins_so c.args.bytes.now c.in-Some.rest.now c.in-Some.seed c.in-Some-frame_at.payload.now c.in-Some-frame_at.field-0-1.now head.0 head.1 found.0
          (subst (λ (n : ℕ). c.in-Some.rest.now ≡ frame n 17 c.in-Some-frame_at.payload.now ++ c.in-Some-frame_at.field-0-1.now) same found.1))),
      length_beginning seed c.args.config.now c.in-Some-frame_at.payload.now is,
    )
