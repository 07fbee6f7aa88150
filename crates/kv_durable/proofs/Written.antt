-- A write of a durable bucket.
use Rattle.std.proofs.Common.{◌≡◌, ◌⊎◌, ℕ, ◌+◌, ◌≤◌, ◌<◌, Bool, true, List, [], ◌∷◌, ◌++◌, length, Result, Ok, Err, IsOk, refl, sym, ap, ◌∙◌, subst, inl, inr, arith}
use Rattle.std.specs.Prelude.{map, nat_lt, nat_le, ◌&&◌}
use Rattle.std.proofs.lemmas.Bool.{and_parts, cond-true, leb-true, lt-ltb}
use Rattle.kv_frames.specs.Frames.{frames}
use Rattle.kv_keys.specs.Outcome.{Refuses}
use Rattle.kv_keys.specs.declared.error.KvError.{KvError}
use Rattle.kv_keys.specs.declared.error.KvError.TheVariants.{OutOfMemory, ValueTooLarge}
use Rattle.kv_model.specs.Acceptance.{accept}
use Rattle.kv_model.specs.Acts.{Wrote, Write, writes_of}
use Rattle.kv_model.specs.Answers.{Revision}
use Rattle.kv_model.specs.Configuration.{Configuration, IsLegal, has_legal_numbers}
use Rattle.kv_model.specs.Requests.{Asked, asked, value_of, write_for}
use Rattle.kv_model.specs.State.{State, add_act, after, after_write, answer_to, answer_write}
use Rattle.kv_model.specs.declared.call.Call.TheVariants as calls
use Rattle.kv_model.specs.declared.request.Request.{Request}
use Rattle.kv_model.proofs.Numbered.{accepted_is_next}
use Rattle.kv_store.specs.Standing.{StandsFor}
use Rattle.kv_store.specs.Stored.{Stored}
use Rattle.kv_single.specs.Held.{Bucketed, Represents}
use Rattle.kv_single.specs.Stepping.{IsStep}
use Rattle.kv_journal.specs.Entries.{payloads_of}
use Rattle.kv_journal.specs.Records.{Content, did}
use Rattle.kv_durable.specs.Durables.{Accepts, IsHanded, IsRecorded, act_of}
use Rattle.kv_durable.specs.Journals.{AddsWrite, IsFrameOf, LeavesWrite, told_next}
use Rattle.kv_durable.specs.declared.durable.Durable.{Durable}
use Rattle.kv_durable.specs.declared.journal.Journal.{Journal}
use Rattle.kv_durable.proofs.Recording.{Told, handed, recorded, told_one, untouched}
use Rattle.kv_durable.proofs.Steps.{write_steps}

-- what a write tells
abbrev pub told_by : Request → State → List Content
told_by request state = map did (act_of (accept state.config (asked request) state.acts))

-- the write that is accepted from a state, and what it tells
abbrev pub IsTaken : Request → State → Type 0
IsTaken request state = (w : Write) × (accept state.config (asked request) state.acts ≡ Ok w)

pub told_of : (request : Request) (state : State) → IsTaken request state
    → told_by request state ≡ did (Wrote (write_for (asked request) (length (writes_of state.acts) + 1))) ∷ []
told_of request state taken =
    ap (λ (o : Result Write KvError). map did (act_of o)) taken.1
    ∙ ap (λ (w : Write). did (Wrote w) ∷ []) (sym (accepted_is_next state.config (asked request) state.acts taken.0 taken.1))

-- what is answered with a revision is accepted
pub answered : (request : Request) (state : State) (revision : ℕ) → Revision revision ≡ answer_to state (calls.Write request) → IsTaken request state
answered request state revision is = by_outcome (accept state.config (asked request) state.acts) refl is
  where
    by_outcome : (o : Result Write KvError) → accept state.config (asked request) state.acts ≡ o → Revision revision ≡ answer_write o → IsTaken request state
    by_outcome (Ok w) e h = (w, e)
    by_outcome (Err x) e h = absurd cc

-- and so is what only memory refuses
pub wanting : (request : Request) (state : State) → Refuses OutOfMemory (accept state.config (asked request) state.acts) → IsTaken request state
wanting request state refuses = by_outcome (accept state.config (asked request) state.acts) refl refuses
  where
    by_outcome : (o : Result Write KvError) → accept state.config (asked request) state.acts ≡ o → IsOk o → IsTaken request state
    by_outcome (Ok w) e h = (w, e)
    by_outcome (Err x) e h = absurd cc

-- the write that is accepted from a state, where a version is made with it
pub accepted_from : (bucket : Bucketed) (request : Request) (version : Stored) (state : State) → Accepts bucket request version → Represents state bucket
    → (w : Write) × ((accept state.config (asked request) state.acts ≡ Ok w) × StandsFor (state.acts ++ Wrote w ∷ []) version)
accepted_from bucket request version state accepts r =
    let wrote = accepts state.acts r.version in
    (wrote.0, (ap (λ (c : Configuration). accept c (asked request) state.acts) (sym r.config) ∙ wrote.1.0, wrote.1.1))

pub told_write : (bucket : Bucketed) (request : Request) (version : Stored) (state : State) → Accepts bucket request version → (r : Represents state bucket)
    → told_by request state ≡ did (Wrote (write_for (asked request) (length (writes_of state.acts) + 1))) ∷ []
told_write bucket request version state accepts r =
    let wrote = accepted_from bucket request version state accepts r in
    told_of request state (wrote.0, wrote.1.0)

-- the bytes are what it tells
abbrev FramesWrite : {F : Type 0} → Durable F → Request → List ℕ → Type 0
FramesWrite old request bytes = (revision : ℕ) → IsFrameOf old.journal (did (Wrote (write_for (asked request) revision))) bytes

pub bytes_of : {F : Type 0} (old : Durable F) (request : Request) (bytes : List ℕ) → FramesWrite old request bytes → (state : State) → IsTaken request state
    → bytes ≡ frames old.journal.framing.seed old.journal.appender.offset (payloads_of (told_next old.journal (told_by request state)))
bytes_of old request bytes frame state taken =
    subst (λ (cs : List Content). bytes ≡ frames old.journal.framing.seed old.journal.appender.offset (payloads_of (told_next old.journal cs))) (sym (told_of request state taken))
    (frame (length (writes_of state.acts) + 1)).are

pub write_bytes : {F : Type 0} (old : Durable F) (request : Request) (version : Stored) (bytes : List ℕ) → Accepts old.bucket request version → FramesWrite old request bytes
    → (state : State) → Represents state old.bucket → bytes ≡ frames old.journal.framing.seed old.journal.appender.offset (payloads_of (told_next old.journal (told_by request state)))
write_bytes old request version bytes accepts frame state r =
    let wrote = accepted_from old.bucket request version state accepts r in
    bytes_of old request bytes frame state (wrote.0, wrote.1.0)

module _ {F : Type 0} (has : F → List ℕ → List ℕ → Type 0) (usable : F → Bool) where
  -- a write that was made
  pub wrote_by : (old new : Durable F) (request : Request) (revision : ℕ) (bytes : List ℕ) → IsStep old.bucket (calls.Write request) (Revision revision) new.bucket
      → FramesWrite old request bytes → Told has usable (λ state. after state (calls.Write request)) (told_by request) old new bytes
  wrote_by old new request revision bytes step frame = λ state r.
      let taken = answered request state revision (step state r).0 in
      let next = accepted_is_next state.config (asked request) state.acts taken.0 taken.1 in
      let here : after_write state (accept state.config (asked request) state.acts) ≡ add_act (Wrote taken.0) state = ap (after_write state) taken.1 in
      told_one has usable (λ s. after s (calls.Write request)) (told_by request) old new bytes state (Wrote (write_for (asked request) (length (writes_of state.acts) + 1)))
      (told_of request state taken) (frame (length (writes_of state.acts) + 1))
      (ap (λ (s : State). s.config) here)
      (ap (λ (s : State). s.acts) here ∙ ap (λ (v : Write). state.acts ++ Wrote v ∷ []) (sym next))
      (step state r).1

  -- a write that was made apart
  pub wrote : (old new : Durable F) (request : Request) (version : Stored) (bytes : List ℕ) → Accepts old.bucket request version → version.config ≡ old.bucket.version.config
      → FramesWrite old request bytes → new.bucket ≡ record old.bucket { version = version } → Told has usable (λ state. after state (calls.Write request)) (told_by request) old new bytes
  wrote old new request version bytes accepts same frame is =
      let step = write_steps old.bucket request version.last version same accepts refl in
      wrote_by old new request version.last bytes (subst (λ (b : Bucketed). IsStep old.bucket (calls.Write request) (Revision version.last) b) (sym is) step) frame

  -- a write that was made together with its record
  pub recorded_write : (old new : Durable F) (request : Request) (revision : ℕ) → IsStep old.bucket (calls.Write request) (Revision revision) new.bucket
      → AddsWrite has usable request old.journal new.journal → IsRecorded has usable (λ state. after state (calls.Write request)) (told_by request) old new
  recorded_write old new request revision step adds =
      recorded has usable (λ state. after state (calls.Write request)) (told_by request) old new adds.bytes
      (wrote_by old new request revision adds.bytes step adds.frame) adds.added adds.each

  -- a write that was not made: its record is not in the file, or in part
  abbrev IsLeftBy : (faults : F → ℕ) → KvError → Request → (old new : Durable F) → Type 0
  IsLeftBy faults e request old new = (new.journal ≡ old.journal) ⊎ ((e ≡ OutOfMemory) × LeavesWrite has usable faults request old.journal new.journal)

  pub handed_write : (faults : F → ℕ) (e : KvError) (old new : Durable F) (request : Request) → ((state : State) → Represents state old.bucket → Refuses e (accept state.config (asked request) state.acts))
      → IsLeftBy faults e request old new → new.bucket ≡ old.bucket → IsHanded has usable (told_by request) old new
  handed_write faults e old new request refuses left same = elim left [
    | inl journal ↦ untouched has usable (told_by request) old new (both journal)
    | inr h ↦ handed has usable (told_by request) old new h.1.bytes
        (λ state r. bytes_of old request h.1.bytes h.1.frame state (wanting request state (subst (λ (x : KvError). Refuses x (accept state.config (asked request) state.acts)) h.0 (refuses state r)))) h.1.left
  ]
    where
      both : new.journal ≡ old.journal → new ≡ old
      both journal = ap (λ (b : Bucketed). record new { bucket = b }) same ∙ ap (λ (j : Journal F). record { bucket = old.bucket; journal = j }) journal

-- a longer value than any bucket takes is refused
pub too_long : (bucket : Bucketed) (asked : Asked) → 1048576 < length (value_of asked) → (state : State) → Represents state bucket → Refuses ValueTooLarge (accept state.config asked state.acts)
too_long bucket asked long state r =
    let legal = subst IsLegal r.config r.version.legal in
    let more : nat_lt state.config.value_limit (length (value_of asked)) ≡ true = lt-ltb state.config.value_limit (length (value_of asked)) (omega (arith, limit state.config legal.1, long)) in
    cond-true (nat_lt state.config.value_limit (length (value_of asked))) (Err ValueTooLarge) _ more
  where
    limit : (config : Configuration) → has_legal_numbers config ≡ true → config.value_limit ≤ 1048576
    limit config h =
        let a = nat_le 1 config.history && nat_le config.history 64 in
        let b = nat_le config.value_limit 1048576 in
        let c = nat_le 1 config.write_limit && nat_le config.write_limit 1000000 in
        let d = nat_le 1 config.revision_limit && nat_le config.revision_limit 4294967295 in
        leb-true config.value_limit 1048576 (and_parts a b (and_parts (a && b) c (and_parts ((a && b) && c) d h).0).0).1

-- want of memory comes where the rules refuse nothing
pub accepts_ok : (bucket : Bucketed) (request : Request) (version : Stored) → Accepts bucket request version → (state : State) → Represents state bucket → Refuses OutOfMemory (accept state.config (asked request) state.acts)
accepts_ok bucket request version accepts state r =
    let w = accepted_from bucket request version state accepts r in
    subst (λ (o : Result Write KvError). Refuses OutOfMemory o) (sym w.1.0) refl
