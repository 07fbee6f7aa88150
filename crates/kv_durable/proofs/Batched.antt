-- A batch of a durable bucket.
use Rattle.std.proofs.Common.{◌≡◌, ℕ, ◌+◌, Bool, List, [], ◌∷◌, ◌++◌, length, Result, Ok, refl, sym, ap, ◌∙◌, subst, arith}
use Rattle.std.specs.Prelude.{map}
use Rattle.std.specs.Int.{w32, to_be_bytes}
use Rattle.kv_frames.specs.Frames.{frames}
use Rattle.kv_keys.specs.declared.error.KvError.TheVariants.{OutOfMemory}
use Rattle.kv_model.specs.Acceptance.{accept}
use Rattle.kv_model.specs.Acts.{Act, Wrote, Write, writes_of}
use Rattle.kv_model.specs.Batches.{IsRefusedAt, accept_all, after_batch}
use Rattle.kv_model.specs.Configuration.{Configuration}
use Rattle.kv_model.specs.Requests.{Asked, asked}
use Rattle.kv_model.specs.State.{State}
use Rattle.kv_model.specs.declared.batch.BatchRefused.{BatchRefused}
use Rattle.kv_model.specs.declared.call.Call.{Call}
use Rattle.kv_model.specs.declared.call.Call.TheVariants as calls
use Rattle.kv_model.specs.declared.request.Request.{Request}
use Rattle.kv_model.proofs.Batching.{batch_runs, memory_at, rest_of, split_ok}
use Rattle.kv_model.proofs.Numbered.{accepted_is_next}
use Rattle.kv_store.specs.Batches.{Leaves}
use Rattle.kv_store.specs.Standing.{StandsFor}
use Rattle.kv_store.specs.Stored.{Stored}
use Rattle.kv_single.specs.Batches.{IsBatch, LeadThere}
use Rattle.kv_single.specs.Held.{Bucketed, Represents}
use Rattle.kv_single.proofs.Batching.{batch_done, batch_refused}
use Rattle.kv_journal.specs.Entries.{payloads_of}
use Rattle.kv_journal.specs.Records.{Content, act_record, act_records, asked_record, asked_records, did_all}
use Rattle.kv_durable.specs.Durables.{batch_of}
use Rattle.kv_durable.specs.Journals.{IsFrameOf, told_next}
use Rattle.kv_durable.specs.declared.durable.Durable.{Durable}
use Rattle.kv_durable.proofs.Recording.{Told, told_all}

-- what a batch tells, and what it leads to
abbrev pub told_by : List Request → State → List Content
told_by requests state = batch_of (accept_all state.config (map asked requests) state.acts)

abbrev pub later : List Request → State → State
later requests state = after_batch state (accept_all state.config (map asked requests) state.acts)

-- the writes of a batch have the records that it asks for
asked_one : (config : Configuration) (x : Asked) (acts : List Act) (w : Write) → accept config x acts ≡ Ok w → asked_record x ≡ act_record (Wrote w)
asked_one config x acts w h = ap (λ (v : Write). act_record (Wrote v)) (accepted_is_next config x acts w h)

pub same_records : (config : Configuration) (xs : List Asked) (acts : List Act) (ws : List Write) → accept_all config xs acts ≡ Ok ws → act_records (map Wrote ws) ≡ asked_records xs
same_records config [] acts ws h = let none : ws ≡ [] = cc in ap (λ (us : List Write). act_records (map Wrote us)) none
same_records config (x ∷ xs) acts ws h =
    let one = split_ok (accept config x acts) (rest_of config xs acts) ws h in
    let first = sym (asked_one config x acts one.0 one.2) in
    let more = same_records config xs (acts ++ Wrote one.0 ∷ []) one.1 one.3 in
    ap (λ (us : List Write). act_records (map Wrote us)) one.4
    ∙ ap (λ (p : List ℕ). to_be_bytes w32 (length p) ++ (p ++ act_records (map Wrote one.1))) first
    ∙ ap (λ (rest : List ℕ). to_be_bytes w32 (length (asked_record x)) ++ (asked_record x ++ rest)) more

-- bytes are the frame of any acts that have the records that a batch asks for
abbrev pub FramedBatch : {F : Type 0} → Durable F → List Request → List ℕ → Type 0
FramedBatch old requests bytes = (acts : List Act) → act_records acts ≡ asked_records (map asked requests) → IsFrameOf old.journal (did_all acts) bytes

pub told_is : (requests : List Request) (state : State) (ws : List Write) → accept_all state.config (map asked requests) state.acts ≡ Ok ws → told_by requests state ≡ did_all (map Wrote ws) ∷ []
told_is requests state ws h = ap (λ (o : Result (List Write) BatchRefused). batch_of o) h

pub batch_bytes : {F : Type 0} (old : Durable F) (requests : List Request) (first : ℕ) (version : Stored) (bytes : List ℕ) → IsBatch old.bucket requests first (record old.bucket { version = version }) → FramedBatch old requests bytes
    → (state : State) → Represents state old.bucket → bytes ≡ frames old.journal.framing.seed old.journal.appender.offset (payloads_of (told_next old.journal (told_by requests state)))
batch_bytes old requests first version bytes batch framed state r =
    let done = batch state r in
    subst (λ (cs : List Content). bytes ≡ frames old.journal.framing.seed old.journal.appender.offset (payloads_of (told_next old.journal cs))) (sym (told_is requests state done.0 done.1.0))
    (framed (map Wrote done.0) (same_records state.config (map asked requests) state.acts done.0 done.1.0)).are

module _ {F : Type 0} (has : F → List ℕ → List ℕ → Type 0) (usable : F → Bool) where
  pub wrote_all : (old new : Durable F) (requests : List Request) (first : ℕ) (version : Stored) (bytes : List ℕ) → IsBatch old.bucket requests first (record old.bucket { version = version }) → FramedBatch old requests bytes
      → new.bucket ≡ record old.bucket { version = version } → Told has usable (later requests) (told_by requests) old new bytes
  wrote_all old new requests first version bytes batch framed is = λ state r.
      let done = batch state r in
      let ws = done.0 in
      let here : later requests state ≡ after_batch state (Ok ws) = ap (after_batch state) done.1.0 in
      told_all has usable (later requests) (told_by requests) old new bytes state (map Wrote ws) (told_is requests state ws done.1.0)
      (framed (map Wrote ws) (same_records state.config (map asked requests) state.acts ws done.1.0))
      (ap (λ (s : State). s.config) here) (ap (λ (s : State). s.acts) here)
      (subst (λ (s : State). Represents s new.bucket) (sym here) (subst (Represents (after_batch state (Ok ws))) (sym is) done.1.1.1))

-- the calls that a batch is
pub batch_leads : (bucket : Bucketed) (requests : List Request) (first : ℕ) (version : Stored) → IsBatch bucket requests first (record bucket { version = version }) → (calls : List Call) × LeadThere calls bucket (record bucket { version = version })
batch_leads bucket requests first version batch = (
  map calls.Write requests,
  λ state r.
      let done = batch state r in
      subst (λ (s : State). Represents s (record bucket { version = version })) (sym (batch_runs state requests done.0 done.1.0)) done.1.1.1,
)

as_long : (rs : List Request) → length (map asked rs) ≡ length rs
as_long [] = refl
as_long (r ∷ rs) = omega (arith, as_long rs)

-- what a bucket's version, as it was seen, leads to is a batch of the bucket
pub batch_prepared : (bucket : Bucketed) (requests : List Request) (first : Request) (rest : List Request) (seen version : Stored) (revision : ℕ) → requests ≡ first ∷ rest → seen ≡ bucket.version → version.config ≡ seen.config
    → Leaves (asked first ∷ map asked rest) seen version → ((acts : List Act) → StandsFor acts seen → revision ≡ length (writes_of acts) + 1) → IsBatch bucket requests revision (record bucket { version = version })
batch_prepared bucket requests first rest seen version revision split value same leaves number =
    batch_done bucket requests first rest version revision split (same ∙ ap (λ (v : Stored). v.config) value) (subst (λ (v : Stored). Leaves (asked first ∷ map asked rest) v version) value leaves)
    (λ acts stands. number acts (subst (StandsFor acts) (sym value) stands))

pub refused_so : (bucket : Bucketed) (requests : List Request) (first : Request) (rest : List Request) (seen : Stored) (refused : BatchRefused) → requests ≡ first ∷ rest → seen ≡ bucket.version
    → ((acts : List Act) → StandsFor acts seen → IsRefusedAt seen.config (asked first ∷ map asked rest) acts refused) → (state : State) → Represents state bucket → IsRefusedAt state.config (map asked requests) state.acts refused
refused_so bucket requests first rest seen refused split value why =
    batch_refused bucket requests first rest refused split (subst (λ (v : Stored). (acts : List Act) → StandsFor acts v → IsRefusedAt v.config (asked first ∷ map asked rest) acts refused) value why)

-- want of memory at the last request
pub no_memory : (bucket : Bucketed) (requests : List Request) (first : Request) (rest : List Request) (seen version : Stored) (refused : BatchRefused) → requests ≡ first ∷ rest → seen ≡ bucket.version → Leaves (asked first ∷ map asked rest) seen version
    → refused ≡ record { at = length rest; error = OutOfMemory } → (state : State) → Represents state bucket → IsRefusedAt state.config (map asked requests) state.acts refused
no_memory bucket requests first rest seen version refused split value leaves is =
    refused_so bucket requests first rest seen refused split value (λ acts stands.
    let wrote = leaves acts stands in
    subst (IsRefusedAt seen.config (asked first ∷ map asked rest) acts) (sym is) (memory_at seen.config (asked first ∷ map asked rest) acts wrote.0 (length rest) wrote.1.0 (omega (arith, as_long rest))))
