-- What an act that is added and published makes of what lies under the lock.
use Rattle.std.proofs.Common.{◌≡◌, ◌<◌, ℕ, Bool, List, [], ◌∷◌, ◌++◌, Ok, length, map, refl, sym, ap, ◌∙◌, subst, arith}
use Rattle.kv_bucket.specs.Batches.{IsKeptBatch}
use Rattle.kv_bucket.specs.Keeping.{IsAt, KeeperState, kept_with}
use Rattle.kv_durable.specs.Durables.{IsRecorded}
use Rattle.kv_durable.specs.Journals.{AddsFrames, IsFrameOf}
use Rattle.kv_durable.specs.declared.durable.Durable.{Durable}
use Rattle.kv_durable.specs.declared.journal.Journal.{Journal}
use Rattle.kv_durable.proofs.Batched.{FramedBatch, later, wrote_all}
use Rattle.kv_durable.proofs.Batched as batched
use Rattle.kv_durable.proofs.Changed.{changed, compacts}
use Rattle.kv_durable.proofs.Recording.{recorded}
use Rattle.kv_durable.proofs.Written.{told_by, wrote}
use Rattle.kv_durable_live.specs.Sharing.{durable_of}
use Rattle.kv_file.specs.declared.appender.Sync.TheVariants.{Each}
use Rattle.kv_journal.specs.Records.{did}
use Rattle.kv_model.specs.Acceptance.{accept}
use Rattle.kv_model.specs.Acts.{Act, Compact, Seal, Wrote, Write}
use Rattle.kv_model.specs.Answers.{Compacted, Sealed}
use Rattle.kv_keys.specs.declared.error.KvError.TheVariants.{OutOfMemory}
use Rattle.kv_model.specs.Batches.{IsRefusedAt}
use Rattle.kv_model.specs.Requests.{asked, write_for}
use Rattle.kv_model.specs.State.{State, after, may_compact}
use Rattle.kv_model.specs.declared.call.Call.TheVariants as calls
use Rattle.kv_model.specs.declared.request.Request.{Request}
use Rattle.kv_single.specs.Batches.{IsBatch}
use Rattle.kv_model.proofs.Batching.{memory_at}
use Rattle.kv_single.specs.Held.{Bucketed, Represents}
use Rattle.kv_single.specs.Stepping.{IsStep}
use Rattle.kv_store.specs.Standing.{StandsFor}
use Rattle.kv_store.specs.Stored.{Stored}

module _ {F : Type 0} (has : F → List ℕ → List ℕ → Type 0) (usable : F → Bool) (old new : KeeperState) (before behind : Journal F) (acts : List Act) (version : Stored) (bytes : List ℕ) (is : new ≡ kept_with old acts version)
    (added : AddsFrames has usable bytes before behind) (each : before.appender.sync ≡ Each → behind.appender.loose ≡ 0) where
  pub write_recorded : (request : Request) → version.config ≡ old.bucket.version.config
      → ((acts : List Act) → StandsFor acts old.bucket.version → (w : Write) × ((accept old.bucket.version.config (asked request) acts ≡ Ok w) × StandsFor (acts ++ Wrote w ∷ []) version))
      → ((revision : ℕ) → IsFrameOf before (did (Wrote (write_for (asked request) revision))) bytes)
      → IsRecorded has usable (λ state. after state (calls.Write request)) (told_by request) (durable_of old before) (durable_of new behind)
  write_recorded request same accepts frame =
      recorded has usable (λ state. after state (calls.Write request)) (told_by request) (durable_of old before) (durable_of new behind) bytes
      (wrote has usable (durable_of old before) (durable_of new behind) request version bytes accepts same frame (ap (λ (k : KeeperState). k.bucket) is)) added each

  pub seal_recorded : IsStep old.bucket calls.Seal Sealed (record old.bucket { version = version }) → IsFrameOf before (did Seal) bytes
      → IsRecorded has usable (λ state. after state calls.Seal) (λ _. did Seal ∷ []) (durable_of old before) (durable_of new behind)
  seal_recorded step frame =
      recorded has usable (λ state. after state calls.Seal) (λ _. did Seal ∷ []) (durable_of old before) (durable_of new behind) bytes
      (changed has usable calls.Seal (λ _. did Seal ∷ []) (durable_of old before) (durable_of new behind) bytes Seal version frame (λ state r. refl) (λ state r. refl) (λ state r. refl) (λ state r. (step state r).1) (ap (λ (k : KeeperState). k.bucket) is)) added each

  pub compaction_recorded : (floor : ℕ) → IsStep old.bucket (calls.Compact floor) (Compacted floor) (record old.bucket { version = version }) → ((state : State) → Represents state old.bucket → may_compact floor state ≡ Ok floor) → IsFrameOf before (did (Compact floor)) bytes
      → IsRecorded has usable (λ state. after state (calls.Compact floor)) (λ _. did (Compact floor) ∷ []) (durable_of old before) (durable_of new behind)
  compaction_recorded floor step may frame =
      recorded has usable (λ state. after state (calls.Compact floor)) (λ _. did (Compact floor) ∷ []) (durable_of old before) (durable_of new behind) bytes
      (changed has usable (calls.Compact floor) (λ _. did (Compact floor) ∷ []) (durable_of old before) (durable_of new behind) bytes (Compact floor) version frame (λ state r. refl)
      (λ state r. (compacts floor state (may state r)).0) (λ state r. (compacts floor state (may state r)).1) (λ state r. (step state r).1) (ap (λ (k : KeeperState). k.bucket) is)) added each

  pub batch_recorded : (requests : List Request) (first : ℕ) → IsBatch old.bucket requests first (record old.bucket { version = version }) → FramedBatch (durable_of old before) requests bytes
      → IsRecorded has usable (later requests) (batched.told_by requests) (durable_of old before) (durable_of new behind)
  batch_recorded requests first batch framed =
      recorded has usable (later requests) (batched.told_by requests) (durable_of old before) (durable_of new behind) bytes
      (wrote_all has usable (durable_of old before) (durable_of new behind) requests first version bytes batch framed (ap (λ (k : KeeperState). k.bucket) is)) added each

-- want of memory for the frame of a batch that is accepted
pub no_room : (old new : KeeperState) (requests : List Request) (first : Request) (rest : List Request) (revision : ℕ) → requests ≡ first ∷ rest → IsKeptBatch old requests revision new
    → (state : State) → IsAt state old → IsRefusedAt state.config (map asked requests) state.acts (record { at = length rest; error = OutOfMemory })
no_room old new requests first rest revision split batch state at =
    let done = batch state at in
    let long : length rest < length (map asked requests) = subst (λ (rs : List Request). length rest < length (map asked rs)) (sym split) (last_within rest) in
    memory_at state.config (map asked requests) state.acts done.0 (length rest) done.1.0 long
  where
    last_within : (rs : List Request) → length rs < length (asked first ∷ map asked rs)
    last_within [] = omega arith
    last_within (r ∷ rs) = let l = last_within rs in omega arith

-- a bucket and a journal are the durable bucket of what lies under the lock
pub parts_are : {F : Type 0} (d : Durable F) (kept : KeeperState) (journal : Journal F) → d.bucket ≡ kept.bucket → d.journal ≡ journal → d ≡ durable_of kept journal
parts_are {F} d kept journal bucket same =
    ap (λ (b : Bucketed). let r : Durable F = record { bucket = b; journal = d.journal } in r) bucket
    ∙ ap (λ (j : Journal F). let r : Durable F = record { bucket = kept.bucket; journal = j } in r) same
