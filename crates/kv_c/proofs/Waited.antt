-- Calls on a bucket with a file: from what was ready to what waits for the shell.
use Rattle.std.specs.Prelude.{Bool, ◌&&◌}
use Rattle.std.proofs.Common.{◌≡◌, ℕ, ◌<◌, ◌^◌, false, List, [], ◌∷◌, ◌++◌, Some, None, Ok, length, refl, sym, ap, ◌∙◌, subst}
use Rattle.kv_c.specs.Calling.{StandsAt}
use Rattle.kv_c.specs.Filing.{durable_of, is_stopped}
use Rattle.kv_c.specs.Lending.{lends, never_fails}
use Rattle.kv_c.specs.Making.{CanEnd, CanMake, CanWait, IsFiled, IsMade, Makes, MakesAct, MakesBatch, MakesWrite, Waits, WaitsFor}
use Rattle.kv_c.specs.Waiting.{Waiting, bucket_behind, gone_on}
use Rattle.kv_c.specs.declared.content.Content.{Content}
use Rattle.kv_c.specs.declared.content.Content.TheVariants.{Bucket, View, Feed, Batch, Made}
use Rattle.kv_c.specs.declared.filed.Filed.{Filed}
use Rattle.kv_c.specs.declared.made.Ready.{Ready}
use Rattle.kv_durable.specs.Durables.{Accepts, IsRecorded}
use Rattle.kv_durable.specs.Files.{frames_behind}
use Rattle.kv_durable.specs.Journals.{IsFrameOf}
use Rattle.kv_durable.proofs.Batched.{FramedBatch, batch_leads, later, wrote_all}
use Rattle.kv_durable.proofs.Batched as batched
use Rattle.kv_durable.proofs.Changed.{changed, compacts}
use Rattle.kv_durable.proofs.Recording.{recorded}
use Rattle.kv_durable.proofs.Steps.{write_steps}
use Rattle.kv_durable.proofs.Written.{told_by, wrote}
use Rattle.kv_journal.specs.Entries.{Entry}
use Rattle.kv_journal.specs.Records.{Content as Telling, closed, did, did_all}
use Rattle.kv_model.specs.Acts.{Act, Compact, Seal, Wrote}
use Rattle.kv_model.specs.Answers.{Answer, Compacted, Revision, Sealed}
use Rattle.kv_model.specs.Requests.{asked, write_for}
use Rattle.kv_model.specs.State.{State, after, may_compact}
use Rattle.kv_model.specs.declared.call.Call.{Call}
use Rattle.kv_model.specs.declared.call.Call.TheVariants as calls
use Rattle.kv_model.specs.declared.request.Request.{Request}
use Rattle.kv_single.specs.Batches.{IsBatch}
use Rattle.kv_single.specs.Held.{Bucketed, Represents}
use Rattle.kv_single.specs.Stepping.{IsStep}

module _ (ready : Ready) (bucket : Bucketed) (filed : Filed) (waiting : Waiting) (waits : WaitsFor ready bucket filed waiting) where
  behind : bucket_behind waiting ≡ record bucket { version = ready.next }
  behind = ap (λ (b : Bucketed). gone_on b waiting.next) waits.bucket ∙ ap (λ n. gone_on bucket n) waits.next

  -- whatever was recorded: where each act is synced, a sync is asked for
  so_waits : (later : State → State) (told : State → List Telling) → IsRecorded lends never_fails later told (durable_of bucket filed) (durable_of (bucket_behind waiting) waiting.filed) → Waits bucket filed waiting
  so_waits later told done = record {
    bucket = waits.bucket;
    at = waits.at;
    number = waits.number;
    works = waits.works;
    former = waits.former;
    sync = waits.sync;
    synced = λ each state kept loose at.
        let there = done state kept loose at in
        waits.behind ∙ there.4.keeps.bytes.file.1 (ap (λ (es : List Entry). frames_behind waiting.filed.journal.value.framing.seed there.4.base there.0 es) (there.3 each));
  }

  pub made_write : (request : Request) → ready.next.config ≡ bucket.version.config → Accepts bucket request ready.next → ready.told ≡ ready.next.last
      → ((revision : ℕ) → IsFrameOf filed.journal.value (did (Wrote (write_for (asked request) revision))) ready.frames.items) → MakesWrite request bucket filed waiting
  made_write request config accepts told frame =
      let old = durable_of bucket filed in
      let new = durable_of (bucket_behind waiting) waiting.filed in
      let done = recorded lends never_fails (λ state. after state (calls.Write request)) (told_by request) old new ready.frames.items
      (wrote lends never_fails old new request ready.next ready.frames.items accepts config frame behind) waits.added waits.each in
      record {
        waits = so_waits (λ state. after state (calls.Write request)) (told_by request) done;
        joins = λ each state kept at.
            let behind_it = (so_waits (λ s. after s (calls.Write request)) (told_by request) done).synced each state kept [] at in
            waits.joins ∙ ap (λ (b : Bool). b && waiting.syncs.behind) (at.keeps.bytes.file.1 refl) ∙ behind_it;
        write = (request, refl, subst (λ (b : Bucketed). IsStep bucket (calls.Write request) (Revision waiting.told) b) (sym behind) (write_steps bucket request waiting.told ready.next config accepts (waits.told ∙ told)));
        frame = subst (λ (bytes : List ℕ). IsFrameOf filed.journal.value (did (Wrote (write_for (asked request) waiting.told))) bytes) (sym waits.bytes) (frame waiting.told);
        recorded = done;
      }

  -- a call that is one act
  made_act : (call : Call) (answer : Answer) (act : Act) → IsStep bucket call answer (record bucket { version = ready.next }) → IsFrameOf filed.journal.value (did act) ready.frames.items
      → ((state : State) → Represents state bucket → (after state call).config ≡ state.config)
      → ((state : State) → Represents state bucket → (after state call).acts ≡ state.acts ++ act ∷ []) → MakesAct call answer act bucket filed waiting
  made_act call answer act step frame config acts =
      let old = durable_of bucket filed in
      let new = durable_of (bucket_behind waiting) waiting.filed in
      let done = recorded lends never_fails (λ state. after state call) (λ _. did act ∷ []) old new ready.frames.items
      (changed lends never_fails call (λ _. did act ∷ []) old new ready.frames.items act ready.next frame (λ state r. refl) config acts (λ state r. (step state r).1) behind) waits.added waits.each in
      record {
        waits = so_waits (λ state. after state call) (λ _. did act ∷ []) done;
        step = subst (λ (b : Bucketed). IsStep bucket call answer b) (sym behind) step;
        frame = subst (λ (bytes : List ℕ). IsFrameOf filed.journal.value (did act) bytes) (sym waits.bytes) frame;
        recorded = done;
      }

  pub made_seal : IsStep bucket calls.Seal Sealed (record bucket { version = ready.next }) → IsFrameOf filed.journal.value (did Seal) ready.frames.items → MakesAct calls.Seal Sealed Seal bucket filed waiting
  made_seal step frame = made_act calls.Seal Sealed Seal step frame (λ state r. refl) (λ state r. refl)

  pub made_compaction : (floor : ℕ) → IsStep bucket (calls.Compact floor) (Compacted floor) (record bucket { version = ready.next }) → IsFrameOf filed.journal.value (did (Compact floor)) ready.frames.items
      → ((state : State) → Represents state bucket → may_compact floor state ≡ Ok floor) → MakesAct (calls.Compact floor) (Compacted floor) (Compact floor) bucket filed waiting
  made_compaction floor step frame may =
      made_act (calls.Compact floor) (Compacted floor) (Compact floor) step frame (λ state r. (compacts floor state (may state r)).0) (λ state r. (compacts floor state (may state r)).1)

  pub made_batch : (requests : List Request) → IsBatch bucket requests ready.told (record bucket { version = ready.next }) → FramedBatch (durable_of bucket filed) requests ready.frames.items → MakesBatch requests bucket filed waiting
  made_batch requests batch framed =
      let old = durable_of bucket filed in
      let new = durable_of (bucket_behind waiting) waiting.filed in
      let done = recorded lends never_fails (later requests) (batched.told_by requests) old new ready.frames.items
      (wrote_all lends never_fails old new requests ready.told ready.next ready.frames.items batch framed behind) waits.added waits.each in
      record {
        waits = so_waits (later requests) (batched.told_by requests) done;
        batch = subst (λ (b : Bucketed). IsBatch bucket requests waiting.told b) (sym behind) (subst (λ (n : ℕ). IsBatch bucket requests n (record bucket { version = ready.next })) (sym waits.told) batch);
        frame = λ acts same. subst (λ (bytes : List ℕ). IsFrameOf filed.journal.value (did_all acts) bytes) (sym waits.bytes) (framed acts same);
        recorded = done;
      }

-- ---- what can wait

pub write_can : (ready : Ready) (bucket : Bucketed) (filed : Filed) (request : Request) → is_stopped filed ≡ false → length ready.frames.items < 2 ^ 33
    → ready.next.config ≡ bucket.version.config → Accepts bucket request ready.next → ready.told ≡ ready.next.last → CanWait ready bucket filed
write_can ready bucket filed request goes short config accepts told =
    record { leads = (calls.Write request ∷ [], λ state r. (write_steps bucket request ready.told ready.next config accepts told state r).1); goes = goes; short = short }

pub act_can : (ready : Ready) (bucket : Bucketed) (filed : Filed) (call : Call) (answer : Answer) → is_stopped filed ≡ false → length ready.frames.items < 2 ^ 33
    → IsStep bucket call answer (record bucket { version = ready.next }) → CanWait ready bucket filed
act_can ready bucket filed call answer goes short step = record { leads = (call ∷ [], λ state r. (step state r).1); goes = goes; short = short }

pub batch_can : (ready : Ready) (bucket : Bucketed) (filed : Filed) (requests : List Request) → is_stopped filed ≡ false → length ready.frames.items < 2 ^ 33
    → IsBatch bucket requests ready.told (record bucket { version = ready.next }) → CanWait ready bucket filed
batch_can ready bucket filed requests goes short batch = record { leads = batch_leads bucket requests ready.told ready.next batch; goes = goes; short = short }

-- ---- in what a handle holds

pub can_make : (content : Content) (ready : Ready) (bucket : Bucketed) (filed : Filed) → IsFiled content bucket filed → CanWait ready bucket filed → CanMake content ready
can_make (Bucket b None m) ready bucket filed is can = absurd is
can_make (View v o) ready bucket filed is can = absurd is
can_make (Feed f o) ready bucket filed is can = absurd is
can_make (Batch whats) ready bucket filed is can = absurd is
can_make (Made w n) ready bucket filed is can = absurd is
can_make (Bucket b (Some f) m) ready bucket filed is can = subst (λ (x : Bucketed). CanWait ready x f) (sym is.0) (subst (λ (y : Filed). CanWait ready bucket y) (sym is.1) can)

makes_in : (made : Bucketed → Filed → Waiting → Type 0) (b : Bucketed) (f : Filed) (m : ℕ) (new : Content) (ready : Ready) (bucket : Bucketed) (filed : Filed) → b ≡ bucket → f ≡ filed → IsMade (Bucket b (Some f) m) ready new
    → ((waiting : Waiting) → WaitsFor ready bucket filed waiting → made bucket filed waiting) → Makes made (Some (Bucket b (Some f) m)) (Some new)
makes_in made b f m (Bucket c g n) ready bucket filed same file is all = absurd is
makes_in made b f m (View v o) ready bucket filed same file is all = absurd is
makes_in made b f m (Feed g o) ready bucket filed same file is all = absurd is
makes_in made b f m (Batch whats) ready bucket filed same file is all = absurd is
makes_in made b f m (Made w n) ready bucket filed same file is all = (
  is.0,
  subst (λ (x : Bucketed). made x f w) (sym same) (subst (λ (y : Filed). made bucket y w) (sym file)
      (all w (subst (λ (x : Bucketed). WaitsFor ready x filed w) same (subst (λ (y : Filed). WaitsFor ready b y w) file is.1)))),
)

pub makes : (made : Bucketed → Filed → Waiting → Type 0) (old new : Content) (ready : Ready) (bucket : Bucketed) (filed : Filed) → IsFiled old bucket filed → IsMade old ready new
    → ((waiting : Waiting) → WaitsFor ready bucket filed waiting → made bucket filed waiting) → Makes made (Some old) (Some new)
makes made (Bucket b None m) new ready bucket filed is done all = absurd is
makes made (View v o) new ready bucket filed is done all = absurd is
makes made (Feed f o) new ready bucket filed is done all = absurd is
makes made (Batch whats) new ready bucket filed is done all = absurd is
makes made (Made w n) new ready bucket filed is done all = absurd is
makes made (Bucket b (Some f) m) new ready bucket filed is done all = makes_in made b f m new ready bucket filed is.0 is.1 done all

-- what a handle stands at is what its bucket represents
pub stands_in : (content : Content) (bucket : Bucketed) (filed : Filed) (state : State) → IsFiled content bucket filed → StandsAt state (Some content) → Represents state bucket
stands_in (Bucket b None m) bucket filed state is stands = absurd is
stands_in (View v o) bucket filed state is stands = absurd is
stands_in (Feed f o) bucket filed state is stands = absurd is
stands_in (Batch whats) bucket filed state is stands = absurd is
stands_in (Made w n) bucket filed state is stands = absurd is
stands_in (Bucket b (Some f) m) bucket filed state is stands = subst (λ (x : Bucketed). Represents state x) is.0 stands

pub can_end : (content : Content) (frame : List ℕ) (bucket : Bucketed) (filed : Filed) → IsFiled content bucket filed → is_stopped filed ≡ false → length frame < 2 ^ 33
    → IsFrameOf filed.journal.value (closed bucket.version.last) frame → CanEnd content frame
can_end (Bucket b None m) frame bucket filed is goes short told = absurd is
can_end (View v o) frame bucket filed is goes short told = absurd is
can_end (Feed f o) frame bucket filed is goes short told = absurd is
can_end (Batch whats) frame bucket filed is goes short told = absurd is
can_end (Made w n) frame bucket filed is goes short told = absurd is
can_end (Bucket b (Some f) m) frame bucket filed is goes short told = (
  subst (λ (y : Filed). is_stopped y ≡ false) (sym is.1) goes,
  short,
  subst (λ (x : Bucketed). IsFrameOf f.journal.value (closed x.version.last) frame) (sym is.0) (subst (λ (y : Filed). IsFrameOf y.journal.value (closed bucket.version.last) frame) (sym is.1) told),
)
