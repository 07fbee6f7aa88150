-- What a call makes of a bucket with a file, and what settling it does, or giving it up.
use Rattle.std.specs.Prelude.{◌≡◌, ◌≢◌, ℕ, ◌<◌, ◌^◌, ◌&&◌, Bool, true, false, List, [], ◌∷◌, ◌++◌, Option, Some, None, drop, length, map, take}
use Rattle.kv_c.specs.Calling.{IsWrite}
use Rattle.kv_c.specs.Filing.{durable_of, is_stopped}
use Rattle.kv_c.specs.Lending.{lends, never_fails}
use Rattle.kv_c.specs.Waiting.{Leads, Waiting, bucket_behind}
use Rattle.kv_c.specs.declared.content.Content.{Content}
use Rattle.kv_c.specs.declared.content.Content.TheVariants.{Bucket, Made}
use Rattle.kv_c.specs.declared.filed.Filed.{Filed}
use Rattle.kv_c.specs.declared.made.Lent.{Lent}
use Rattle.kv_c.specs.declared.made.Ready.{Ready}
use Rattle.kv_c.specs.declared.outbox.Outbox.{Outbox}
use Rattle.kv_durable.specs.Durables.{IsAt, IsRecorded, act_of, batch_of}
use Rattle.kv_durable.specs.Journals.{AddsFrames, IsFrameOf}
use Rattle.kv_durable.specs.Bases.{Base}
use Rattle.kv_durable.specs.Files.{Reads, file_of}
use Rattle.kv_durable.specs.Openings.{IsNew, IsReopenedOn}
use Rattle.kv_durable.specs.declared.open.Opened.{Opened}
use Rattle.kv_file.specs.declared.appender.Sync.{Sync}
use Rattle.kv_file.specs.declared.appender.Sync.TheVariants.{Each}
use Rattle.kv_journal.specs.Damage.{ShowsDamage}
use Rattle.kv_journal.specs.Header.{BeginsWith, beginning, configuration_payload}
use Rattle.kv_model.specs.Configuration.{Configuration}
use Rattle.kv_journal.specs.Entries.{Entry}
use Rattle.kv_journal.specs.Records.{act_records, asked_records, closed, did, did_all}
use Rattle.kv_model.specs.Acceptance.{accept}
use Rattle.kv_model.specs.Acts.{Act, Wrote}
use Rattle.kv_model.specs.Answers.{Answer}
use Rattle.kv_model.specs.Batches.{accept_all, after_batch}
use Rattle.kv_model.specs.Requests.{Asked, asked, write_for}
use Rattle.kv_model.specs.State.{State, after}
use Rattle.kv_model.specs.declared.call.Call.{Call}
use Rattle.kv_model.specs.declared.call.Call.TheVariants as calls
use Rattle.kv_model.specs.declared.request.Request.{Request}
use Rattle.kv_single.specs.Batches.{IsBatch}
use Rattle.kv_single.specs.Held.{Bucketed}
use Rattle.kv_single.specs.Stepping.{IsStep}

-- what is ready was added to the journal of a file, and waits for the shell
pub record WaitsFor (ready : Ready) (b : Bucketed) (f : Filed) (w : Waiting) : Type 0 where
  pub bucket : w.bucket ≡ b
  pub next : w.next ≡ Some ready.next
  pub bytes : w.bytes ≡ ready.frames.items
  pub at : w.at ≡ f.journal.value.appender.offset
  pub told : w.told ≡ ready.told
  pub number : w.filed.number ≡ f.number
  pub works : w.filed.has_failed ≡ false
  pub former : w.former ≡ None
  pub added : AddsFrames lends never_fails ready.frames.items f.journal.value w.filed.journal.value
  pub each : f.journal.value.appender.sync ≡ Each → w.filed.journal.value.appender.loose ≡ 0
  pub sync : w.filed.journal.value.appender.sync ≡ f.journal.value.appender.sync
  pub behind : w.syncs.behind ≡ w.filed.journal.value.appender.file.is_clean
  pub joins : w.joins ≡ (f.journal.value.appender.file.is_clean && w.syncs.behind)

-- the call is settled: the bucket is as the call leaves it
abbrev pub IsSettled : Waiting → Bucketed → Filed → Type 0
IsSettled waiting bucket filed = (bucket ≡ bucket_behind waiting) × (filed ≡ waiting.filed)

-- it is given up: the bucket is as it was before the call, and nothing more is added to its file
abbrev pub IsGivenUp : Waiting → Bucketed → Filed → Type 0
IsGivenUp waiting bucket filed = (bucket ≡ waiting.bucket) × (filed ≡ record waiting.filed { has_failed = true })

-- a handle holds a bucket with a file
abbrev pub IsFiled : Content → Bucketed → Filed → Type 0
IsFiled (Bucket b (Some f) m) bucket filed = (b ≡ bucket) × (f ≡ filed)
IsFiled content bucket filed = ⊥

-- what is ready can be made of a bucket with a file
pub record CanWait (ready : Ready) (b : Bucketed) (f : Filed) : Type 0 where
  pub leads : Leads b (Some ready.next)
  pub goes : is_stopped f ≡ false
  pub short : length ready.frames.items < 2 ^ 33

abbrev pub CanMake : Content → Ready → Type 0
CanMake (Bucket b (Some f) m) ready = CanWait ready b f
CanMake content ready = ⊥

abbrev pub IsMade : Content → Ready → Content → Type 0
IsMade (Bucket b (Some f) m) ready (Made w n) = (n ≡ m) × WaitsFor ready b f w
IsMade old ready new = ⊥

-- A call was made, and waits for the shell: the bucket is as it was, and the shell writes at the offset where the file ends. Where
-- each act is synced it syncs behind that.
pub record Waits (b : Bucketed) (f : Filed) (w : Waiting) : Type 0 where
  pub bucket : w.bucket ≡ b
  pub at : w.at ≡ f.journal.value.appender.offset
  pub number : w.filed.number ≡ f.number
  pub works : w.filed.has_failed ≡ false
  pub former : w.former ≡ None
  pub sync : w.filed.journal.value.appender.sync ≡ f.journal.value.appender.sync
  pub synced : f.journal.value.appender.sync ≡ Each → (state : State) (kept loose : List Entry) →
      IsAt lends never_fails state kept loose (durable_of b f) → w.syncs.behind ≡ true

-- What was told and what the shell writes is the frame of the call's record. When it is settled, the bucket is at the state behind
-- the call, and its file has the record. Where each act is synced, and so nothing is loose, writes can join it.
pub record MakesWrite (request : Request) (b : Bucketed) (f : Filed) (w : Waiting) : Type 0 where
  pub waits : Waits b f w
  pub joins : f.journal.value.appender.sync ≡ Each → (state : State) (kept : List Entry) →
      IsAt lends never_fails state kept [] (durable_of b f) → w.joins ≡ true
  pub write : IsWrite b (asked request) w.told (bucket_behind w)
  pub frame : IsFrameOf f.journal.value (did (Wrote (write_for (asked request) w.told))) w.bytes
  pub recorded : IsRecorded lends never_fails (λ state. after state (calls.Write request))
      (λ state. map did (act_of (accept state.config (asked request) state.acts)))
      (durable_of b f) (durable_of (bucket_behind w) w.filed)

-- the same of a batch
pub record MakesBatch (requests : List Request) (b : Bucketed) (f : Filed) (w : Waiting) : Type 0 where
  pub waits : Waits b f w
  pub batch : IsBatch b requests w.told (bucket_behind w)
  pub frame : (acts : List Act) → act_records acts ≡ asked_records (map asked requests) →
      IsFrameOf f.journal.value (did_all acts) w.bytes
  pub recorded : IsRecorded lends never_fails (λ state. after_batch state (accept_all state.config (map asked requests) state.acts))
      (λ state. batch_of (accept_all state.config (map asked requests) state.acts))
      (durable_of b f) (durable_of (bucket_behind w) w.filed)

-- the same of a call that is one act, as a seal and a compaction
pub record MakesAct (call : Call) (answer : Answer) (act : Act) (b : Bucketed) (f : Filed) (w : Waiting) : Type 0 where
  pub waits : Waits b f w
  pub step : IsStep b call answer (bucket_behind w)
  pub frame : IsFrameOf f.journal.value (did act) w.bytes
  pub recorded : IsRecorded lends never_fails (λ state. after state call) (λ _. did act ∷ [])
      (durable_of b f) (durable_of (bucket_behind w) w.filed)

-- A sync was made: the shell writes nothing, and brings all onto the disk.
pub record MakesSync (b : Bucketed) (f : Filed) (w : Waiting) : Type 0 where
  pub waits : Waits b f w
  pub next : w.next ≡ None
  pub bytes : w.bytes ≡ []
  pub syncs : w.syncs.behind ≡ true
  pub at_last : (state : State) (kept loose : List Entry) → IsAt lends never_fails state kept loose (durable_of b f) →
      IsAt lends never_fails state (kept ++ loose) [] (durable_of (bucket_behind w) w.filed)

-- A clean end was made: the shell writes that the file ends so, and brings all onto the disk.
pub record MakesEnd (b : Bucketed) (f : Filed) (w : Waiting) : Type 0 where
  pub waits : Waits b f w
  pub next : w.next ≡ None
  pub frame : IsFrameOf f.journal.value (closed b.version.last) w.bytes
  pub syncs : w.syncs.behind ≡ true

-- what two handles hold before a call is made and after it
abbrev pub Makes : (Bucketed → Filed → Waiting → Type 0) → Option Content → Option Content → Type 0
Makes made (Some (Bucket b (Some f) m)) (Some (Made w n)) = (n ≡ m) × made b f w
Makes made old new = ⊥

-- one write that is asked for
abbrev pub MakesAsked : Asked → Bucketed → Filed → Waiting → Type 0
MakesAsked what bucket filed waiting = (request : Request) × (asked request ≡ what) × MakesWrite request bucket filed waiting

-- a batch of all these requests
abbrev pub MakesGathered : Option (List Asked) → Option Content → Option Content → Type 0
MakesGathered (Some whats) old new = (requests : List Request) × (map asked requests ≡ whats) × Makes (MakesBatch requests) old new
MakesGathered None old new = ⊥

-- and before a call is settled and after it
abbrev pub Settles : Option Content → ℕ → Option Content → Type 0
Settles (Some (Made w m)) told (Some (Bucket b (Some f) n)) = (n ≡ m) × IsSettled w b f × (told ≡ w.told)
Settles old told new = ⊥

-- and before it is given up and after it
abbrev pub GivesUp : Option Content → Option Content → Type 0
GivesUp (Some (Made w m)) (Some (Bucket b (Some f) n)) = (n ≡ m) × IsGivenUp w b f
GivesUp old new = ⊥

-- a call waits for the shell
abbrev pub waits_in : Option Content → Bool
waits_in (Some (Made w m)) = true
waits_in held = false

-- nothing more is added to the file of the bucket that a handle holds
abbrev pub stopped_in : Option Content → Bool
stopped_in (Some (Bucket b (Some f) m)) = is_stopped f
stopped_in held = false

-- a handle's content is a bucket with a file
abbrev pub is_filed : Content → Bool
is_filed (Bucket b (Some f) m) = true
is_filed content = false

-- a sync, and a clean end that this frame tells, can be made of the bucket
abbrev pub CanSync : Content → Type 0
CanSync (Bucket b (Some f) m) = is_stopped f ≡ false
CanSync content = ⊥

abbrev pub CanEnd : Content → List ℕ → Type 0
CanEnd (Bucket b (Some f) m) frame = (is_stopped f ≡ false) × (length frame < 2 ^ 33) × IsFrameOf f.journal.value (closed b.version.last) frame
CanEnd content frame = ⊥

-- what the shell is lent, and a part of its bytes
pub record IsLentFrom (waiting : Waiting) (from room : ℕ) (lent : Lent) (copied : List ℕ) : Type 0 where
  pub number : lent.number ≡ waiting.filed.number
  pub at : lent.at ≡ waiting.at
  pub size : lent.size ≡ length waiting.bytes
  pub syncs : (lent.before ≡ waiting.syncs.before) × (lent.behind ≡ waiting.syncs.behind)
  pub count : lent.count ≡ length (take room (drop from waiting.bytes))
  pub bytes : take lent.count copied ≡ take room (drop from waiting.bytes)

abbrev pub IsLent : Option Content → (from room : ℕ) → Lent → List ℕ → Type 0
IsLent (Some (Made w m)) from room lent copied = IsLentFrom w from room lent copied
IsLent held from room lent copied = ⊥

-- the number of the file of a bucket
abbrev pub number_in : Option Content → Option ℕ
number_in (Some (Bucket b (Some f) m)) = Some f.number
number_in (Some (Made w m)) = Some w.filed.number
number_in held = None

-- the bytes tell damage wherever they are read: behind their entries stands what was on the disk once
unfoldable pub ShowDamage : Configuration → List ℕ → Type 0
ShowDamage config bytes = (base : Base) (other : ℕ) (entries : List Entry) (rest : List ℕ) → base.config ≡ config →
    Reads base bytes other entries rest → ShowsDamage other (length (file_of other base entries)) rest

-- they are those of a bucket with another configuration
abbrev pub AreOfAnother : Configuration → List ℕ → Type 0
AreOfAnother config bytes = (other : ℕ) × (payload : List ℕ) × (rest : List ℕ) × BeginsWith bytes other payload rest
    × (payload ≢ configuration_payload config)

-- What was found in the bytes of a file.
pub record IsFound (config : Configuration) (mode : Sync) (seed : ℕ) (bytes : List ℕ) (opened : Opened Outbox) : Type 0 where
  pub sync : opened.durable.journal.appender.sync ≡ mode
  pub new : bytes ≡ [] → IsNew lends never_fails config seed opened.durable opened.dropped
  pub reopened : (bytes ≡ [] → ⊥) → IsReopenedOn lends never_fails config bytes opened.durable opened.dropped opened.checkpointed

-- The opening of the bucket of a file with these bytes waits for the shell. Of no bytes the bucket is new, and the shell writes
-- what a file begins with. Else it is at the acts of what the bytes are read as, whether or not they begin with a checkpoint, and
-- the shell cuts the file off behind these, which end at the offset.
pub record IsOpened (config : Configuration) (mode : Sync) (seed of : ℕ) (bytes : List ℕ) (dropped : ℕ) (waiting : Waiting) : Type 0 where
  pub next : waiting.next ≡ None
  pub behind : waiting.syncs.behind ≡ true
  pub number : waiting.filed.number ≡ of
  pub works : waiting.filed.has_failed ≡ false
  pub former : waiting.former ≡ None
  pub sync : waiting.filed.journal.value.appender.sync ≡ mode
  pub new : bytes ≡ [] → IsNew lends never_fails config seed (durable_of waiting.bucket waiting.filed) dropped
      × (waiting.bytes ≡ beginning seed config) × (waiting.at ≡ 0)
  pub reopened : (bytes ≡ [] → ⊥) → (checkpointed : Bool)
      × IsReopenedOn lends never_fails config bytes (durable_of waiting.bucket waiting.filed) dropped checkpointed
      × (waiting.bytes ≡ []) × (waiting.at ≡ waiting.filed.journal.value.appender.offset)

abbrev pub OpensFile : Configuration → Sync → (seed number : ℕ) → List ℕ → ℕ → Option Content → Type 0
OpensFile config sync seed number bytes dropped (Some (Made w m)) = IsOpened config sync seed number bytes dropped w
OpensFile config sync seed number bytes dropped held = ⊥
