-- Writes that are made behind calls that wait for the shell, and are settled or given up with them.
use Rattle.std.specs.Prelude.{◌≡◌, ℕ, ◌&&◌, ◌==◌, nat_le, if◌then◌else◌, Bool, true, false, List, [], ◌∷◌, ◌++◌, Option, Some, Err, length, map}
use Rattle.kv_c.specs.Calling.{if_given}
use Rattle.kv_c.specs.Codes as codes
use Rattle.kv_c.specs.Codes.{code_by, outcome, stopped_code}
use Rattle.kv_c.specs.Filing.{durable_of, is_stopped}
use Rattle.kv_c.specs.Lending.{lends, never_fails}
use Rattle.kv_c.specs.Rows.{Done, step}
use Rattle.kv_c.specs.Waiting.{Waiting, bucket_behind}
use Rattle.kv_c.specs.declared.content.Content.{Content}
use Rattle.kv_c.specs.declared.content.Content.TheVariants.{Made}
use Rattle.kv_c.specs.declared.filed.Filed.{Filed}
use Rattle.kv_c.specs.declared.made.Ready.{Ready}
use Rattle.kv_c.specs.declared.outbox.Outbox.{Outbox}
use Rattle.kv_durable.specs.Durables.{IsAt, act_of}
use Rattle.kv_durable.specs.Journals.{AddsFrames, entries_at}
use Rattle.kv_durable.specs.declared.durable.Durable.{Durable}
use Rattle.kv_file.specs.Adding.{Adds}
use Rattle.kv_file.specs.declared.appender.Sync.TheVariants.{Each}
use Rattle.kv_frames.specs.Frames.{IsPayload, frames}
use Rattle.kv_journal.specs.Entries.{Entry, payload_of, payloads_of}
use Rattle.kv_journal.specs.Records.{Content as Telling, did}
use Rattle.kv_keys.specs.declared.error.KvError.TheVariants.{WrongLastRevision}
use Rattle.kv_model.specs.Acceptance.{accept}
use Rattle.kv_model.specs.Acts.{Wrote}
use Rattle.kv_model.specs.Answers.{Revision}
use Rattle.kv_model.specs.Requests.{Asked, asked, create, delete, purge, put, update, write_for}
use Rattle.kv_model.specs.State.{State, after}
use Rattle.kv_model.specs.declared.call.Call.TheVariants as calls
use Rattle.kv_model.specs.declared.request.Request.{Request}
use Rattle.kv_single.specs.Held.{Represents}
use Rattle.kv_single.specs.Stepping.{IsStep}

-- the write that C asks for: 0 a put, 1 a create, 2 an update, 3 a delete, else a purge
abbrev pub asked_by : ℕ → (key value : List ℕ) → (has_last : Bool) → (last : ℕ) → Asked
asked_by kind key value has_last last =
    if kind == 0 then put key value
    else if kind == 1 then create key value
    else if kind == 2 then update key value last
    else if kind == 3 then delete key (if_given has_last last)
    else purge key (if_given has_last last)

-- the bucket behind what waits, and its file with that
abbrev pub durable_behind : Waiting → Durable Outbox
durable_behind waiting = durable_of (bucket_behind waiting) waiting.filed

-- Writes can be made behind what waits: nothing was loose before that, it is synced behind, and it has no more than 16 MiB.
abbrev pub takes_more : Waiting → Bool
takes_more waiting = waiting.joins && nat_le (length waiting.bytes) 16777216

-- The entries that tell this behind what waits: each says that all that waits before it is loose. So of a group that a crash
-- has torn no frame says that what stands before it was on the disk.
abbrev pub told_behind : Waiting → List Telling → List Entry
told_behind waiting contents = entries_at (length waiting.bytes) contents

-- the bytes are the frame of the entry that tells this behind so many bytes that wait, which is a payload
pub record IsFrameBehind (filed : Filed) (waiting : ℕ) (content : Telling) (bytes : List ℕ) : Type 0 where
  pub are : bytes ≡ frames filed.journal.value.framing.seed filed.journal.value.appender.offset (payloads_of (entries_at waiting (content ∷ [])))
  pub payload : IsPayload (payload_of (record { loose = waiting; content = content }))

-- what is ready was added behind what waits
pub record Joins (ready : Ready) (old new : Waiting) : Type 0 where
  pub bucket : new.bucket ≡ old.bucket
  pub next : new.next ≡ Some ready.next
  pub bytes : new.bytes ≡ old.bytes ++ ready.frames.items
  pub at : new.at ≡ old.at
  pub told : new.told ≡ old.told
  pub number : new.filed.number ≡ old.filed.number
  pub has_failed : new.filed.has_failed ≡ old.filed.has_failed
  pub added : AddsFrames lends never_fails ready.frames.items old.filed.journal.value new.filed.journal.value
  pub each : old.filed.journal.value.appender.sync ≡ Each → new.filed.journal.value.appender.loose ≡ 0
  pub sync : new.filed.journal.value.appender.sync ≡ old.filed.journal.value.appender.sync
  pub syncs : new.syncs ≡ record { before = old.syncs.before; behind = true }
  pub joins : new.joins ≡ old.joins

-- A write is made behind what waits. The shell writes its frame behind the others, at the offset of the first, and syncs behind
-- them all. When it is settled, the bucket is at the state behind it, and its file has the record; what the first of them
-- answers and what they leave when they are given up stays.
pub record MakesMore (request : Request) (old : Waiting) (revision : ℕ) (new : Waiting) : Type 0 where
  pub bucket : new.bucket ≡ old.bucket
  pub at : new.at ≡ old.at
  pub told : new.told ≡ old.told
  pub number : new.filed.number ≡ old.filed.number
  pub works : new.filed.has_failed ≡ false
  pub sync : new.filed.journal.value.appender.sync ≡ old.filed.journal.value.appender.sync
  pub before : new.syncs.before ≡ old.syncs.before
  pub behind : new.syncs.behind ≡ true
  pub joins : new.joins ≡ old.joins
  pub step : IsStep (bucket_behind old) (calls.Write request) (Revision revision) (bucket_behind new)
  pub bytes : new.bytes ≡ old.bytes ++ frames old.filed.journal.value.framing.seed old.filed.journal.value.appender.offset
      (payloads_of (told_behind old (did (Wrote (write_for (asked request) revision)) ∷ [])))
  pub recorded : (state : State) (kept loose : List Entry) (at : IsAt lends never_fails state kept loose (durable_behind old)) →
      (k : List Entry) × (l : List Entry)
      × Adds kept loose (told_behind old (map did (act_of (accept state.config (asked request) state.acts)))) k l
      × (old.filed.journal.value.appender.sync ≡ Each → l ≡ [])
      × (next : IsAt lends never_fails (after state (calls.Write request)) k l (durable_behind new)) × (next.base ≡ at.base)

-- the same, of what a handle holds before and after
abbrev pub AddsWrite : Request → Option Content → ℕ → Option Content → Type 0
AddsWrite request (Some (Made w m)) revision (Some (Made x n)) = (n ≡ m) × MakesMore request w revision x
AddsWrite request old revision new = ⊥

-- and of a write that is asked for
abbrev pub AddsAsked : Asked → Option Content → ℕ → Option Content → Type 0
AddsAsked what old revision new = (request : Request) × (asked request ≡ what) × AddsWrite request old revision new

-- what waits in a handle takes writes behind it
abbrev pub takes_more_in : Option Content → Bool
takes_more_in (Some (Made w m)) = takes_more w
takes_more_in held = false

-- nothing more is added to the file of the bucket
abbrev pub stopped_behind : Option Content → Bool
stopped_behind (Some (Made w m)) = is_stopped w.filed
stopped_behind held = false

-- the bucket behind what waits represents the state
abbrev pub WaitsAt : State → Option Content → Type 0
WaitsAt state (Some (Made w m)) = Represents state (bucket_behind w)
WaitsAt state held = ⊥

-- With 38 the write is made behind what waits, and its revision is handed out. Else the code is that of its refusal behind
-- that, and nothing changes; with 11 the key's last revision is handed out. With 22 nothing more is added to the file, and with
-- 32 nothing waits that takes writes behind it.
pub record WritesBehind (what : Asked) (old : Option Content) (before code after : ℕ) (new : Option Content) : Type 0 where
  pub made : code ≡ 38 → AddsAsked what old after new
  pub refusal : (state : State) → WaitsAt state old → takes_more_in old ≡ true → ¬ (code ≡ 1) → ¬ (code ≡ 22) →
      ¬ (code ≡ 38) → code ≡ code_by codes.accepted (outcome what state)
  pub last : code ≡ 11 → (state : State) → WaitsAt state old → outcome what state ≡ Err (WrongLastRevision after)
  pub untold : ¬ (code ≡ 38) → ¬ (code ≡ 11) → after ≡ before
  pub refused : ¬ (code ≡ 38) → new ≡ old
  pub fault : code ≡ 22 → stopped_behind old ≡ true
  pub stopped : stopped_behind old ≡ true → takes_more_in old ≡ true → ¬ (code ≡ 1) → code ≡ stopped_code what
  pub closed : takes_more_in old ≡ false → code ≡ 32

-- a write that was accepted, at this revision
pub record Accepted : Type 0 where
  pub request : Request
  pub revision : ℕ

-- these are made, one behind the other
abbrev pub AddWrites : Option Content → List Accepted → Option Content → Type 0
AddWrites old [] new = new ≡ old
AddWrites old (one ∷ more) new = (next : Option Content) × AddsWrite one.request old one.revision next × AddWrites next more new

-- each of them is one step
abbrev pub steps_of : List Accepted → List Done
steps_of accepted = map (λ one. step (record { call = calls.Write one.request; answer = Revision one.revision })) accepted
