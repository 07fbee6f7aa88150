-- What C is told by a call, in the words of the model.
use Rattle.std.specs.Prelude.{◌≡◌, ℕ, ◌<◌, Bool, true, false, List, Option, Some, None, ◌==◌, if◌then◌else◌, Result, Ok, Err, IsTrue, take, length, slice_get, nat_le}
use Rattle.kv_model.specs.Answers.{Answer, Revision}
use Rattle.kv_model.specs.Given.{Item as Given}
use Rattle.kv_model.specs.declared.call.Call.{Call}
use Rattle.kv_c.specs.declared.item.Item.{Item}
use Rattle.kv_c.specs.Codes.{listed}
use Rattle.kv_c.specs.Handing.{IsEntry}
use Rattle.kv_c.specs.Feeding.{Fed, HandsNext, HasHanded, IsRefreshed, Opens, lags, next_of}
use Rattle.kv_single.specs.Held.{Bucketed, Represents}
use Rattle.kv_c.specs.declared.content.Content.{Content}
use Rattle.kv_c.specs.declared.content.Content.TheVariants.{Bucket, View, Feed, Batch, Made}
use Rattle.kv_file.specs.declared.appender.Sync.{Sync}
use Rattle.kv_file.specs.declared.appender.Sync.TheVariants as syncs
use Rattle.kv_keys.specs.Grammar.{is_key, parts}
use Rattle.kv_keys.specs.Matching.{any_matches}
use Rattle.kv_keys.specs.declared.error.KvError.{KvError}
use Rattle.kv_keys.specs.declared.error.KvError.TheVariants.{BadKey, OutOfMemory}
use Rattle.kv_model.specs.Acts.{Act, Write}
use Rattle.kv_model.specs.Reads.{keys_of}
use Rattle.kv_store.specs.Standing.{StandsFor}
use Rattle.kv_store.specs.Stored.{Stored}
use Rattle.kv_model.specs.State.{State, may_compact}
use Rattle.kv_single.specs.Stepping.{IsStep}
use Rattle.kv_model.specs.declared.call.Call.TheVariants as calls
use Rattle.kv_c.specs.declared.request.Limits.{Limits}
use Rattle.kv_c.specs.declared.request.Wanted.{Wanted}
use Rattle.kv_model.specs.Configuration.{Configuration}
use Rattle.kv_model.specs.Requests.{Asked, asked, key_of}
use Rattle.kv_model.specs.declared.request.Request.{Request}
use Rattle.kv_model.specs.declared.options.Options.{Options}
use Rattle.kv_model.specs.declared.options.Start.{Start}
use Rattle.kv_model.specs.declared.options.Start.TheVariants.{Latest, History, Updates, From}

abbrev pub holds_bucket : Option Content → Bool
holds_bucket None = false
holds_bucket (Some (Bucket b file opening)) = true
holds_bucket (Some (View v opening)) = false
holds_bucket (Some (Feed f opening)) = false
holds_bucket (Some (Batch whats)) = false
holds_bucket (Some (Made made opening)) = false

abbrev pub holds_feed : Option Content → Bool
holds_feed None = false
holds_feed (Some (Bucket b file opening)) = false
holds_feed (Some (View v opening)) = false
holds_feed (Some (Feed f opening)) = true
holds_feed (Some (Batch whats)) = false
holds_feed (Some (Made made opening)) = false

-- what is read through a handle: the version of a bucket, or a view
abbrev pub version_in : Option Content → Option Stored
version_in None = None
version_in (Some (Bucket b file opening)) = Some b.version
version_in (Some (View v opening)) = Some v
version_in (Some (Feed f opening)) = None
version_in (Some (Batch whats)) = None
version_in (Some (Made made opening)) = None

-- the number under which the bucket was opened that a handle holds, or has its view or feed from
abbrev pub opening_of : Option Content → Option ℕ
opening_of None = None
opening_of (Some (Bucket b file opening)) = Some opening
opening_of (Some (View v opening)) = Some opening
opening_of (Some (Feed f opening)) = Some opening
opening_of (Some (Batch whats)) = None
opening_of (Some (Made made opening)) = Some opening

-- a handle is open, on a bucket that represents the state
abbrev pub StandsAt : State → Option Content → Type 0
StandsAt state None = ⊥
StandsAt state (Some (Bucket b file opening)) = Represents state b
StandsAt state (Some (View v opening)) = ⊥
StandsAt state (Some (Feed f opening)) = ⊥
StandsAt state (Some (Batch whats)) = ⊥
StandsAt state (Some (Made made opening)) = ⊥

-- a version stands for these acts under this configuration
abbrev pub Reads : Configuration → List Act → Option Stored → Type 0
Reads config acts None = ⊥
Reads config acts (Some v) = (v.config ≡ config) × StandsFor acts v

-- a handle is open, on a bucket with this configuration that has accepted these acts, or on a view of one that had
abbrev pub Shows : Configuration → List Act → Option Content → Type 0
Shows config acts held = Reads config acts (version_in held)

-- the write that is asked for is accepted at this revision
abbrev pub IsWrite : Bucketed → Asked → ℕ → Bucketed → Type 0
IsWrite old what revision new = (request : Request) × (asked request ≡ what) ×
    IsStep old (calls.Write request) (Revision revision) new

-- the same, of what a handle holds before and after
abbrev pub Accepts : Asked → Option Content → ℕ → Option Content → Type 0
Accepts what (Some (Bucket old f m)) revision (Some (Bucket new g n)) = (n ≡ m) × IsWrite old what revision new
Accepts what old revision new = ⊥

-- the buckets that a handle holds before and after are one step of the model apart
abbrev pub Steps : Call → Answer → Option Content → Option Content → Type 0
Steps call answer (Some (Bucket old f m)) (Some (Bucket new g n)) = (n ≡ m) × IsStep old call answer new
Steps call answer old new = ⊥

-- the bucket that a handle holds is as it was
abbrev pub StaysAs : Option Content → Option Content → Type 0
StaysAs (Some (Bucket old f m)) (Some (Bucket new g n)) = (n ≡ m) × (new ≡ old)
StaysAs old new = ⊥

-- the highest floor for which a compaction is not refused, 0 where there is none
abbrev pub IsReach : State → ℕ → Type 0
IsReach state reach = (0 < reach → may_compact reach state ≡ Ok reach)
    × ((floor : ℕ) → reach < floor → (e : KvError) × (may_compact floor state ≡ Err e))

-- a handle holds a feed that begins with what is read through another one
abbrev pub Feeds : Option Stored → List (List ℕ) → Options → Option Content → Type 0
Feeds (Some v) filters options (Some (Feed f opening)) = Opens v filters options f
Feeds of filters options new = ⊥

-- a feed goes on to what is read through another handle
abbrev pub Refreshes : Option Stored → Option Content → Option Content → Type 0
Refreshes (Some v) (Some (Feed old m)) (Some (Feed new n)) = (n ≡ m) × IsRefreshed v old new
Refreshes of old new = ⊥

-- the code of a feed that is to go on to a version of its bucket: 36 where that has fewer writes than its own, else 21
-- where it lags behind that one's floor
abbrev pub refreshed_code : List Act → List Act → ℕ → Stored → Fed → ℕ
refreshed_code began acts n v f = if nat_le f.present.last v.last then
    (if lags v.floor began acts n f then 21 else 0) else 36

-- the same of a version of a bucket that was opened under a number: 25 where that is not the feed's own
abbrev pub numbered_code : List Act → List Act → ℕ → ℕ → Stored → Fed → ℕ → ℕ
numbered_code began acts n of v f own = if of == own then refreshed_code began acts n v f else 25

-- the same, of what the handles hold
abbrev pub refresh_code : List Act → List Act → ℕ → Option ℕ → Option Stored → Option Content → ℕ
refresh_code began acts n (Some of) (Some v) (Some (Feed f own)) = numbered_code began acts n of v f own
refresh_code began acts n of v held = 32

-- this is the floor of what is read through a handle
abbrev pub IsFloor : Option Stored → ℕ → Type 0
IsFloor None floor = ⊥
IsFloor (Some v) floor = v.floor ≡ floor

-- a feed hands out its next item
abbrev pub Hands : Option Content → Item → List ℕ → List ℕ → Option Content → Type 0
Hands (Some (Feed old m)) item keys values (Some (Feed new n)) = (n ≡ m) × HandsNext old item keys values new
Hands old item keys values new = ⊥

-- a handle is open, on a feed that has handed out n items
abbrev pub FeedsBy : List Act → List Act → ℕ → Option Content → Type 0
FeedsBy began acts n None = ⊥
FeedsBy began acts n (Some (Bucket b file opening)) = ⊥
FeedsBy began acts n (Some (View v opening)) = ⊥
FeedsBy began acts n (Some (Feed f opening)) = HasHanded began acts n f
FeedsBy began acts n (Some (Batch whats)) = ⊥
FeedsBy began acts n (Some (Made made opening)) = ⊥

-- and this is the item that comes next
abbrev pub comes_next : List Act → List Act → ℕ → Option Content → Option Given
comes_next began acts n None = None
comes_next began acts n (Some (Bucket b file opening)) = None
comes_next began acts n (Some (View v opening)) = None
comes_next began acts n (Some (Feed f opening)) = next_of began acts n f
comes_next began acts n (Some (Batch whats)) = None
comes_next began acts n (Some (Made made opening)) = None

-- a request as it was read, or why there is none
abbrev pub IsAsked : Asked → Result Request KvError → Type 0
IsAsked what (Ok request) = (asked request ≡ what) × IsTrue (is_key (key_of what))
IsAsked what (Err e) = ¬ (e ≡ OutOfMemory) → (e ≡ BadKey) × (is_key (key_of what) ≡ false)

-- this write was found, and its value, how many bytes that has, and its revision are handed out
abbrev pub IsValue : Option Write → List ℕ → ℕ → ℕ → Type 0
IsValue found room size revision = (w : Write) × (found ≡ Some w) × (size ≡ length w.value) ×
    (take size room ≡ w.value) × (revision ≡ w.revision)

-- how much room its value needs is told, and its revision
abbrev pub WantsRead : Option Write → ℕ → ℕ → Type 0
WantsRead None size revision = ⊥
WantsRead (Some w) size revision = (size ≡ length w.value) × (revision ≡ w.revision)

-- these entries were found, and the one of an index is handed out, without its key
abbrev pub IsHistory : Option (List Write) → ℕ → ℕ → Item → List ℕ → Type 0
IsHistory found index count item room = (ws : List Write) × (found ≡ Some ws) × (count ≡ length ws) ×
    IsEntry (slice_get ws index) item room

-- the keys that a text of filters asks for
abbrev pub keys_asked : List ℕ → List Act → List (List ℕ)
keys_asked filters acts = keys_of (any_matches (parts filters)) acts

-- how many these keys are is told, and how much room they need
abbrev pub WantsKeys : List (List ℕ) → ℕ → ℕ → Type 0
WantsKeys keys count size = (count ≡ length keys) × (size ≡ length (listed keys))

-- and they are handed out
abbrev pub AreKeys : List (List ℕ) → ℕ → ℕ → List ℕ → Type 0
AreKeys keys count size room = (count ≡ length keys) × (size ≡ length (listed keys)) × (take size room ≡ listed keys)

-- the configuration that C asks for
abbrev pub configured : List ℕ → Limits → Configuration
configured name limits = record {
  bucket = name;
  history = limits.history;
  value_limit = limits.value_limit;
  write_limit = limits.write_limit;
  revision_limit = limits.revision_limit;
}

-- when what is accepted is brought onto the disk, as C asks for it: 0 where `kv_sync` is called, 1 each time, else every so
-- many times
abbrev pub sync_asked : ℕ → Sync
sync_asked n = if n == 0 then syncs.Asked else (if n == 1 then syncs.Each else syncs.Every n)

-- the revision that a delete or a purge is to find, if C gives one
abbrev pub if_given : Bool → ℕ → Option ℕ
if_given has_last last = if has_last then Some last else None

-- the start of a watch that a number stands for
abbrev pub start_named : ℕ → ℕ → Start
start_named n from = if n == 0 then Latest else (if n == 1 then History else (if n == 2 then Updates else From from))

abbrev pub options_asked : Wanted → Options
options_asked wanted = record {
  start = start_named wanted.start wanted.from;
  ignore_deletes = wanted.ignore_deletes;
  headers_only = wanted.headers_only;
}
