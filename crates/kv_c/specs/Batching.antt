-- Requests that C gathers, and makes in one step.
use Rattle.std.specs.Prelude.{◌≡◌, ℕ, List, [], ◌∷◌, ◌++◌, Option, Some, None, Result, Ok, Err, if◌then◌else◌, length, map, nat_lt}
use Rattle.kv_c.specs.Codes.{with_key}
use Rattle.kv_c.specs.declared.content.Content.{Content}
use Rattle.kv_c.specs.declared.content.Content.TheVariants.{Bucket, View, Feed, Batch, Made}
use Rattle.kv_keys.specs.Refusals.{code_of}
use Rattle.kv_keys.specs.declared.error.KvError.{KvError}
use Rattle.kv_keys.specs.declared.error.KvError.TheVariants.{ValueTooLarge, WrongLastRevision}
use Rattle.kv_model.specs.Batches.{IsRefusedAt}
use Rattle.kv_model.specs.Requests.{Asked, asked, key_of, value_of}
use Rattle.kv_model.specs.State.{State}
use Rattle.kv_model.specs.declared.batch.BatchRefused.{BatchRefused}
use Rattle.kv_model.specs.declared.request.Request.{Request}
use Rattle.kv_single.specs.Batches.{IsBatch}
use Rattle.kv_single.specs.Held.{Bucketed}

-- what is gathered in a handle: of a closed one nothing, and one on something else gathers nothing
abbrev pub gathered : Option Content → Option (List Asked)
gathered None = Some []
gathered (Some (Bucket b file opening)) = None
gathered (Some (View v opening)) = None
gathered (Some (Feed f opening)) = None
gathered (Some (Batch whats)) = Some whats
gathered (Some (Made made opening)) = None

-- a batch in which these are gathered
abbrev pub batch_of : List Asked → Option Content
batch_of whats = Some (Batch whats)

-- one request behind those that are gathered
abbrev pub and_one : Asked → Option (List Asked) → Option (List Asked)
and_one what None = None
and_one what (Some whats) = Some (whats ++ what ∷ [])

-- this is gathered behind all that was
abbrev pub Gathers : Asked → Option Content → Option Content → Type 0
Gathers what old new = gathered new ≡ and_one what (gathered old)

-- so many requests are gathered
abbrev pub count_of : Option (List Asked) → Option ℕ
count_of None = None
count_of (Some whats) = Some (length whats)

-- what no bucket accepts is not gathered: what has no key, or a value that is longer than any limit
abbrev pub gatherable : Asked → Result Asked KvError
gatherable what = with_key (key_of what)
    (if nat_lt 1048576 (length (value_of what)) then Err ValueTooLarge else Ok what)

-- all these are accepted, the first at this revision
abbrev pub AreWrites : Bucketed → List Asked → ℕ → Bucketed → Type 0
AreWrites old whats first new = (requests : List Request) × (map asked requests ≡ whats) × IsBatch old requests first new

-- the same, of what two handles hold before, and that of the bucket after
abbrev pub AcceptsAll : Option Content → Option Content → ℕ → Option Content → Type 0
AcceptsAll (Some (Batch whats)) (Some (Bucket old f m)) first (Some (Bucket new g n)) = (n ≡ m) × AreWrites old whats first new
AcceptsAll None (Some (Bucket old f m)) first (Some (Bucket new g n)) = (n ≡ m) × AreWrites old [] first new
AcceptsAll batch old first new = ⊥

-- these requests are accepted, the first at this revision, of what a handle holds before and after
abbrev pub Batches : List Request → Option Content → ℕ → Option Content → Type 0
Batches requests (Some (Bucket old f m)) first (Some (Bucket new g n)) = (n ≡ m) × IsBatch old requests first new
Batches requests old first new = ⊥

-- one of these is refused, that of this index, with this code; with 11 the key's last revision is told
abbrev pub IsRefusedWith : State → Option (List Asked) → ℕ → ℕ → ℕ → Type 0
IsRefusedWith state None code at told = code ≡ 32
IsRefusedWith state (Some whats) code at told = (refused : BatchRefused) ×
    IsRefusedAt state.config whats state.acts refused × (at ≡ refused.at) × (code ≡ code_of refused.error) ×
    (code ≡ 11 → refused.error ≡ WrongLastRevision told)
