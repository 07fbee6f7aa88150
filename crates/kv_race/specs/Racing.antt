-- What a race promises.
use Rattle.std.specs.Prelude.{◌≡◌, ◌==◌, ℕ, Bool, false, List, [], ◌∷◌, Option, Some, Result, Ok, Err, ⊤, filter, length, map}
use Rattle.kv_keys.specs.declared.error.KvError.{KvError}
use Rattle.kv_model.specs.Acts.{Act, Write, writes_of}
use Rattle.kv_model.specs.Configuration.{Configuration}
use Rattle.kv_model.specs.Requests.{Asked, key_of, op_of, value_of}
use Rattle.kv_store.specs.Standing.{StandsFor}
use Rattle.kv_store.specs.Stored.{Stored}
use Rattle.kv_model.specs.Given.{Item, AnEntry, EndMarker, matching, all_shown, given}
use Rattle.kv_model.specs.declared.options.Options.{Options}
use Rattle.kv_model.specs.Answers.{Answer}
use Rattle.kv_bucket.specs.Keeping.{RefusedSomewhere}
use Rattle.std.specs.List.{AllZip, filter_map, find, flat_map, range_with_len}
use Rattle.std.specs.List.Sorted.{IsPermutation}
use Rattle.std.specs.Result.{result_ok}
use Rattle.kv_race.specs.Watching.{reply_to}

-- what a request writes at a revision
abbrev pub written_by : Asked → ℕ → Write
written_by request revision = record {
  key = key_of request;
  op = op_of request;
  value = value_of request;
  revision = revision;
}

-- the accepted write of a revision, whatever was compacted since
abbrev pub accepted_at : ℕ → List Act → Option Write
accepted_at revision acts = find (λ w. w.revision == revision) (writes_of acts)

abbrev pub is_at : ℕ → Item → Bool
is_at revision (AnEntry entry) = entry.revision == revision
is_at revision EndMarker = false

-- what a watch shows of one write: its entry, or nothing where it does not match or is left out
abbrev pub shown_alone : List (List ℕ) → Options → Write → List Item
shown_alone filters options w = all_shown options (matching filters (w ∷ []))

-- where a request was answered by a revision, the items of that revision are what the watch shows of the request's own
-- write: one entry or none, and nothing else
abbrev pub IsSeen : List (List ℕ) → Options → List Item → Asked → Result ℕ KvError → Type 0
IsSeen filters options items request (Ok revision) = filter (is_at revision) items ≡ shown_alone filters options
    (written_by request revision)
IsSeen filters options items request (Err error) = ⊤

-- where a request was answered by a revision, the write of that revision is the request's own; a refusal is one that
-- the rules give after some lawful acts, or memory ran out
abbrev pub IsWritten : Configuration → List Act → Asked → Result ℕ KvError → Type 0
IsWritten config acts request (Ok revision) = accepted_at revision acts ≡ Some (written_by request revision)
IsWritten config acts request (Err error) = RefusedSomewhere config request error

-- each worker has one reply to each request of its script, in order, which fits
abbrev pub EachReply : (Asked → Result ℕ KvError → Type 0) → List (List Asked) → List (List (Result ℕ KvError)) → Type 0
EachReply P scripts replies = AllZip (AllZip P) scripts replies

-- the revisions that were answered, worker by worker
abbrev pub revisions_in : List (List (Result ℕ KvError)) → List ℕ
revisions_in replies = flat_map (filter_map result_ok) replies

-- the revisions that were answered are those of so many writes: 1, 2 and so on, each once, in some order
abbrev pub AreNumbered : List (List (Result ℕ KvError)) → ℕ → Type 0
AreNumbered replies writes = IsPermutation (revisions_in replies) (range_with_len 1 writes)

-- what a watch saw, which began on the empty bucket: all that it is given by these acts; and of each reply's write just
-- what it shows of it
pub record IsWatched (config : Configuration) (acts : List Act) (scripts : List (List Asked))
    (replies : List (List (Result ℕ KvError))) (watch : List (List ℕ) × Options) (seen : List Answer) : Type 0 where
  pub all : seen ≡ map reply_to (given config.history [] acts watch.0 watch.1)
  pub once : EachReply (IsSeen watch.0 watch.1 (given config.history [] acts watch.0 watch.1)) scripts replies

-- a race: one reply for each request, one list of items for each watch, and one list of acts. The last version stands
-- for it. Its writes are those of the replies, each once and no other, and each watch saw all that it is given by it
pub record IsRaced (config : Configuration) (scripts : List (List Asked)) (watches : List (List (List ℕ) × Options))
    (replies : List (List (Result ℕ KvError))) (seen : List (List Answer)) (version : Stored) : Type 0 where
  pub same_config : version.config ≡ config
  pub acts : List Act
  pub stands : StandsFor acts version
  pub numbered : AreNumbered replies (length (writes_of acts))
  pub written : EachReply (IsWritten config acts) scripts replies
  pub watched : AllZip (IsWatched config acts scripts replies) watches seen
