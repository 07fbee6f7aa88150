-- Several requests in one step: all of them are accepted, one after the other, or none.
use Rattle.std.specs.Prelude.{◌≡◌, ℕ, ◌+◌, List, [], ◌∷◌, ◌++◌, Result, Ok, Err, Some, length, map, take, slice_get}
use Rattle.kv_keys.specs.Outcome.{Refuses}
use Rattle.kv_keys.specs.declared.error.KvError.{KvError}
use Rattle.kv_model.specs.Acceptance.{accept}
use Rattle.kv_model.specs.Acts.{Act, Wrote, Write, writes_of}
use Rattle.kv_model.specs.Configuration.{Configuration}
use Rattle.kv_model.specs.Requests.{Asked}
use Rattle.kv_model.specs.State.{State}
use Rattle.kv_model.specs.declared.batch.BatchRefused.{BatchRefused}

-- what follows an accepted write: the writes of the rest behind it; or the refusal of the rest, whose index is one further
abbrev pub behind_one : Write → Result (List Write) BatchRefused → Result (List Write) BatchRefused
behind_one w (Ok ws) = Ok (w ∷ ws)
behind_one w (Err refused) = Err (record { at = refused.at + 1; error = refused.error })

abbrev pub and_rest : Result Write KvError → (Write → Result (List Write) BatchRefused) → Result (List Write) BatchRefused
and_rest (Err error) rest = Err (record { at = 0; error = error })
and_rest (Ok w) rest = behind_one w (rest w)

-- the writes that requests append, each judged behind those before it, or the first refusal and its index from 0
abbrev pub accept_all : Configuration → List Asked → List Act → Result (List Write) BatchRefused
accept_all config [] acts = Ok []
accept_all config (asked ∷ more) acts = and_rest (accept config asked acts)
    (λ w. accept_all config more (acts ++ Wrote w ∷ []))

-- the acts with these writes behind them, one act for each
abbrev pub after_all : List Act → List Write → List Act
after_all acts ws = acts ++ map Wrote ws

-- what an accepted batch is answered: the revision of its first write, or the last so far where it has none
abbrev pub first_revision : List Act → List Write → ℕ
first_revision acts [] = length (writes_of acts)
first_revision acts (w ∷ ws) = w.revision

-- a batch that is refused changes nothing
abbrev pub after_batch : State → Result (List Write) BatchRefused → State
after_batch s (Err refused) = s
after_batch s (Ok ws) = record s { acts = after_all s.acts ws }

-- a batch is refused at one of its requests: those before it are accepted, and behind them it is refused as the rules
-- say; want of memory only where they accept it too
pub record IsRefusedAt (config : Configuration) (requests : List Asked) (acts : List Act) (refused : BatchRefused) : Type 0 where
  pub request : Asked
  pub is : slice_get requests refused.at ≡ Some request
  pub before : List Write
  pub accepted : accept_all config (take refused.at requests) acts ≡ Ok before
  pub refuses : Refuses refused.error (accept config request (after_all acts before))
