-- Batches in a script: what their lines ask for, and what comes of it.
use Rattle.std.specs.Prelude.{ℕ, ◌+◌, List, [], ◌∷◌, map, Result, Ok, Err}
use Rattle.kv_keys.specs.declared.error.KvError.{KvError}
use Rattle.kv_model.specs.Acts.{Write}
use Rattle.kv_model.specs.Batches.{accept_all}
use Rattle.kv_model.specs.Requests.{Asked}
use Rattle.kv_model.specs.State.{State}
use Rattle.kv_model.specs.declared.batch.BatchRefused.{BatchRefused}
use Rattle.kv_script.specs.Text.{batch_refusal_text, revisions_text}

-- what each of some lines asks for: a write, or else why it is refused
abbrev pub Asks : Type 0
Asks = List (Result Asked KvError)

abbrev pub behind_ask : Asked → Result (List Asked) BatchRefused → Result (List Asked) BatchRefused
behind_ask asked (Ok more) = Ok (asked ∷ more)
behind_ask asked (Err refused) = Err (record { at = refused.at + 1; error = refused.error })

-- the writes that lines ask for, or the first of them that asks for none: its index, from 0, and why
abbrev pub all_asked : Asks → Result (List Asked) BatchRefused
all_asked [] = Ok []
all_asked (Err error ∷ asks) = Err (record { at = 0; error = error })
all_asked (Ok asked ∷ asks) = behind_ask asked (all_asked asks)

-- where each line asks for a write, all are done in one step, or none; else none is done
abbrev pub outcome : State → Result (List Asked) BatchRefused → Result (List Write) BatchRefused
outcome s (Err refused) = Err refused
outcome s (Ok requests) = accept_all s.config requests s.acts

-- the one line that answers a batch: the revisions of all its writes, or a refusal with its number, from 1
abbrev pub outcome_text : Result (List Write) BatchRefused → List ℕ
outcome_text (Ok ws) = revisions_text (map (λ w. w.revision) ws)
outcome_text (Err refused) = batch_refusal_text (refused.at + 1) refused.error
