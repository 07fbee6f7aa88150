-- What is kept of a batch that has begun: in place of what each of its lines asks for, what all of them so far do.
use Rattle.std.specs.Prelude.{ℕ, List, [], ◌∷◌, ◌++◌, length, Option, Some, None, Result, Ok, Err}
use Rattle.kv_keys.specs.declared.error.KvError.{KvError}
use Rattle.kv_model.specs.Requests.{Asked}
use Rattle.kv_model.specs.declared.batch.BatchRefused.{BatchRefused}
use Rattle.kv_replay.specs.Batches.{all_asked}
use Rattle.kv_replay.specs.Sessions.{Begun}

-- how many lines are still to come, and the requests of those that came, or why they are refused
pub record Gathered : Type 0 where
  pub awaited : ℕ
  pub asked : Result (List Asked) BatchRefused

-- the requests, and why the line behind them is refused, where one is
abbrev pub asked_so_far : List Asked → Option KvError → Result (List Asked) BatchRefused
asked_so_far requests None = Ok requests
asked_so_far requests (Some error) = Err (record { at = length requests; error = error })

-- one line more; behind a refused one none counts
abbrev pub asked_more : Result (List Asked) BatchRefused → Result Asked KvError → Result (List Asked) BatchRefused
asked_more (Err refused) ask = Err refused
asked_more (Ok requests) (Ok asked) = Ok (requests ++ asked ∷ [])
asked_more (Ok requests) (Err error) = Err (record { at = length requests; error = error })

abbrev pub gathered : Begun → Gathered
gathered begun = record { awaited = begun.awaited; asked = all_asked begun.asks }
