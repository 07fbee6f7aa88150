-- What the threads of a race hand on.
use Rattle.std.specs.Prelude.{◌≡◌, ℕ, List, Result, Ok, Err, IfOk, All, take}
use Rattle.kv_keys.specs.declared.error.KvError.{KvError}
use Rattle.kv_model.specs.Acts.{Act, IsPrefix}
use Rattle.kv_model.specs.Configuration.{Configuration}
use Rattle.kv_model.specs.Requests.{Asked}
use Rattle.kv_store.specs.Standing.{StandsFor}
use Rattle.kv_store.specs.Stored.{Stored}
use Rattle.kv_single.specs.declared.reply.Reply.{Reply}
use Rattle.kv_bucket.specs.Keeping.{PublishesWrite, RefusedSomewhere}
use Rattle.kv_bucket.specs.FeedState.{FeedState, given_by}
use Rattle.kv_race.specs.Watching.{Are}

-- what a worker was answered: the revision with the acts that its receipt tells, or the refusal
abbrev pub Answered : Type 0
Answered = Result (ℕ × List Act) KvError

-- an accepted request was published at the revision answered, and the receipt tells the acts up to its write; a refused
-- one was refused by the rules after some lawful acts
abbrev pub IsTold : Configuration → Asked → Answered → Type 0
IsTold config request (Ok told) = (before : List Act) × PublishesWrite config request told.0 before told.1
IsTold config request (Err error) = RefusedSomewhere config request error

-- the answer without its receipt
abbrev pub reply_of : Answered → Result ℕ KvError
reply_of (Ok told) = Ok told.0
reply_of (Err error) = Err error

-- the acts begin with those that the receipts of these answers tell
abbrev pub Begin : List Act → List Answered → Type 0
Begin acts answers = All (λ answer. IfOk answer (λ told. IsPrefix told.1 acts)) answers

-- a feed was followed: it is the same watch, and where it had handed out nothing, all that it has handed out by now was
-- written down
pub record IsFollowed (before after : FeedState) (seen : List Reply) : Type 0 where
  pub config : after.reader.config ≡ before.reader.config
  pub began : after.began ≡ before.began
  pub filters : after.filters ≡ before.filters
  pub options : after.options ≡ before.options
  pub written : before.handed ≡ 0 → Are seen (take after.handed (given_by after))

-- the acts begin with those that all receipts tell
abbrev pub BeginAll : List Act → List (List Answered) → Type 0
BeginAll acts answers = All (λ some. Begin acts some) answers

-- a version stands for acts that begin with those that all receipts tell
pub record IsShown (config : Configuration) (answers : List (List Answered)) (acts : List Act)
    (version : Stored) : Type 0 where
  pub same_config : version.config ≡ config
  pub stands : StandsFor acts version
  pub told : BeginAll acts answers

-- a watch has ended with a version: where all that it had handed out was written down, all that it is given by the
-- version's acts is now
pub record IsEnded (config : Configuration) (answers : List (List Answered)) (feed : FeedState) (before : List Reply)
    (acts : List Act) (version : Stored) (seen : List Reply) : Type 0 where
  pub shown : IsShown config answers acts version
  pub all : Are before (take feed.handed (given_by feed)) → Are seen (given_by (record feed { acts = acts }))

-- the last version: each of these has seen its acts, and nothing else
pub record HasLast (config : Configuration) (answers : List (List Answered)) (each : List (List Act))
    (version : Stored) : Type 0 where
  pub acts : List Act
  pub shown : IsShown config answers acts version
  pub same : All (λ seen. seen ≡ acts) each
