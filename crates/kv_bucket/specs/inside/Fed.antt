-- What a feed keeps.
use Rattle.std.specs.Prelude.{◌≡◌, ℕ, Bool, true, false, List, Option, Some, None, ◌⊎◌}
use Rattle.kv_keys.specs.declared.error.KvError.{KvError}
use Rattle.kv_keys.specs.declared.error.KvError.TheVariants.{Lagged, NoReader, OutOfMemory}
use Rattle.kv_model.specs.Acts.{Act, IsPrefix, floor_of}
use Rattle.kv_model.specs.Configuration.{Configuration}
use Rattle.kv_model.specs.declared.options.Options.{Options}
use Rattle.kv_watch.specs.Following.{Following}
use Rattle.kv_watch.specs.Watching.{Watching, HasHanded}
use Rattle.kv_bucket.specs.FeedState.{FeedState, lags}
use Rattle.kv_bucket.specs.ReaderState.{ReaderState}
use Rattle.kv_publish.specs.Publications.{Published}

-- the acts that a publication's version stands for
abbrev pub acts_on : Published → List Act
acts_on publication = publication.raw_prefix.acts

-- the watch of a feed follows from these acts of its beginning to those that the feed went on to, under this configuration,
-- which is its reader's; its reader has seen what it went on to
pub record IsFed (config : Configuration) (reader : ReaderState) (began : List Act) (current : Published) (watch : Watching) : Type 0 where
  pub same_config : watch.opening.config ≡ config
  pub of : reader.config ≡ config
  pub seen : IsPrefix (acts_on current) reader.seen
  pub reach : HasHanded began (acts_on current) watch.cursor.handed current.version watch

abbrev pub feed_state_of : ReaderState → List Act → Published → Following → FeedState
feed_state_of reader began current cursor = record {
  reader = reader;
  began = began;
  acts = acts_on current;
  filters = cursor.filters;
  options = cursor.options;
  handed = cursor.handed;
}

-- a feed that begins with these acts and has handed out nothing
abbrev pub opened : ReaderState → List Act → List (List ℕ) → Options → FeedState
opened reader acts filters options = record {
  reader = reader;
  began = acts;
  acts = acts;
  filters = filters;
  options = options;
  handed = 0;
}

-- whether a feed that is on this publication with this watch lags behind a floor
abbrev pub TellsLag : Published → Watching → ℕ → Bool → Type 0
TellsLag current watch floor answer = (feed : FeedState) → feed.reader.config ≡ watch.opening.config →
    feed.acts ≡ acts_on current → feed.filters ≡ watch.cursor.filters → feed.options ≡ watch.cursor.options →
    HasHanded feed.began feed.acts feed.handed current.version watch → answer ≡ lags floor feed

-- the same where there may be no feed, which lags behind nothing
abbrev pub TellsLagOf : Option (Published × Watching) → ℕ → Bool → Type 0
TellsLagOf None floor answer = answer ≡ false
TellsLagOf (Some feed) floor answer = TellsLag feed.0 feed.1 floor answer

-- why what its reader entered on was not handed over to a feed, if any: it lags behind the floor of these acts, which are
-- published; or memory was refused, where it doesn't
abbrev pub IsNotCopied : Option (Published × Watching) → List Act → KvError → Type 0
IsNotCopied feed acts error =
    ((error ≡ Lagged (floor_of acts)) × TellsLagOf feed (floor_of acts) true)
    ⊎ ((error ≡ OutOfMemory) × TellsLagOf feed (floor_of acts) false)

-- why nothing was handed over to a feed, if any, when its reader has seen these acts: nowhere was its reader let enter; or
-- it was, and there is the other cause
abbrev pub IsNotShown : Option (Published × Watching) → List Act → KvError → Type 0
IsNotShown feed seen error = (error ≡ NoReader) ⊎ IsNotCopied feed seen error
