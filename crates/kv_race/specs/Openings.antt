-- Which races there are, and how their watches begin.
use Rattle.std.specs.Prelude.{◌≡◌, ◌⊎◌, ℕ, ◌&&◌, nat_le, if◌then◌else◌, List, [], Result, Ok, Err, IsOk}
use Rattle.kv_keys.specs.Outcome.{Refuses}
use Rattle.kv_keys.specs.declared.error.KvError.{KvError}
use Rattle.kv_keys.specs.declared.error.KvError.TheVariants.{BadConfig, NoReader}
use Rattle.kv_model.specs.Configuration.{Configuration, configure}
use Rattle.kv_model.specs.declared.options.Options.{Options}
use Rattle.kv_bucket.specs.FeedState.{FeedState}

-- a race has 1 to 16 workers and at most 32 watches
abbrev pub for_race : ℕ → ℕ → Configuration → Result Configuration KvError
for_race workers watches config =
    if nat_le 1 workers && nat_le workers 16 then (if nat_le watches 32 then Ok config else Err NoReader) else
    Err BadConfig

abbrev pub then_race : ℕ → ℕ → Result Configuration KvError → Result Configuration KvError
then_race workers watches (Ok config) = for_race workers watches config
then_race workers watches (Err error) = Err error

-- the refusal of a race: that of its configuration first, then that of the number of workers, then that of the watches
abbrev pub may_race : Configuration → ℕ → ℕ → Result Configuration KvError
may_race config workers watches = then_race workers watches (configure config)

-- the error is that refusal; where there is none, memory ran out, or the store let no reader enter
abbrev pub RefusesRace : KvError → Result Configuration KvError → Type 0
RefusesRace error outcome = Refuses error outcome ⊎ ((error ≡ NoReader) × IsOk outcome)

-- a feed of a watch that began on the empty bucket of this configuration and has handed out nothing
pub record IsFresh (config : Configuration) (watch : List (List ℕ) × Options) (feed : FeedState) : Type 0 where
  pub same_config : feed.reader.config ≡ config
  pub began : feed.began ≡ []
  pub filters : feed.filters ≡ watch.0
  pub options : feed.options ≡ watch.1
  pub handed : feed.handed ≡ 0
