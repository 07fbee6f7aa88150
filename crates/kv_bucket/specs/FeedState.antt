-- What a contract sees of a feed, and what its calls do to it.
use Rattle.std.specs.Prelude.{◌≡◌, ℕ, ◌+◌, ◌<◌, ◌≤◌, ◌⊎◌, Bool, true, false, ◌||◌, nat_lt, List, [], ◌∷◌, Option, Some, None, take, length, slice_get}
use Rattle.std.specs.List.{filter_map}
use Rattle.kv_keys.specs.declared.error.KvError.{KvError}
use Rattle.kv_keys.specs.declared.error.KvError.TheVariants.{Lagged, NoReader, OutOfMemory}
use Rattle.kv_model.specs.Acts.{Act, IsPrefix, floor_of, writes_of}
use Rattle.kv_model.specs.declared.options.Options.{Options}
use Rattle.kv_model.specs.Given.{Item, given, is_behind}
use Rattle.kv_bucket.specs.ReaderState.{ReaderState}

-- a feed: its reader, the acts when it was opened, those that its version stands for, what it matches and how it shows
-- it, and how many items it handed out
pub record FeedState : Type 0 where
  pub reader : ReaderState
  pub began : List Act
  pub acts : List Act
  pub filters : List (List ℕ)
  pub options : Options
  pub handed : ℕ

-- all that it is given by the acts that its version stands for
abbrev pub given_by : FeedState → List Item
given_by feed = given feed.reader.config.history feed.began feed.acts feed.filters feed.options

-- the item that it hands out next, if any
abbrev pub next_of : FeedState → Option Item
next_of feed = slice_get (given_by feed) feed.handed

-- a feed lags behind a floor where the floor is above the last revision of the feed's acts, or a live item at or below
-- it is still to be handed out
abbrev pub lags : ℕ → FeedState → Bool
lags floor feed = nat_lt (length (writes_of feed.acts)) floor
    || is_behind floor feed.handed feed.reader.config.history feed.began feed.acts feed.filters feed.options

-- a reader has seen more, or as much as before; nothing else of it changed
abbrev pub HasSeenMore : ReaderState → ReaderState → Type 0
HasSeenMore before after = IsPrefix before.seen after.seen × (after.told ≡ before.told) × (after.config ≡ before.config)

-- a feed went on to all that its reader has seen by now, which begins with the feed's former acts and with all that the
-- reader was told of; nothing else of it changed
pub record IsRefreshed (before after : FeedState) : Type 0 where
  pub reader : HasSeenMore before.reader after.reader
  pub grows : IsPrefix before.acts after.acts
  pub told : IsPrefix before.reader.told after.acts
  pub same : after ≡ record before { reader = after.reader; acts = after.reader.seen }

-- a feed stays where it is, though its reader may have seen more
pub record IsNotRefreshed (before after : FeedState) : Type 0 where
  pub reader : HasSeenMore before.reader after.reader
  pub same : after ≡ record before { reader = after.reader }

-- why a feed stays where it is: nowhere was its reader let enter; or it lags behind the floor of what its reader has seen by
-- now; or memory was refused, where it doesn't
abbrev pub IsStopped : FeedState → FeedState → KvError → Type 0
IsStopped before after error =
    (error ≡ NoReader)
    ⊎ (((error ≡ Lagged (floor_of after.reader.seen)) × (lags (floor_of after.reader.seen) before ≡ true))
    ⊎ ((error ≡ OutOfMemory) × (lags (floor_of after.reader.seen) before ≡ false)))

-- what was told was added to what its reader knows; nothing else of it changed
pub record HasLearned (told : List Act) (before after : FeedState) : Type 0 where
  pub config : after.reader.config ≡ before.reader.config
  pub seen : after.reader.seen ≡ before.reader.seen
  pub former : IsPrefix before.reader.told after.reader.told
  pub learned : IsPrefix told after.reader.told
  pub same : after ≡ record before { reader = after.reader }

-- a feed counts an item that it handed out
abbrev pub after_item : FeedState → Option Item → FeedState
after_item feed None = feed
after_item feed (Some item) = record feed { handed = feed.handed + 1 }

-- a feed went on by refreshes, accepted or refused: to acts that begin with all that its reader was told of, if it went
-- on at all; nothing else of it changed
pub record WentOn (before after : FeedState) : Type 0 where
  pub reader : HasSeenMore before.reader after.reader
  pub grows : IsPrefix before.acts after.acts
  pub told : IsPrefix before.reader.told after.acts ⊎ (after.acts ≡ before.acts)
  pub same : after ≡ record before { reader = after.reader; acts = after.acts }

-- a feed went on, and handed out the next item of what it is given by the acts that it went on to
pub record HandsNext (before : FeedState) (item : Option Item) (after : FeedState) : Type 0 where
  pub went : FeedState
  pub goes : WentOn before went
  pub value : item ≡ next_of went
  pub counts : after ≡ after_item went item

-- a call on a feed, and what it handed out: a refresh that was accepted or refused, a receipt that was learned, a take,
-- or a `next`, which handed out an item or was refused
abbrev pub IsStep : FeedState → Option Item → FeedState → Type 0
IsStep before item after =
    ((item ≡ None) × IsRefreshed before after)
    ⊎ (((item ≡ None) × IsNotRefreshed before after)
    ⊎ (((item ≡ None) × ((told : List Act) × HasLearned told before after))
    ⊎ (((item ≡ next_of before) × (after ≡ after_item before item))
    ⊎ (HandsNext before item after
    ⊎ ((item ≡ None) × WentOn before after)))))

-- a feed went on to acts that begin with all that its reader was told of: by a refresh that was accepted, or by at
-- least one act
abbrev pub HasGoneOn : FeedState → FeedState → Type 0
HasGoneOn before after = IsRefreshed before after ⊎ (WentOn before after × (length before.acts < length after.acts))

-- one of many calls: what it handed out, and the feed after it
pub record Step : Type 0 where
  pub item : Option Item
  pub after : FeedState

-- calls in a row, each on the feed that the one before it left
abbrev pub IsRun : FeedState → List Step → Type 0
IsRun feed [] = Unit {0}
IsRun feed (step ∷ steps) = IsStep feed step.item step.after × IsRun step.after steps

abbrev pub last_of : FeedState → List Step → FeedState
last_of feed [] = feed
last_of feed (step ∷ steps) = last_of step.after steps

-- what the calls handed out, in order
abbrev pub items_of : List Step → List Item
items_of steps = filter_map (λ step. step.item) steps

-- the watch theorem for a feed: what it handed out are, in order, the first items of what it is given from its
-- beginning by the acts that it last went on to, and it counts them
pub record HandsOut (feed : FeedState) (items : List Item) : Type 0 where
  pub prefix : IsPrefix feed.began feed.acts
  pub within : feed.handed ≤ length (given_by feed)
  pub first : items ≡ take feed.handed (given_by feed)
