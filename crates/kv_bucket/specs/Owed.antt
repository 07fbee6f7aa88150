-- What a feed owes of a write that it was told of.
use Rattle.std.specs.Prelude.{◌≡◌, ℕ, ◌<◌, ◌==◌, Bool, true, false, List, [], ◌∷◌, ◌++◌, length, filter}
use Rattle.kv_model.specs.Acts.{Act, Wrote, Write, IsPrefix, writes_of}
use Rattle.kv_model.specs.Given.{Item, AnEntry, EndMarker, entry_of}
use Rattle.kv_model.specs.further.Showing.{is_shown}
use Rattle.kv_bucket.specs.FeedState.{FeedState}

abbrev pub is_of : ℕ → Item → Bool
is_of revision (AnEntry entry) = entry.revision == revision
is_of revision EndMarker = false

-- the entries of a revision among the items
abbrev pub items_of_revision : ℕ → List Item → List Item
items_of_revision revision items = filter (is_of revision) items

-- a feed owes a write that is the last of acts which it went on to, where it is live for the feed (behind the writes of
-- its beginning), it matches, and it is shown
pub record Owes (feed : FeedState) (told : List Act) (w : Write) : Type 0 where
  pub reached : IsPrefix (told ++ Wrote w ∷ []) feed.acts
  pub live : length (writes_of feed.began) < w.revision
  pub shown : is_shown feed.filters feed.options w ≡ true

-- the write is among the items exactly once, as the feed shows it
abbrev pub HasOnce : FeedState → Write → List Item → Type 0
HasOnce feed w items = items_of_revision w.revision items ≡ AnEntry (entry_of feed.options.headers_only w) ∷ []
