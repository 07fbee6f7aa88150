-- A watch in progress, and what it has handed out.
use Rattle.std.specs.Prelude.{◌≡◌, ◌+◌, ℕ, Bool, List, Option}
use Rattle.std.specs.List.{slice_get}
use Rattle.std.specs.Option.{option_len}
use Rattle.kv_model.specs.Acts.{Act}
use Rattle.kv_model.specs.Given.{Item}
use Rattle.kv_store.specs.Stored.{Stored}
use Rattle.kv_watch.specs.Following.{Following, InReach, given_to}

-- the version that it was opened on, whether it still keeps that, and its cursor
pub record Watching : Type 0 where
  pub opening : Stored
  pub keeps : Bool
  pub cursor : Following

-- by the acts of its beginning and the present ones it has handed out n items, and the present version has all that is
-- left
abbrev pub HasHanded : List Act → List Act → ℕ → Stored → Watching → Type 0
HasHanded began acts n now watch = InReach began acts n watch.opening now watch.cursor

-- all that it is given
abbrev pub all_given : List Act → List Act → Watching → List Item
all_given began acts watch = given_to watch.opening.config.history began acts watch.cursor

-- what it is given behind n items, if there is anything
abbrev pub item_behind : List Act → List Act → ℕ → Watching → Option Item
item_behind began acts n watch = slice_get (all_given began acts watch) n

-- it moved on behind an item, if there was one: it shows what it showed
pub record MovesOn (now : Stored) (old new : Watching) : Type 0 where
  pub opening : new.opening ≡ old.opening
  pub filters : new.cursor.filters ≡ old.cursor.filters
  pub options : new.cursor.options ≡ old.cursor.options
  pub moves : (n : ℕ) (began acts : List Act) → HasHanded began acts n now old →
      HasHanded began acts (n + option_len (item_behind began acts n old)) now new
