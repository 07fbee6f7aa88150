-- Where a cursor stands in what its watch is given.
use Rattle.std.specs.Prelude.{◌≡◌, ℕ, suc, ◌+◌, ◌-◌, ◌^◌, ◌≤◌, Bool, true, false, nat_lt, min, List, [], ◌∷◌, length, drop, filter, take, Option, Some, None, unwrap_or}
use Rattle.std.specs.List.{last_or}
use Rattle.kv_model.specs.Acts.{Act, IsPrefix, writes_of}
use Rattle.kv_store.specs.Standing.{StandsFor}
use Rattle.kv_store.specs.Stored.{Stored}
use Rattle.kv_model.specs.declared.event.Event.{Event}
use Rattle.kv_model.specs.declared.event.Event.TheVariants as events
use Rattle.kv_model.specs.declared.options.Options.{Options}
use Rattle.kv_model.specs.Given.{Item, EndMarker, matching, all_shown, initial, ending, given, is_behind, item_revisions}

-- what a cursor keeps: which initial entries it still owes, by their revisions, and whether it owes the end marker; up
-- to which revision it has looked at live writes; one more than the revision of the last live entry that it handed out;
-- and how many items it handed out
pub record Following : Type 0 where
  pub filters : List (List ℕ)
  pub options : Options
  pub owed : List ℕ
  pub marker : Bool
  pub seen : ℕ
  pub next : ℕ
  pub handed : ℕ

-- all that the watch of a cursor is given
abbrev pub given_to : ℕ → List Act → List Act → Following → List Item
given_to h began acts cursor = given h began acts cursor.filters cursor.options

-- of it, the initial entries
abbrev pub initial_to : ℕ → List Act → Following → List Item
initial_to h began cursor = all_shown cursor.options (matching cursor.filters (initial h cursor.options.start began))

-- the live entries
abbrev pub live_to : List Act → List Act → Following → List Item
live_to began acts cursor = all_shown cursor.options
    (matching cursor.filters (drop (length (writes_of began)) (writes_of acts)))

-- and of n items the number of live ones: those behind the initial entries and the end marker
abbrev pub live_count : ℕ → List Act → ℕ → Following → ℕ
live_count h began n cursor = n - length (initial_to h began cursor) - length (ending cursor.options.start)

-- one more than the revision of the last live entry among the first n items; where there is none, one more than the
-- last revision of the beginning
abbrev pub next_behind : ℕ → List Act → List Act → ℕ → Following → ℕ
next_behind h began acts n cursor = suc (unwrap_or
    (last_or None (item_revisions (take (live_count h began n cursor) (live_to began acts cursor))))
    (length (writes_of began)))

-- the end marker, if it is owed
abbrev pub marker_if : Bool → List Item
marker_if true = EndMarker ∷ []
marker_if false = []

-- what is shown of the writes behind a revision
abbrev pub shown_behind : ℕ → List Act → List (List ℕ) → Options → List Item
shown_behind revision acts filters options = all_shown options
    (matching filters (filter (λ w. nat_lt revision w.revision) (writes_of acts)))

-- a cursor that handed out n items is in place by the acts of its watch's beginning and the present ones, for versions
-- that stand for them: it owes the initial entries that are not among the first n items, the end marker if it isn't,
-- and of the live entries all but the first ones; of those its next revision is one behind the last, and perhaps it has
-- looked further
pub record InPlace (began acts : List Act) (n : ℕ) (base now : Stored) (cursor : Following) : Type 0 where
  pub base_stands : StandsFor began base
  pub now_stands : StandsFor acts now
  pub same_config : now.config ≡ base.config
  pub prefix : IsPrefix began acts
  pub handed : cursor.handed ≡ n
  pub taken : n ≤ length (given_to base.config.history began acts cursor)
  pub owed : cursor.owed ≡ item_revisions (drop n (initial_to base.config.history began cursor))
  pub marker : marker_if cursor.marker ≡ drop (n - length (initial_to base.config.history began cursor))
      (ending cursor.options.start)
  pub left : shown_behind cursor.seen acts cursor.filters cursor.options ≡ drop
      (live_count base.config.history began n cursor) (live_to began acts cursor)
  pub begun : length (writes_of began) ≤ cursor.seen
  pub seen : cursor.seen ≤ length (writes_of acts)
  pub next : cursor.next ≡ next_behind base.config.history began acts n cursor

-- a cursor is in reach where it is in place, and no live item at or below the floor of the present version is still to
-- be handed out
pub record InReach (began acts : List Act) (n : ℕ) (base now : Stored) (cursor : Following) : Type 0 where
  pub place : InPlace began acts n base now cursor
  pub ahead : is_behind now.floor n base.config.history began acts cursor.filters cursor.options ≡ false

-- the version of a watch's opening, as it is given to its cursor: it may be left out once no initial entry is owed
abbrev pub IsOpening : Option Stored → Stored → Following → Type 0
IsOpening (Some base) opening cursor = base ≡ opening
IsOpening None opening cursor = cursor.owed ≡ []

-- one more, within 64 bits
abbrev pub one_more : ℕ → ℕ
one_more n = min (n + 1) (2 ^ 64 - 1)

-- a cursor behind an entry: an initial one as long as any is owed, else a live one
abbrev pub behind_entry : ℕ → List ℕ → Following → Following
behind_entry revision (r ∷ owed) cursor = record cursor { owed = owed; handed = one_more cursor.handed }
behind_entry revision [] cursor = record cursor {
  seen = revision;
  next = one_more revision;
  handed = one_more cursor.handed;
}

-- a cursor behind the item that was its next one, of which this is the event
abbrev pub behind : Event → Following → Following
behind events.Marker cursor = record cursor { marker = false; handed = one_more cursor.handed }
behind (events.Entry revision) cursor = behind_entry revision cursor.owed cursor
