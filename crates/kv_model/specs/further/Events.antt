-- Items by their revisions alone.
use Rattle.std.specs.Prelude.{Option, Some, None}
use Rattle.kv_model.specs.declared.event.Event.{Event}
use Rattle.kv_model.specs.declared.event.Event.TheVariants as events
use Rattle.kv_model.specs.Given.{Item, AnEntry, EndMarker}
use Rattle.kv_model.specs.Answers.{Answer, AnsweredEntry, Marker}

-- an item by its revision alone
abbrev pub event_of : Item → Event
event_of (AnEntry entry) = events.Entry entry.revision
event_of EndMarker = events.Marker

-- the item of an answer to a take, by its revision alone; none where the answer is Empty or a refusal
abbrev pub event_answered : Answer → Option Event
event_answered (AnsweredEntry entry) = Some (events.Entry entry.revision)
event_answered Marker = Some events.Marker
event_answered _ = None
