-- What a take hands out, as an item of what the watch is given.
use Rattle.std.specs.Prelude.{Bool, Option, Some, None}
use Rattle.kv_model.specs.Acts.{Write}
use Rattle.kv_watch.specs.declared.item.Shown.{Shown}
use Rattle.kv_watch.specs.declared.item.Taken.{Taken}
use Rattle.kv_watch.specs.declared.item.Taken.TheVariants as taken
use Rattle.kv_model.specs.Given.{Entry, Item, AnEntry, EndMarker, entry_of}

-- the entry that is lent of a write
abbrev pub entry_shown : Shown → Entry
entry_shown shown = entry_of shown.headers_only shown.write.now

-- the item that a take hands out; none where it is Empty
abbrev pub item_taken : Taken → Option Item
item_taken (taken.Entry shown) = Some (AnEntry (entry_shown shown))
item_taken taken.Marker = Some EndMarker
item_taken taken.Empty = None

-- the item of a write, if there is one
abbrev pub entry_item : Bool → Option Write → Option Item
entry_item headers_only (Some w) = Some (AnEntry (entry_of headers_only w))
entry_item headers_only None = None
