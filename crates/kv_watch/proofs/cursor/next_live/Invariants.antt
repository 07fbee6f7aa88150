use Rattle.std.proofs.Common.{◌≡◌, ◌≤◌, List, max}
use Rattle.kv_model.specs.Acts.{Act}
use Rattle.kv_store.specs.Standing.{StandsFor}
use Rattle.kv_watch.specs.Following.{shown_behind}
use Rattle.kv_watch.proofs.cursor.next_live.Given as goal

abbrev pub invariant-loop-place : goal.invariant-loop-place
invariant-loop-place l = (acts : List Act) → StandsFor acts l.now → (shown_behind (max l.fn.seen l.now.floor) acts l.filters l.options ≡ shown_behind l.place acts l.filters l.options) × ((l.now.floor ≤ l.place) × (l.fn.seen ≤ l.place))
