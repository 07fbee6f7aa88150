-- Writes as audits and cursors go through them.
use Rattle.std.specs.Prelude.{ℕ, Bool, false, List, map, filter}
use Rattle.std.specs.Borrow.{Bor}
use Rattle.std.specs.Option.{option_map_or}
use Rattle.kv_model.specs.Acts.{Act, Wrote, Write, is_put}
use Rattle.kv_model.specs.Given.{initial, matching}
use Rattle.kv_model.specs.declared.options.Start.{Start}
use Rattle.kv_store.specs.Stored.{Stored, write_at}
use Rattle.kv_model.specs.declared.event.Event.{Event}
use Rattle.kv_model.specs.declared.event.Event.TheVariants as events

-- the acts that are these writes
abbrev pub wrote_all : List (Bor Write) → List Act
wrote_all writes = map (λ w. Wrote w.now) writes

-- the events of the writes that pass a test
abbrev pub events_where : (Write → Bool) → List Write → List Event
events_where test ws = map (λ w. events.Entry w.revision) (filter test ws)

-- whether the write that is stored of a revision is a put
abbrev pub is_put_at : Stored → ℕ → Bool
is_put_at version revision = option_map_or (λ w. is_put w.op) (write_at revision version) false

-- the writes that a watch of these filters begins with
abbrev pub initial_matching : Stored → List (List ℕ) → Start → List Act → List Write
initial_matching base filters start acts = matching filters (initial base.config.history start acts)
