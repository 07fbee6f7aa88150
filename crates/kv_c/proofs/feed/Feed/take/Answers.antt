use Rattle.std.proofs.Common.{rules}
use Rattle.kv_c.specs.contracts.feed.Feed.{the_view}
use Rattle.kv_watch.specs.Taking.{item_taken}
use Rattle.kv_c.proofs.Feeding.{handed_next}
use Rattle.kv_c.proofs.feed.Feed.take.Goals as goal

pub returns-then-done-eq0-clause-taken : goal.returns-then-done-eq0-clause-taken
returns-then-done-eq0-clause-taken c = rw (← c.self.view_is) (λ done. handed_next (the_view c.self.inside)
    (the_view (record { present = c.self.inside.present; watch = c.pass.new.self }))
    (item_taken c.peek-taken.result) c.hand-done.new.item c.hand-done.new.keys c.hand-done.new.values
    c.peek-taken.ensures (search rules) (search rules) c.pass.ensures.moves)
