use Rattle.std.proofs.Common.{ℕ, ◌+◌, ◌∙◌, ap, subst}
use Rattle.std.specs.List.{slice_get}
use Rattle.std.specs.Option.{option_len}
use Rattle.kv_watch.specs.Following.{InReach, given_to}
use Rattle.kv_watch.proofs.Passing.{as_many}
use Rattle.kv_watch.proofs.cursor.Cursor.pass.Goals as goal

pub returns-clause-in_reach : goal.returns-clause-in_reach
returns-clause-in_reach c = λ n began acts base at.
    let item = slice_get (given_to base.config.history began acts c.args.self.now) n in
    let event = c.next_event-next.ensures n began acts base at in
    subst (λ (k : ℕ). InReach began acts (n + k) base c.args.now.now c.step_behind.new.self) (ap option_len event ∙ as_many item)
    (c.step_behind.ensures.in_reach n began acts base at event)
