use Rattle.std.proofs.Common.{sym, subst}
use Rattle.kv_bucket.specs.FeedState.{WentOn}
use Rattle.kv_bucket.proofs.Going.{went_nowhere, went_further, went_by_refresh, went_by_refusal}
use Rattle.kv_bucket.proofs.feed.Feed.go_on.Goals as goal

pub loop-init : goal.loop-init
loop-init g c = went_nowhere c.args.self.now

pub returns-then-settle-clause-goes : goal.returns-then-settle-clause-goes
returns-then-settle-clause-goes g c = subst (λ feed. WentOn c.args.self.now feed) (sym c.settle.ensures.same) c.loop.invariant

pub loop-preserved : goal.loop-preserved
loop-preserved g c =
    went_further c.args.self.now c.loop.self c.refresh.new.self c.loop.invariant
    (subst (λ feed. WentOn feed c.refresh.new.self) c.settle.ensures.same
    (went_by_refresh c.settle.new.self c.refresh.new.self c.in_ok-refresh-in-Changed.ensures.ok))

pub returns-in_err-refresh-in-Changed-clause-goes : goal.returns-in_err-refresh-in-Changed-clause-goes
returns-in_err-refresh-in-Changed-clause-goes g c =
    went_further c.args.self.now c.loop.self c.refresh.new.self c.loop.invariant
    (subst (λ feed. WentOn feed c.refresh.new.self) c.settle.ensures.same
    (went_by_refusal c.settle.new.self c.refresh.new.self c.in_err-refresh-in-Changed.ensures.refused.1))

pub returns-in-Closed-clause-goes : goal.returns-in-Closed-clause-goes
returns-in-Closed-clause-goes g c = subst (λ feed. WentOn c.args.self.now feed) (sym c.settle.ensures.same) c.loop.invariant
