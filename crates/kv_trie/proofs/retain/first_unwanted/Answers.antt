use Rattle.std.proofs.Common.{sym}
use Rattle.kv_trie.specs.Retain.{is_wanted}
use Rattle.kv_trie.proofs.Retaining.{wanted_more, unwanted_at, taken_all}
use Rattle.kv_trie.proofs.retain.first_unwanted.Goals as goal

pub returns-then-not-wants : goal.returns-then-not-wants
returns-then-not-wants g c =
    unwanted_at (is_wanted (g.W.Wants.wanted c.args.wants.now)) c.args.pairs.now c.loop-at.at c.loop-at-test.true c.index-pairs-at.result c.index-pairs-at.is c.loop-at.invariant (rw (c.deref.ensures, c.deref-in-loop-at.ensures) at (sym c.if-not-wants.ensures))

pub loop-at-preserved : goal.loop-at-preserved
loop-at-preserved g c =
    wanted_more (is_wanted (g.W.Wants.wanted c.args.wants.now)) c.args.pairs.now c.loop-at.at c.loop-at-test.true c.index-pairs-at.result c.index-pairs-at.is c.loop-at.invariant (rw (c.deref.ensures, c.deref-in-loop-at.ensures) at (sym c.if-not-wants.ensures))

pub returns : goal.returns
returns g c = rw (taken_all (is_wanted (g.W.Wants.wanted c.args.wants.now)) c.args.pairs.now c.loop-at.at c.loop-at-test.false) at c.loop-at.invariant
