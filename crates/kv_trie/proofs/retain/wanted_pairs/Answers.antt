use Rattle.std.proofs.Common.{◌∙◌, sym, ap}
use Rattle.std.specs.List.{filter}
use Rattle.kv_trie.specs.Retain.{is_wanted}
use Rattle.kv_trie.proofs.Retaining.{stays_here, kept_more, kept_less, taken_all}
use Rattle.kv_trie.proofs.retain.wanted_pairs.Goals as goal
use Rattle.kv_trie.proofs.retain.wanted_pairs.Goals.{then-stays+in_ok-try_clone+in_ok-push, else-stays}

pub loop-at-preserved : goal.loop-at-preserved
loop-at-preserved g c =
    let keep = is_wanted (g.W.Wants.wanted c.args.wants.now) in
    let xs = c.args.pairs.now in
    let at = c.loop-at.at in
    let a = c.index-pairs-at.result in
    let is = sym (stays_here keep xs at c.loop-at-test.true a c.index-pairs-at.is c.args.first c.requires) ∙ rw c.deref.ensures at (sym c.stays.ensures) in
    elim c.if-stays.branch [
      | then-stays+in_ok-try_clone+in_ok-push w ↦
          kept_more keep xs at c.loop-at-test.true a c.index-pairs-at.is c.loop-at.kept.items c.if-stays.kept.items w.in_ok-try_clone.field-0 c.loop-at.invariant (is ∙ w.if-stays.true) w.in_ok-try_clone.ensures (ap (λ v. v.items) w.kept-is ∙ w.in_ok-push.ensures.items)
      | else-stays w ↦
          rw w.kept-is (kept_less keep xs at c.loop-at-test.true a c.index-pairs-at.is c.loop-at.kept.items c.loop-at.invariant (is ∙ w.if-stays.false))
    ]

pub returns : goal.returns
returns g c =
    let keep = is_wanted (g.W.Wants.wanted c.args.wants.now) in
    c.loop-at.invariant ∙ ap (filter keep) (taken_all keep c.args.pairs.now c.loop-at.at c.loop-at-test.false)
