use Rattle.std.proofs.Common.{Some, None, append-nil, sym}
use Rattle.kv_trie.specs.Numbered.{lent}
use Rattle.kv_store.proofs.LookingUp.{one_more_key}
use Rattle.kv_store.proofs.listing.last_looked_up.Goals as goal
use Rattle.kv_store.proofs.listing.last_looked_up.Goals.{in-Some+in_ok-add_last, in_default}

pub loop-key-preserved : goal.loop-key-preserved
loop-key-preserved c =
    let es = c.args.by_key.now in
    let keys = c.args.keys.now in
    let i = c.loop-key.key-index in
    let before = lent c.loop-key.found.items in
    elim c.match-get.branch [
      | in-Some+in_ok-add_last w ↦ rw w.found-is (one_more_key es keys i c.key-item.result (Some w.in-Some.kept.now) before (lent w.add_last.new.found.items) c.loop-key-test.true c.key-item.is w.in-Some.ensures c.loop-key.invariant w.in_ok-add_last.ensures)
      | in_default w ↦ rw w.found-is (one_more_key es keys i c.key-item.result None before before c.loop-key-test.true c.key-item.is w.in_default.ensures c.loop-key.invariant (sym (append-nil before)))
    ]
