use Rattle.std.proofs.Common.{◌<◌, length, refl, ap, ◌∙◌, arith}
use Rattle.kv_trie.specs.Form.{with_or_without}
use Rattle.kv_trie.specs.Stored.{shape_of}
use Rattle.kv_trie.proofs.Branches.{slots_with}
use Rattle.kv_trie.proofs.retain.changed.Goals as goal
use Rattle.kv_trie.proofs.retain.changed.Goals.{in-Some, in-None+in_ok-new-in-None}

pub returns : goal.returns
returns g c =
    let within : c.args.index < length c.match-rest.new = omega (arith, c.requires.index) in
    let there = slots_with c.args.index c.match-rest.new within c.args.child in
    elim c.match-rest.branch [
      | in-Some w ↦ there ∙ rw (w.in-Some.is, w.new-is) refl
      | in-None+in_ok-new-in-None w ↦ there ∙ rw w.in-None.is (rw w.new-is (ap (with_or_without c.args.index (shape_of c.args.child)) w.in_ok-new-in-None.ensures))
    ]
