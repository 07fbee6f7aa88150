use Rattle.std.proofs.Common.{◌≤◌, length, arith}
use Rattle.kv_trie.proofs.Spots.{rest_of_few}
use Rattle.kv_trie.proofs.remove.take_rest_of_few.Goals as goal

pub returns : goal.returns
returns g c =
    let few = c.args.few.now in
    let n : length few.children ≤ length few.indices = omega arith in
    rest_of_few few c.take_lone.new.children c.take_lone.result n c.take_lone.ensures
