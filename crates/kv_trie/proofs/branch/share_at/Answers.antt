use Rattle.std.proofs.Common.{ap, ◌∙◌, map}
use Rattle.std.proofs.Math.ListN.{set}
use Rattle.std.proofs.lemmas.List.{map-set}
use Rattle.kv_trie.specs.Stored.{shape_of}
use Rattle.kv_trie.proofs.branch.share_at.Goals as goal

pub returns : goal.returns
returns g c = map-set shape_of c.args.children.now c.args.at c.in_ok-children.field-0 ∙ ap (set (map shape_of c.args.children.now) c.args.at) c.in_ok-children.ensures.cases
