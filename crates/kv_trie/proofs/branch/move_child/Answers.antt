use Rattle.std.proofs.Common.{◌<◌, map, length, None, sym, ap, ◌∙◌, arith}
use Rattle.std.proofs.Math.ListN.{set}
use Rattle.std.proofs.lemmas.List.{map-set, get_or-map}
use Rattle.kv_trie.specs.Stored.{shape_of}
use Rattle.kv_trie.proofs.Stored.{shape_of-Empty}
use Rattle.kv_trie.proofs.branch.move_child.Goals as goal

pub returns-clause-children : goal.returns-clause-children
returns-clause-children g c =
    let children = c.args.few.now.children in
    let within : c.args.from < length children = omega (arith, c.requires.from) in
    let taken = ap shape_of c.replace.ensures.value ∙ sym (get_or-map shape_of children c.args.from c.index-few-from.result None within) in
    map-set shape_of _ c.args.to c.replace.result
    ∙ ap (λ l. set l c.args.to (shape_of c.replace.result)) (map-set shape_of children c.args.from _ ∙ ap (set (map shape_of children) c.args.from) (shape_of-Empty c.replace.ensures.after))
    ∙ ap (set (set (map shape_of children) c.args.from None) c.args.to) taken
