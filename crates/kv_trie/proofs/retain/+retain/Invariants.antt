use Rattle.std.proofs.Common.{◌+◌, ◌-◌, ◌*◌}
use Rattle.kv_trie.specs.Retain.{is_wanted, slots_so_far}
use Rattle.kv_trie.specs.Stored.{shape_of}
use Rattle.kv_trie.specs.inside.Few.{slots_of}
use Rattle.kv_trie.proofs.Retaining.{IsPartly}
use Rattle.kv_trie.proofs.retain.+retain.Given as goal

abbrev pub decreases-retain : goal.decreases-retain
decreases-retain g l = 3 * l.left + 2

abbrev pub decreases-retain_below : goal.decreases-retain_below
decreases-retain_below g l = 3 * l.left + 1

abbrev pub decreases-retain_at : goal.decreases-retain_at
decreases-retain_at g l = 3 * l.left

abbrev pub invariant-retain_below-loop-index : goal.invariant-retain_below-loop-index
invariant-retain_below-loop-index g l =
    IsPartly g.K.Ord.cmp g.K.Place.place_of (is_wanted (g.W.Wants.wanted l.wants)) (l.left - 1) l.index l.initial.gone l.gone
    (slots_of (shape_of l.branch)) (slots_so_far l.rest (slots_of (shape_of l.branch)))
