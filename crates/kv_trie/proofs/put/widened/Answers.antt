use Rattle.std.proofs.Common.{ap, ◌∙◌, arith}
use Rattle.std.specs.Arc.{arc_value}
use Rattle.kv_trie.specs.Stored.{child_slots}
use Rattle.kv_trie.proofs.Clones.{kept_children}
use Rattle.kv_trie.proofs.put.widened.Goals as goal

pub spread-requires : goal.spread-requires
spread-requires g c =
    let kept = kept_children (arc_value c.in_ok-new.new) c.in_ok-own.own.now c.in_ok-own.ensures.value in
    (omega arith, (omega arith, (kept ∙ ap (λ p. child_slots p.value) c.in_ok-new.ensures.ok ∙ ap child_slots c.new.ensures ∙ c.no_children.ensures, c.requires)))
