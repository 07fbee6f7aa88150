use Rattle.std.proofs.Common.{rules}
use Rattle.std.specs.List.{flat_map}
use Rattle.std.proofs.lemmas.List.Sorted.{IsPermutation-map, IsPermutation-trans, IsNonDecreasingBy-from_sort_by_key}
use Rattle.kv_trie.specs.Numbered.{lent}
use Rattle.kv_store.specs.inside.Selected.{last_of_entry}
use Rattle.kv_store.proofs.listing.last_sorted.Goals as goal

pub returns-clause-same : goal.returns-clause-same
returns-clause-same g c =
    IsPermutation-trans (flat_map (last_of_entry (g.W.Wanted.wants_key c.args.wanted.now)) c.args.by_key.now) (lent c.in_ok-found.found.items) (lent c.sort_unstable_by_key.new.self.items)
    c.in_ok-found.ensures (IsPermutation-map (λ f. (f.0, f.1.now)) c.in_ok-found.found.items c.sort_unstable_by_key.new.self.items c.sort_unstable_by_key.ensures.permutation)

pub returns-clause-sorted : goal.returns-clause-sorted
returns-clause-sorted g c = IsNonDecreasingBy-from_sort_by_key (λ f. f.0) _ c.sort_unstable_by_key.ensures.sorted (λ a r q k. search rules)
