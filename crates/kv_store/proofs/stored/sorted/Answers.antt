use Rattle.std.proofs.Common.{subst, ◌∙◌}
use Rattle.std.specs.List.Sorted.{IsPermutation}
use Rattle.std.proofs.lemmas.List.Sorted.{IsPermutation-map, IsNonDecreasingBy-from_sort_by_key}
use Rattle.kv_trie.specs.Numbered.{lent}
use Rattle.kv_store.proofs.StoredWrites.{all_numbered}
use Rattle.kv_store.proofs.stored.sorted.Goals as goal

pub returns-clause-same : goal.returns-clause-same
returns-clause-same c =
    let all = c.in_ok-found.ensures ∙ all_numbered c.args.by_revision.now in
    subst (λ es. IsPermutation es (lent c.sort_unstable_by_key.new.self.items)) all (IsPermutation-map (λ f. (f.0, f.1.now)) c.in_ok-found.found.items c.sort_unstable_by_key.new.self.items c.sort_unstable_by_key.ensures.permutation)

pub returns-clause-sorted : goal.returns-clause-sorted
returns-clause-sorted c = IsNonDecreasingBy-from_sort_by_key (λ f. f.0) _ c.sort_unstable_by_key.ensures.sorted (λ a r q k. search)
