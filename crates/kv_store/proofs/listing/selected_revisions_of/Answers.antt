use Rattle.std.specs.List.{flat_map}
use Rattle.std.proofs.lemmas.List.Sorted.{IsPermutation-trans}
use Rattle.kv_store.specs.inside.Selected.{initial_of}
use Rattle.kv_store.proofs.listing.selected_revisions_of.Goals as goal

pub returns-clause-same : goal.returns-clause-same
returns-clause-same g c =
    IsPermutation-trans (flat_map (initial_of (g.W.Wanted.wants_key c.args.wanted.now) c.args.start) c.args.by_key.now) c.in_ok-found.found.items c.sort_unstable.new.self.items
    c.in_ok-found.ensures c.sort_unstable.ensures.permutation
