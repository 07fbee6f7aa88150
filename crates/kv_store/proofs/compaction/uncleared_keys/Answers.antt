use Rattle.std.proofs.Common.{ℕ, Bool, Some, not, List, ap, length, arith}
use Rattle.kv_trie.specs.Retain.{is_wanted}
use Rattle.kv_trie.proofs.Retaining.{filter_le}
use Rattle.kv_store.specs.Stored.{KeyHistory}
use Rattle.kv_store.specs.inside.Compacted.{clears}
use Rattle.kv_store.proofs.Leaving.{spared_lookup}
use Rattle.kv_store.proofs.Lookups.{length-kept_entries}
use Rattle.kv_store.proofs.Outcomes.{still_ok, then_ok}
use Rattle.kv_store.proofs.compaction.uncleared_keys.Goals as goal

pub returns-clause-kept : goal.returns-clause-kept
returns-clause-kept c =
    still_ok _ _ c.retain.result c.map_err.result c.map_err.ensures.cases (then_ok c.retain.result _ _ c.retain.ensures.map (λ left map key. spared_lookup (λ v. v.revisions) c.args.floor key c.args.by_key.now left (map key)))

pub returns-clause-last : goal.returns-clause-last
returns-clause-last c =
    still_ok _ _ c.retain.result c.map_err.result c.map_err.ensures.cases (then_ok c.retain.result _ _ c.retain.ensures.map (λ left map key. spared_lookup (λ v. v.last) c.args.floor key c.args.by_key.now left (map key)))

pub returns-clause-len : goal.returns-clause-len
returns-clause-len c =
    let old = c.args.by_key.now in
    let wanted : List ℕ → KeyHistory → Bool = λ key kept. not (clears c.args.floor (Some kept.last)) in
    still_ok _ _ c.retain.result c.map_err.result c.map_err.ensures.cases (then_ok c.retain.result _ _ c.retain.ensures.pairs (λ left same.
    omega (arith, ap length same, filter_le (is_wanted wanted) old, length-kept_entries left, length-kept_entries old)))
