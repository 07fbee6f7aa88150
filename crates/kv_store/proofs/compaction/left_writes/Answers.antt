use Rattle.std.proofs.Common.{ℕ, ◌≤◌, Bool, sym, subst, length}
use Rattle.std.specs.Prelude.{All}
use Rattle.std.proofs.lemmas.List.Elements.{All-filter}
use Rattle.kv_model.specs.Acts.{Write}
use Rattle.kv_trie.specs.Retain.{is_wanted}
use Rattle.kv_trie.proofs.Retaining.{filter_le}
use Rattle.kv_store.specs.inside.Compacted.{is_left}
use Rattle.kv_store.specs.inside.Fields.{kept_entries}
use Rattle.kv_store.proofs.Leaving.{left_lookup}
use Rattle.kv_store.proofs.Outcomes.{still_ok, then_ok}
use Rattle.kv_store.proofs.compaction.left_writes.Goals as goal

pub returns-clause-written : goal.returns-clause-written
returns-clause-written c =
    let kept = kept_entries c.args.by_key.now in
    still_ok _ _ c.retain.result c.map_err.result c.map_err.ensures.cases (then_ok c.retain.result _ _ c.retain.ensures.map (λ left map q. left_lookup c.args.floor kept q c.args.by_revision.now left (map q)))

pub returns-clause-len : goal.returns-clause-len
returns-clause-len c =
    let wanted : ℕ → Write → Bool = λ revision w. is_left c.args.floor (kept_entries c.args.by_key.now) revision w in
    still_ok _ _ c.retain.result c.map_err.result c.map_err.ensures.cases (then_ok c.retain.result _ _ c.retain.ensures.pairs (λ left same. subst (λ es. length es ≤ length c.args.by_revision.now) (sym same) (filter_le (is_wanted wanted) c.args.by_revision.now)))

pub returns-clause-revisions : goal.returns-clause-revisions
returns-clause-revisions c =
    let wanted : ℕ → Write → Bool = λ revision w. is_left c.args.floor (kept_entries c.args.by_key.now) revision w in
    still_ok _ _ c.retain.result c.map_err.result c.map_err.ensures.cases (then_ok c.retain.result _ _ c.retain.ensures.pairs (λ left same last all. subst (λ es. All (λ (e : ℕ × Write). e.0 ≤ last) es) (sym same) (All-filter (is_wanted wanted) (λ (e : ℕ × Write). e.0 ≤ last) c.args.by_revision.now all)))
