use Rattle.std.proofs.Common.{◌≡◌, ℕ, ◌+◌, ◌<◌, ◌^◌, List, [], ◌∷◌, Result, length, ap, arith, length-append}
use Rattle.kv_keys.specs.Places.{fnv32_of}
use Rattle.kv_keys.specs.declared.error.KvError.{KvError}
use Rattle.kv_trie.specs.Shown.{Shown}
use Rattle.kv_store.specs.declared.compaction.Count.{Count}
use Rattle.kv_store.specs.Stored.{KeyHistory}
use Rattle.kv_store.specs.inside.Compacted.{all_kept}
use Rattle.kv_store.specs.inside.Fields.{kept_entries}
use Rattle.kv_store.proofs.Naming.{distinct_kept}
use Rattle.kv_store.proofs.Outcomes.{was_ok}
use Rattle.kv_store.proofs.compaction.kept_count.Goals as goal

shows : Count → List ℕ → KeyHistory → Result (Unit {0}) KvError → Count → Type 0
shows old key kept result new =
    old.revisions + length kept.revisions < 2 ^ 64 → new.revisions ≡ old.revisions + length kept.revisions

counted : (es : List (List ℕ × KeyHistory)) (a b : Count) → Shown shows es a b → a.revisions + length (all_kept (kept_entries es)) < 2 ^ 64 → b.revisions ≡ a.revisions + length (all_kept (kept_entries es))
unfolding shows
counted [] a b h l = let same : b.revisions ≡ a.revisions = ap (λ (v : Count). v.revisions) h in omega (arith, same)
counted (e ∷ es) a b h l =
    let apart = length-append e.1.revisions (all_kept (kept_entries es)) in
    let one : h.0.revisions ≡ a.revisions + length e.1.revisions = h.1 (omega (arith, l, apart)) in
    let rest = counted es h.0 b h.2 (omega (arith, l, apart, one)) in
    omega (arith, rest, one, apart)

pub returns-in_err-map_err-clause-apart : goal.returns-in_err-map_err-clause-apart
returns-in_err-map_err-clause-apart c = distinct_kept fnv32_of c.args.by_key.now c.each.ensures.ordered

pub returns-clause-apart : goal.returns-clause-apart
returns-clause-apart c = distinct_kept fnv32_of c.args.by_key.now c.each.ensures.ordered

pub returns-clause-count : goal.returns-clause-count
unfolding shows
returns-clause-count c = λ small.
    let goes = rw (was_ok _ c.each.result c.map_err.result c.in_ok-map_err.was c.map_err.ensures.cases) at c.each.ensures.goes in
    let all = counted c.args.by_key.now (record { revisions = 0 }) c.each.new.visitor goes (omega (arith, small)) in
    omega (arith, all)
