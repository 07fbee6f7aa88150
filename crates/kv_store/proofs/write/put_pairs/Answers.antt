use Rattle.std.proofs.Common.{◌≡◌, ◌≤◌, ℕ, length, sym, subst, ap, arith}
use Rattle.std.specs.Arc.{arc_value}
use Rattle.std.specs.Prelude.{All}
use Rattle.std.specs.Ordering.{nat_cmp}
use Rattle.std.specs.Cmp.Lexicographic.{slice_cmp}
use Rattle.kv_keys.specs.Places.{fnv32_of}
use Rattle.kv_trie.specs.Form.{order}
use Rattle.kv_trie.specs.Put.{pair_of}
use Rattle.kv_model.specs.Acts.{Write}
use Rattle.kv_store.specs.Places.{place_of_revision}
use Rattle.kv_store.proofs.Lookups.{All-put_pair, more_by_bytes, length-kept_entries, length-put_pair, written_more}
use Rattle.kv_store.proofs.Outcomes.{was_ok}
use Rattle.kv_store.proofs.write.put_pairs.Goals as goal

pub returns-clause-found : goal.returns-clause-found
returns-clause-found g c = λ q.
    let done = rw (was_ok _ c.put_both.result c.map_err.result c.in_ok-map_err.was c.map_err.ensures.cases) at c.put_both.ensures.both in
    more_by_bytes (λ v. v.revisions) (pair_of c.args.of_key).0 q (pair_of c.args.of_key).1 c.args.inner.now.by_key c.put_both.new.first (done.0.1 q)

pub returns-clause-last : goal.returns-clause-last
returns-clause-last g c = λ q.
    let done = rw (was_ok _ c.put_both.result c.map_err.result c.in_ok-map_err.was c.map_err.ensures.cases) at c.put_both.ensures.both in
    more_by_bytes (λ v. v.last) (pair_of c.args.of_key).0 q (pair_of c.args.of_key).1 c.args.inner.now.by_key c.put_both.new.first (done.0.1 q)

pub returns-clause-len : goal.returns-clause-len
returns-clause-len g c =
    let done = rw (was_ok _ c.put_both.result c.map_err.result c.in_ok-map_err.was c.map_err.ensures.cases) at c.put_both.ensures.both in
    omega (
      arith,
      length-kept_entries c.put_both.new.first,
      length-kept_entries c.args.inner.now.by_key,
      ap length done.0.0,
      length-put_pair (order (slice_cmp nat_cmp) fnv32_of 7) (pair_of c.args.of_key) c.args.inner.now.by_key,
    )

pub returns-clause-put : goal.returns-clause-put
returns-clause-put g c =
    let done = rw (was_ok _ c.put_both.result c.map_err.result c.in_ok-map_err.was c.map_err.ensures.cases) at c.put_both.ensures.both in
    let old = c.args.inner.now.by_revision in
    let w : Write = (arc_value c.args.of_revision).1 in
    let pair : ℕ × Write = (w.revision, w) in
    let is : arc_value c.args.of_revision ≡ pair = ap (λ r. (r, w)) c.requires.number in
    let map = rw is at done.1.1 in
    let pairs = rw is at done.1.0 in
    record {
      found = λ r. written_more w.revision r w old c.put_both.new.second (map r);
      len = omega (arith, ap length pairs, length-put_pair (order nat_cmp place_of_revision 7) pair old);
      revisions = λ last l all.
          let Small : ℕ × Write → Type 0 = λ e. e.0 ≤ last in
          subst (All Small) (sym pairs) (All-put_pair Small (order nat_cmp place_of_revision 7) pair old l all);
    }
