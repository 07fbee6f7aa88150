use Rattle.std.proofs.Common.{subst}
use Rattle.std.specs.Prelude.{IfOk, IsPermutation}
use Rattle.std.specs.Ordering.{nat_cmp}
use Rattle.kv_trie.specs.Form.{Ascends, order}
use Rattle.kv_trie.specs.Numbered.{lent}
use Rattle.kv_store.specs.Places.{place_of_revision}
use Rattle.kv_store.proofs.StoredWrites.{found_are_stored}
use Rattle.kv_store.proofs.version.Version.stored_writes.Goals as goal

pub returns : goal.returns
returns c =
    let are = c.by_revision.ensures.value in
    found_are_stored c.args.self.now place_of_revision (subst (λ es. Ascends (order nat_cmp place_of_revision 7) es) are c.sorted.ensures.keys) (λ v. v.items) c.sorted.result
    (subst (λ es. IfOk c.sorted.result (λ v. IsPermutation es (lent v.items))) are c.sorted.ensures.same) c.sorted.ensures.sorted
