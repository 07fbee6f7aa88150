use Rattle.std.proofs.Common.{rules, refl, sym, subst, arith, ◌≡◌}
use Rattle.std.proofs.lemmas.Result.{IfOk-weaker}
use Rattle.kv_store.specs.Stored.{Stored}
use Rattle.kv_store.specs.inside.Compacted.{IsCompacted}
use Rattle.kv_store.specs.inside.Fields.{stored_of}
use Rattle.kv_store.proofs.version.Version.compacted.Goals as goal

pub returns : goal.returns
returns c =
    let left : IsCompacted c.args.floor c.args.self.now (stored_of c.with.result) =
    rw (c.with.ensures, c.deref-inner.ensures, ← c.self.view_is) (record {
      config = refl;
      last = refl;
      kept = rw c.deref-inner.ensures at c.in_ok-by_key.ensures.kept;
      last_of = rw c.deref-inner.ensures at c.in_ok-by_key.ensures.last;
      written = rw c.deref-inner.ensures at c.in_ok-by_revision.ensures.written;
      apart = c.in_ok-kept_count.ensures.apart;
      values = λ small. omega (arith, small, c.in_ok-kept_count.ensures.count, rw c.deref-inner.ensures at c.min-values.ensures);
      floor = refl;
      sealed = refl;
    }) in
    IfOk-weaker c.of.result (λ (v : Stored). v ≡ stored_of c.with.result) (IsCompacted c.args.floor c.args.self.now)
    (λ v e. subst (IsCompacted c.args.floor c.args.self.now) (sym e) left)
    c.of.ensures

pub of-requires : goal.of-requires
of-requires c = search rules
