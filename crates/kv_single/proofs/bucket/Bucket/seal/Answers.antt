use Rattle.std.proofs.Common.{refl, ap}
use Rattle.kv_model.specs.Acts.{Seal}
use Rattle.kv_store.specs.Stored.{Stored}
use Rattle.kv_single.proofs.Later.{later}
use Rattle.kv_single.proofs.Representing.{represents_act}
use Rattle.kv_single.proofs.bucket.Bucket.seal.Goals as goal

pub returns-clause-ok : goal.returns-clause-ok
returns-clause-ok c = rw (← c.self.view_is) (λ state r.
    (refl, represents_act later state _ Seal c.in_ok-next.next refl r (ap (λ (v : Stored). v.config) c.in_ok-next.ensures.ok) (c.in_ok-next.ensures.stands state.acts r.version)))
