use Rattle.std.proofs.Common.{◌≡◌, List, [], subst}
use Rattle.std.specs.Prelude.{All}
use Rattle.std.proofs.lemmas.Result.{IfOk-weaker}
use Rattle.kv_model.specs.Acts.{Act}
use Rattle.kv_bucket.proofs.live.Opened.new_live.Goals as goal

pub returns-clause-fresh : goal.returns-clause-fresh
returns-clause-fresh g c =
    IfOk-weaker c.live.result _ (λ r. All (λ reader. (reader.seen ≡ []) × (reader.told ≡ [])) r.1.items)
    (λ r h. subst (λ (told : List Act). All (λ reader. (reader.seen ≡ []) × (reader.told ≡ told)) r.1.items) c.requires.new h.1) c.live.ensures.ok
