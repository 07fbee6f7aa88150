use Rattle.std.proofs.Common.{◌<◌, ◌++◌, length, map, Ok, sym, ap, subst, ◌∙◌}
use Rattle.kv_single.specs.Held.{Represents}
use Rattle.kv_model.specs.Batches.{after_all, after_batch}
use Rattle.kv_model.specs.Requests.{asked}
use Rattle.kv_model.proofs.Batching.{refused_only}
use Rattle.kv_script.specs.Text.{batch_refusal_text, revisions_text}
use Rattle.kv_replay.proofs.Batched.{as_many_mapped, inside, revisions_between}
use Rattle.kv_replay.proofs.Parsing.{on_ok_both}
use Rattle.kv_replay.proofs.batches.answer_requests.Goals as goal

pub returns-in_ok-append_revisions-in-Ok-clause-ok : goal.returns-in_ok-append_revisions-in-Ok-clause-ok
returns-in_ok-append_revisions-in-Ok-clause-ok g c = λ state r.
    let known = c.version.ensures.acts state (subst (Represents state) (sym c.as_bucket.ensures) r) in
    let batch = c.in-Ok.ensures.ok state r in
    let later = c.version-in-Ok.ensures.acts (after_batch state (Ok batch.0))
    (subst (Represents (after_batch state (Ok batch.0))) (sym c.as_bucket-in-Ok.ensures) batch.1.1.1) in
    let between = revisions_between state.config (map asked c.args.requests.now) state.acts batch.0 _ _ batch.1.0
    (c.revision-before.ensures.acts state.acts known.1) (c.revision-last.ensures.acts (after_all state.acts batch.0) later.1) in
    rw batch.1.0 (
      c.in_ok-append_revisions-in-Ok.ensures.ok ∙ ap (λ ns. c.args.out.now.items ++ revisions_text ns) between,
      batch.1.1.1,
    )

pub returns-in-Err-clause-ok : goal.returns-in-Err-clause-ok
returns-in-Err-clause-ok g c =
    on_ok_both c.answer_refused.result (λ cause text state r.
    let at = c.in-Err.ensures.refused cause state r in
    let is = refused_only state.config (map asked c.args.requests.now) state.acts c.in-Err.refused at cause in
    let below : c.in-Err.refused.at < length c.args.requests.now =
    subst (λ n. c.in-Err.refused.at < n) (as_many_mapped asked c.args.requests.now) (inside (map asked c.args.requests.now) c.in-Err.refused.at at.request at.is) in
    let number = c.number_of-number.ensures below in
    rw is (
      text ∙ ap (λ n. c.args.out.now.items ++ batch_refusal_text n c.in-Err.refused.error) number,
      subst (Represents state) (sym c.in-Err.ensures.unchanged) r,
    ))
    c.answer_refused.ensures.cause c.answer_refused.ensures.ok
