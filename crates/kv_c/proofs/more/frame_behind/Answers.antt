use Rattle.std.proofs.Common.{ℕ, refl, sym, subst, ◌∙◌}
use Rattle.std.specs.Global.{Vec}
use Rattle.std.proofs.lemmas.Result.{IfOk-weaker}
use Rattle.kv_c.specs.Chaining.{IsFrameBehind}
use Rattle.kv_c.proofs.Joined.{frame_is_behind}
use Rattle.kv_frames.specs.Frames.{IsPayload}
use Rattle.kv_journal.specs.Records.{did}
use Rattle.kv_model.specs.Acts.{Wrote}
use Rattle.kv_model.specs.Requests.{asked, write_for}
use Rattle.kv_c.proofs.more.frame_behind.Goals as goal

pub returns-clause-is : goal.returns-clause-is
returns-clause-is c =
    IfOk-weaker c.frame_of.result _ (λ (v : Vec ℕ). (revision : ℕ) → IsFrameBehind c.args.filed.now c.args.waiting (did (Wrote (write_for (asked c.args.request.now) revision))) v.items)
    (λ v h revision. frame_is_behind c.args.filed.now c.args.waiting _ (did (Wrote (write_for (asked c.args.request.now) revision))) c.deref.result.now v.items refl (c.deref.ensures.value ∙ (c.in_ok-payload.ensures.items revision)) (subst IsPayload (sym c.deref.ensures.value) c.in_ok-payload.ensures.payload) h) c.frame_of.ensures.items
