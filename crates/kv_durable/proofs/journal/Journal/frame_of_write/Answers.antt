use Rattle.std.proofs.Common.{ℕ, sym, subst, ◌∙◌}
use Rattle.kv_frames.specs.Frames.{IsPayload}
use Rattle.std.specs.Global.{Vec}
use Rattle.std.proofs.lemmas.Result.{IfOk-weaker}
use Rattle.kv_journal.specs.Records.{did}
use Rattle.kv_model.specs.Acts.{Wrote}
use Rattle.kv_model.specs.Requests.{asked, write_for}
use Rattle.kv_durable.specs.Journals.{IsFrameOf}
use Rattle.kv_durable.proofs.Framed.{frame_is}
use Rattle.kv_durable.proofs.journal.Journal.frame_of_write.Goals as goal

pub returns-clause-is : goal.returns-clause-is
returns-clause-is g c =
    IfOk-weaker c.frame_of.result _ (λ (v : Vec ℕ). (revision : ℕ) → IsFrameOf c.args.self.now (did (Wrote (write_for (asked c.args.request.now) revision))) v.items)
    (λ v h revision. frame_is c.args.self.now (did (Wrote (write_for (asked c.args.request.now) revision))) c.loose_ahead.result c.deref.result.now v.items c.loose_ahead.ensures.value (c.deref.ensures.value ∙ (c.in_ok-payload.ensures.items revision)) (subst IsPayload (sym c.deref.ensures.value) c.in_ok-payload.ensures.payload) h) c.frame_of.ensures.items
