use Rattle.std.proofs.Common.{ℕ, sym, subst, ◌∙◌}
use Rattle.kv_frames.specs.Frames.{IsPayload}
use Rattle.std.specs.Global.{Vec}
use Rattle.std.proofs.lemmas.Result.{IfOk-weaker}
use Rattle.kv_journal.specs.Records.{did}
use Rattle.kv_model.specs.Acts.{Compact}
use Rattle.kv_durable.specs.Journals.{IsFrameOf}
use Rattle.kv_durable.proofs.Framed.{frame_is}
use Rattle.kv_durable.proofs.journal.Journal.frame_of_compaction.Goals as goal

pub returns-clause-is : goal.returns-clause-is
returns-clause-is g c =
    IfOk-weaker c.frame_of.result _ (λ (v : Vec ℕ). IsFrameOf c.args.self.now (did (Compact c.args.floor)) v.items)
    (λ v h. frame_is c.args.self.now (did (Compact c.args.floor)) c.loose_ahead.result c.deref.result.now v.items c.loose_ahead.ensures.value (c.deref.ensures.value ∙ c.in_ok-payload.ensures.items) (subst IsPayload (sym c.deref.ensures.value) c.in_ok-payload.ensures.payload) h) c.frame_of.ensures.items
