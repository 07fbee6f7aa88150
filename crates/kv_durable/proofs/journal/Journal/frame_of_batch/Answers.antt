use Rattle.std.proofs.Common.{◌≡◌, ℕ, List, ◌∷◌, ◌++◌, sym, ap, subst, ◌∙◌}
use Rattle.std.specs.Int.{w32, to_be_bytes}
use Rattle.std.specs.Prelude.{map}
use Rattle.kv_frames.specs.Frames.{IsPayload}
use Rattle.std.specs.Global.{Vec}
use Rattle.std.proofs.lemmas.Result.{IfOk-weaker}
use Rattle.kv_journal.specs.Records.{act_records, asked_records, did_all}
use Rattle.kv_model.specs.Acts.{Act}
use Rattle.kv_model.specs.Requests.{asked}
use Rattle.kv_durable.specs.Journals.{IsFrameOf}
use Rattle.kv_durable.proofs.Framed.{frame_is}
use Rattle.kv_durable.proofs.journal.Journal.frame_of_batch.Goals as goal

pub returns-clause-is : goal.returns-clause-is
returns-clause-is g c =
    IfOk-weaker c.frame_of.result _ (λ (v : Vec ℕ). (acts : List Act) → act_records acts ≡ asked_records (map asked c.args.requests.now) → IsFrameOf c.args.self.now (did_all acts) v.items)
    (λ v h acts same. frame_is c.args.self.now (did_all acts) c.loose_ahead.result c.deref.result.now v.items c.loose_ahead.ensures.value
    (c.deref.ensures.value ∙ c.in_ok-payload.ensures.items ∙ ap (λ (xs : List ℕ). to_be_bytes w32 c.loose_ahead.result ++ (10 ∷ xs)) (sym same)) (subst IsPayload (sym c.deref.ensures.value) c.in_ok-payload.ensures.payload) h) c.frame_of.ensures.items
