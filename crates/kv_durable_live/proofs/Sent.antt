-- What may cross threads: a durable bucket under its lock may be shared, where the name of its opening and its file may be sent.
use denote.RattleType.{RattleType}
use denote.Param.Send.{IsSend, IsSync, sendable}
use Rattle.std.proofs.Crossing.{crosses}
use Rattle.kv_publish.specs.declared.protocol.LiveName as live_name
use Rattle.kv_publish.proofs.Sent.{notifier_sync}
use Rattle.kv_bucket.proofs.Sent.{keeper_send}
use Rattle.kv_durable.specs.contracts.journal.Journal as Journal
use Rattle.kv_durable_live.specs.contracts.keeper.DurableKeeper as DurableKeeper
use Rattle.kv_durable_live.specs.contracts.live.DurableLive as DurableLive

module _ (F : RattleType) (f : IsSend F) where
  journal_send : IsSend (Journal.the_row F)
  journal_send = search (sendable, crosses) depth 20

module _ (N : RattleType) (g : live_name.Ghosts N.Denot) (s : IsSend N) (y : IsSync N) (F : RattleType) (f : IsSend F) where
  durable_keeper_send : IsSend (DurableKeeper.the_row N F g)
  durable_keeper_send = let k = keeper_send N g s y in let j = journal_send F f in search (sendable, crosses) depth 20

  pub durable_live_sync : IsSync (DurableLive.the_row N F g)
  durable_live_sync = let k = durable_keeper_send in let b = notifier_sync N g s y in search (sendable, crosses) depth 20
