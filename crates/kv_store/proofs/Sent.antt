-- What may cross threads: a version may be handed to another thread, and shared, and a ring handed over. Whoever starts
-- threads over these cites them; one `search` through the fields of them all finds no proof within its bounds. They go
-- from the nodes of a trie upwards, so that each search is short.
use denote.RattleType.{RattleType}
use denote.Param.Send.{IsSend, IsSync, sendable}
use Rattle.std.proofs.Crossing.{crosses}
use Rattle.std.specs.declared.cmp.Ord as ord
use Rattle.std.specs.declared.cmp.PartialEq as eq
use Rattle.std.specs.declared.cmp.PartialOrd as partial
use Rattle.kv_keys.specs.declared.place.Place as place
use Rattle.kv_keys.proofs.key.Key.TheSendSync as key
use Rattle.kv_model.proofs.write.Write.TheSendSync as write
use Rattle.kv_trie.specs.contracts.node.Node as Node
use Rattle.kv_trie.specs.contracts.trie.Trie as Trie
use Rattle.kv_trie.proofs.node.Node.TheLaws.TheKnot as knot
use Rattle.kv_store.specs.contracts.version.Inner as Inner
use Rattle.kv_store.specs.contracts.ring.Made as Made
use Rattle.kv_store.specs.contracts.ring.Ring as Ring
use Rattle.kv_store.specs.contracts.version.Version as Version
use Rattle.kv_store.proofs.key_history.KeyHistory.TheSendSync as kept
use Rattle.kv_store.proofs.rev.Rev.TheSendSync as rev

module _ (K V : RattleType) (s : IsSend K) (t : IsSend V) (y : IsSync K) (z : IsSync V) where
  node_send : IsSend (Node.the_row K V)
  node_send = search (sendable, crosses, knot.crosses_both) depth 20

  node_sync : IsSync (Node.the_row K V)
  node_sync = search (sendable, crosses, knot.crosses_both) depth 20

  module _ (a : place.Ghosts K.Denot) (b : ord.Ghosts K.Denot) (c : eq.Ghosts K.Denot) (d : partial.Ghosts K.Denot) where
    trie_send : IsSend (Trie.the_row K V a b c d)
    trie_send = search (sendable, crosses, knot.crosses_both) depth 20

    trie_sync : IsSync (Trie.the_row K V a b c d)
    trie_sync = search (sendable, crosses, knot.crosses_both) depth 20

inner_send : IsSend Inner.the_row
inner_send = search (sendable, crosses, trie_send, key.the_send, key.the_sync, kept.the_send, kept.the_sync, rev.the_send, rev.the_sync, write.the_send, write.the_sync) depth 20

inner_sync : IsSync Inner.the_row
inner_sync = search (sendable, crosses, trie_sync, key.the_send, key.the_sync, kept.the_send, kept.the_sync, rev.the_send, rev.the_sync, write.the_send, write.the_sync) depth 20

pub version_send : IsSend Version.the_row
version_send = search (sendable, crosses, inner_send, inner_sync) depth 20

pub version_sync : IsSync Version.the_row
version_sync = search (sendable, crosses, inner_send, inner_sync) depth 20

made_send : IsSend Made.the_row
made_send = search (sendable, crosses, key.the_send, key.the_sync, kept.the_send, kept.the_sync, rev.the_send, rev.the_sync, write.the_send, write.the_sync) depth 20

pub ring_send : IsSend Ring.the_row
ring_send = let v = version_send in let m = made_send in search (sendable, crosses) depth 20
