use Rattle.kv_trie.proofs.trie.Trie.put.Goals as goal

pub returns-clause-put : goal.returns-clause-put
returns-clause-put g c = rw c.new-pending.ensures at c.in_ok-put_with.ensures.put
