use lib.Bits.{and_mask}
use Rattle.kv_trie.specs.Form.{index_of}
use Rattle.kv_trie.proofs.find.index.Goals as goal

pub returns-clause-value : goal.returns-clause-value
unfolding index_of
returns-clause-value c = and_mask _ 5
