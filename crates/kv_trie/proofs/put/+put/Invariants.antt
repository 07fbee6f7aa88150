use Rattle.std.proofs.Common.{◌+◌, ◌*◌}
use Rattle.kv_trie.proofs.put.+put.Given as goal

abbrev pub decreases-put : goal.decreases-put
decreases-put g l = 4 * l.left + 3

abbrev pub decreases-put_beside : goal.decreases-put_beside
decreases-put_beside g l = 4 * l.left + 2

abbrev pub decreases-put_widened : goal.decreases-put_widened
decreases-put_widened g l = 4 * l.left + 2

abbrev pub decreases-put_in_branch : goal.decreases-put_in_branch
decreases-put_in_branch g l = 4 * l.left + 1

abbrev pub decreases-put_in_few : goal.decreases-put_in_few
decreases-put_in_few g l = 4 * l.left + 1

abbrev pub decreases-put_below : goal.decreases-put_below
decreases-put_below g l = 4 * l.left

abbrev pub decreases-put_among : goal.decreases-put_among
decreases-put_among g l = 4 * l.left
