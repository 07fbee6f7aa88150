use Rattle.std.proofs.Common.{map, take}
use Rattle.kv_journal.proofs.Pushing.{ArePushed}
use Rattle.kv_journal.proofs.checkpoint.push_all_stored.Given as goal

abbrev pub invariant-loop-numbered : goal.invariant-loop-numbered
invariant-loop-numbered l = ArePushed l.framing.seed l.fn.out.items (map (λ f. f.1.now) (take l.numbered-index l.writes)) l.out.items
