use Rattle.std.proofs.Common.{rules}
use Rattle.kv_replay.proofs.Counting.{asked_so_often}
use Rattle.kv_replay.proofs.streams.replay_bounded_in.Goals as goal

pub returns-clause-read_fault : goal.returns-clause-read_fault
returns-clause-read_fault g c = λ fault.
    let source = c.new-source.ensures in
    let failed = rw source.reader at (c.run_script.ensures.read_fault fault) in
    let counts = rw source.reader at (rw source.calls at c.run_script.ensures.same_source.1.1) in
    asked_so_often (g.R.Input.failed_between c.args.reader.now) g.R.Input.asked _ _ _ _ _ (search rules) failed counts
