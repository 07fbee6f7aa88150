use Rattle.std.proofs.Common.{rules}
use Rattle.kv_publish.proofs.Prefixes.{prefix_trans}
use Rattle.kv_bucket.proofs.reader.Reader.wait_for.Goals as goal

pub loop-init : goal.loop-init
loop-init g c = search rules

pub loop-preserved : goal.loop-preserved
loop-preserved g c = search (rules, prefix_trans)

pub returns-in_err-version-clause-later : goal.returns-in_err-version-clause-later
returns-in_err-version-clause-later g c = search (rules, prefix_trans)

pub returns-in_err-version-clause-told : goal.returns-in_err-version-clause-told
returns-in_err-version-clause-told g c = search

pub returns-in_err-version-clause-err : goal.returns-in_err-version-clause-err
returns-in_err-version-clause-err g c = search rules

pub returns-in-Some-2-clause-later : goal.returns-in-Some-2-clause-later
returns-in-Some-2-clause-later g c = search (rules, prefix_trans)

pub returns-in-Some-2-clause-told : goal.returns-in-Some-2-clause-told
returns-in-Some-2-clause-told g c = search

pub returns-in-Some-2-clause-ok : goal.returns-in-Some-2-clause-ok
returns-in-Some-2-clause-ok g c = search rules

pub returns-in-Some-2-clause-learned : goal.returns-in-Some-2-clause-learned
returns-in-Some-2-clause-learned g c = search rules

pub returns-then-eq-clause-later : goal.returns-then-eq-clause-later
returns-then-eq-clause-later g c = search (rules, prefix_trans)

pub returns-then-eq-clause-told : goal.returns-then-eq-clause-told
returns-then-eq-clause-told g c = search

pub returns-then-eq-clause-ok : goal.returns-then-eq-clause-ok
returns-then-eq-clause-ok g c = search

pub returns-then-eq-clause-learned : goal.returns-then-eq-clause-learned
returns-then-eq-clause-learned g c = search rules
