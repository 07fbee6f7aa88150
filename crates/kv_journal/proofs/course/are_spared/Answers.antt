use Rattle.std.proofs.Common.{sym, subst, ◌∙◌}
use Rattle.kv_journal.specs.inside.Contents.{writes_told}
use Rattle.kv_journal.specs.inside.Reachable.{last_among}
use Rattle.std.proofs.lemmas.List.{take_all}
use Rattle.std.proofs.Common.{ap}
use Rattle.kv_journal.proofs.Sparing.{NoneClears, all_spared, none_yet, not_spared, one_spared}
use Rattle.kv_journal.proofs.course.are_spared.Goals as goal

pub loop-write-init : goal.loop-write-init
loop-write-init c = none_yet c.args.floor c.args.version.now

pub returns-then-clears-clause-no : goal.returns-then-clears-clause-no
returns-then-clears-clause-no c =
    not_spared c.args.floor (last_among (writes_told c.args.writes.now)) c.args.writes.now c.args.version.now c.loop-write.write-index c.write-item.result c.requires.put c.requires.rise c.loop-write-test.true c.write-item.is
    (sym c.clears.ensures ∙ c.if-clears.true)

pub loop-write-preserved : goal.loop-write-preserved
loop-write-preserved c =
    one_spared c.args.floor c.args.version.now c.args.writes.now c.loop-write.write-index c.write-item.result c.loop-write-test.true c.write-item.is c.loop-write.invariant
    (sym c.clears.ensures ∙ c.if-clears.false)

pub returns-clause-yes : goal.returns-clause-yes
returns-clause-yes c = λ _.
    let all = take_all c.loop-write.write-index c.args.writes.now c.loop-write-test.false in
    all_spared c.args.floor (writes_told c.args.writes.now) c.args.version.now c.requires.put (subst (NoneClears c.args.floor c.args.version.now) (ap writes_told all) c.loop-write.invariant)
