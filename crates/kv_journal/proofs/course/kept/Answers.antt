use Rattle.std.proofs.Common.{◌≡◌, arith, sym, ◌∙◌}
use Rattle.kv_model.specs.Requests.{asked, write_for}
use Rattle.kv_journal.specs.inside.Contents.{writes_told}
use Rattle.kv_journal.specs.inside.Reachable.{is_kept_among}
use Rattle.kv_journal.proofs.Arriving.{counted_fails, counted_passes, kept_is}
use Rattle.kv_journal.proofs.course.kept.Goals as goal
use Rattle.kv_journal.proofs.course.kept.Goals.{then-is_kept, else-is_kept}

pub loop-write-preserved : goal.loop-write-preserved
loop-write-preserved c =
    let told = c.args.writes.now in
    let ws = writes_told told in
    let version = c.args.version.now in
    let i = c.loop-write.write-index in
    let t = c.write-item.result in
    let inv = c.loop-write.invariant in
    let p = is_kept_among version.config.history ws in
    let is : c.is_kept.result ≡ p (write_for (asked t.1) t.0) = c.is_kept.ensures ∙ kept_is ws version c.key.result.now (write_for (asked t.1) t.0) c.requires c.key.ensures in
    elim c.if-is_kept.branch [
      | then-is_kept w ↦ (w.count-is ∙ counted_passes p told i c.loop-write.count t c.loop-write-test.true c.write-item.is inv.0 (sym is ∙ w.if-is_kept.true), omega arith)
      | else-is_kept w ↦ (w.count-is ∙ counted_fails p told i c.loop-write.count t c.loop-write-test.true c.write-item.is inv.0 (sym is ∙ w.if-is_kept.false), omega arith)
    ]
