use Rattle.std.proofs.Common.{rules, sym, ◌∙◌}
use Rattle.kv_publish.proofs.Prefixes.{prefix_length, prefix_whole}
use Rattle.kv_bucket.proofs.progress.Progress.has_seen_just.Goals as goal
use Rattle.kv_bucket.proofs.progress.Progress.has_seen_just.Goals.{then-covers, else-covers}

pub returns : goal.returns
returns g c =
    elim c.if-covers.branch [
      | then-covers w ↦ λ yes.
          let mine = c.covers.ensures.yes w.if-covers.true in
          let journal = prefix_whole _ _ (w.covers-then-covers.ensures.yes (sym w.result-is ∙ yes)) (prefix_length _ _ mine) in
          search (rules, journal)
      | else-covers w ↦ λ yes. absurd (cc (yes, w.result-is, w.if-covers.false))
    ]
