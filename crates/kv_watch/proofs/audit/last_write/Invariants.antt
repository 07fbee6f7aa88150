use Rattle.std.proofs.Common.{◌≡◌, take}
use Rattle.std.specs.Option.{option_copied}
use Rattle.kv_model.specs.Retained.{last_write}
use Rattle.kv_watch.specs.inside.Showing.{wrote_all}
use Rattle.kv_watch.proofs.audit.last_write.Given as goal

abbrev pub invariant-loop-write : goal.invariant-loop-write
invariant-loop-write l = option_copied l.last ≡ last_write l.key (wrote_all (take l.write-index l.writes))
