use Rattle.std.proofs.Common.{None, Some, cond, false, ap}
use Rattle.std.specs.List.{last_or}
use Rattle.std.specs.Option.{option_map_or}
use Rattle.kv_keys.specs.declared.error.KvError.TheVariants.{KeyExists}
use Rattle.kv_model.specs.Acts.{is_put}
use Rattle.kv_model.proofs.Keeping.{kept_cleared, writes_of_key-cleared}
use Rattle.kv_model.proofs.laws.compaction.cleared_is_as_never_written.Goals as goal

pub returns-clause-writes : goal.returns-clause-writes
returns-clause-writes c = writes_of_key-cleared

pub returns-clause-last : goal.returns-clause-last
returns-clause-last c = λ key acts floor clears. ap (λ ws. option_map_or (λ w. w.revision) (last_or None ws) 0) (writes_of_key-cleared key acts floor clears)

pub returns-clause-kept : goal.returns-clause-kept
returns-clause-kept c = kept_cleared

pub returns-clause-create : goal.returns-clause-create
returns-clause-create c = λ key value acts floor clears. ap (λ ws. cond (option_map_or (λ w. is_put w.op) (last_or None ws) false) (Some KeyExists) None) (writes_of_key-cleared key acts floor clears)
