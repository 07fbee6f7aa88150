use Rattle.std.proofs.Common.{None, ap}
use Rattle.std.specs.List.{last_or}
use Rattle.std.specs.Option.{option_map_or}
use Rattle.kv_model.proofs.Keeping.{kept_spared, writes_of_key-spared}
use Rattle.kv_model.proofs.Storing.{retained_spared}
use Rattle.kv_model.proofs.laws.compaction.others_are_kept.Goals as goal

pub returns-clause-last : goal.returns-clause-last
returns-clause-last c = λ key acts floor spared. ap (λ ws. last_or None ws) (writes_of_key-spared key acts floor spared)

pub returns-clause-revision : goal.returns-clause-revision
returns-clause-revision c = λ key acts floor spared. ap (λ ws. option_map_or (λ w. w.revision) (last_or None ws) 0) (writes_of_key-spared key acts floor spared)

pub returns-clause-kept : goal.returns-clause-kept
returns-clause-kept c = kept_spared

pub returns-clause-retained : goal.returns-clause-retained
returns-clause-retained c = retained_spared
