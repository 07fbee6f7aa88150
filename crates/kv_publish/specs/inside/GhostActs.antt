-- The act that a ghost act stands for.
use Rattle.kv_model.specs.Acts.{Act}
use Rattle.kv_model.specs.Acts as acts
use Rattle.kv_model.specs.Requests.{asked, write_for}
use Rattle.kv_publish.specs.declared.ghost_act.Kind.{Kind}
use Rattle.kv_publish.specs.declared.ghost_act.Kind.TheVariants as kinds

abbrev pub act_of : Kind → Act
act_of (kinds.Wrote request revision) = acts.Wrote (write_for (asked request.value) revision)
act_of kinds.Seal = acts.Seal
act_of (kinds.Compact floor) = acts.Compact floor
