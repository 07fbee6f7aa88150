use Rattle.std.proofs.Common.{sym, subst}
use Rattle.kv_journal.specs.Checkpoints.{checkpoint_of, checkpoint_payloads}
use Rattle.kv_journal.specs.Replays.{IsDamaged}
use Rattle.kv_model.specs.Configuration.{IsLegal}
use Rattle.kv_durable.proofs.Starting.{is_started, knows_acts}
use Rattle.kv_durable.proofs.start.restored_of.Goals as goal

pub returns-in-Ok-clause-ok : goal.returns-in-Ok-clause-ok
returns-in-Ok-clause-ok c =
    let config = c.args.config.now in
    let begun = c.args.begun.now in
    let o = c.in-Ok.ensures.ok in
    let made = checkpoint_of config o.0 in (
      checkpoint_payloads made,
      o.1,
      is_started config begun.framing.seed begun.offset c.args.bytes.now (subst IsLegal c.requires.config c.requires.stands.legal) c.requires.checkpoint made o.1 o.4 o.3 o.7 c.in-Ok.restored.version c.in-Ok.restored.offset
          (knows_acts config o.0 o.2) o.5 o.6,
    )

pub returns-in-Err-Damaged-clause-damaged : goal.returns-in-Err-Damaged-clause-damaged
returns-in-Err-Damaged-clause-damaged c = λ _ acts rest lawful each whole.
    c.in-Err-Damaged.ensures.damaged (subst IsDamaged (sym c.in-Err-Damaged.field-0-is) tt) acts rest lawful each whole
