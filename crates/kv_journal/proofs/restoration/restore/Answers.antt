use Rattle.std.proofs.Common.{subst}
use Rattle.kv_model.specs.Configuration.{IsLegal}
use Rattle.kv_journal.proofs.Leads.{led_to, of_no_acts}
use Rattle.kv_journal.specs.inside.Contents.{checkpoint_told}
use Rattle.kv_journal.proofs.restoration.restore.Goals as goal

pub returns-in-Ok-Some-clause-ok : goal.returns-in-Ok-Some-clause-ok
returns-in-Ok-Some-clause-ok c =
    let config = c.args.config.now in
    let legal : IsLegal config = subst IsLegal c.requires.config c.requires.stands.legal in
    let told = c.in-Ok.ensures.ok in
    let reached = rw c.in-Ok-Some.field-0-is at c.in-Ok-Some.ensures.found in
    led_to config c.args.framing.now.seed c.args.at c.args.bytes.now (checkpoint_told c.in-Ok.contents) told.0 legal told.1 told.2 (told.4 config legal) reached.0 c.in-Ok-Some.version reached.1 c.in-Ok.contents.offset told.3

pub returns-in-Ok-None-clause-damaged : goal.returns-in-Ok-None-clause-damaged
returns-in-Ok-None-clause-damaged c = λ _.
    let config = c.args.config.now in
    let legal : IsLegal config = subst IsLegal c.requires.config c.requires.stands.legal in
    let told = c.in-Ok.ensures.ok in
    of_no_acts config c.args.framing.now.seed c.args.at c.args.bytes.now (checkpoint_told c.in-Ok.contents) legal (told.4 config legal) (rw c.in-Ok-None.field-0-is at c.in-Ok-None.ensures.found)

pub returns-in-Err-clause-damaged : goal.returns-in-Err-clause-damaged
returns-in-Err-clause-damaged c = λ is acts rest.
    let legal : IsLegal c.args.config.now = subst IsLegal c.requires.config c.requires.stands.legal in
    c.in-Err.ensures.damaged is c.args.config.now acts rest legal
