use Rattle.kv_durable_script.proofs.Anew.{kept_anew, retained_anew, sealed_anew, stored_leads}
use Rattle.kv_durable_script.proofs.laws.a_dump_of_a_checkpoint_leads_to_what_is_kept.Goals as goal

pub returns-clause-acts : goal.returns-clause-acts
returns-clause-acts c = stored_leads

pub returns-clause-kept : goal.returns-clause-kept
returns-clause-kept c = kept_anew

pub returns-clause-retained : goal.returns-clause-retained
returns-clause-retained c = retained_anew

pub returns-clause-sealed : goal.returns-clause-sealed
returns-clause-sealed c = sealed_anew
