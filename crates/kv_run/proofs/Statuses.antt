-- A refusal of a run that has the status 2 is the one of its configuration.
use Rattle.std.proofs.Common.{◌≡◌, ℕ, List, Option, Some, None, Err, arith}
use Rattle.kv_keys.specs.declared.error.KvError.{KvError}
use Rattle.kv_keys.specs.declared.error.KvError.TheVariants.{OutOfMemory, BadBucket, BadConfig, NoReader, ReadFault, WriteFault}
use Rattle.kv_model.specs.Configuration.{Configuration, configure}
use Rattle.kv_race.specs.Openings.{may_race}
use Rattle.kv_script.specs.declared.form.Form.{Form}
use Rattle.kv_replay.specs.Faults.{IsBadConfiguration}
use Rattle.kv_run.specs.Programs.{RanAs, checked, status_of}
use Rattle.kv_run.specs.Races.{RanRace}
use Rattle.kv_replay.specs.Replaying.{Ran}

module _ (form : Form) (config : Configuration) (unread left held holds : Option (List ℕ)) where
  pub ran_refused : (e : KvError) → Ran form config unread left held holds (Err e) → status_of e ≡ 2 → configure config ≡ Err e
  ran_refused OutOfMemory ran two = absurd (omega (arith, two))
  ran_refused BadBucket ran two = ran.fault
  ran_refused BadConfig ran two = ran.fault
  ran_refused ReadFault ran two = absurd (omega (arith, two))
  ran_refused WriteFault ran two = absurd (omega (arith, two))
  ran_refused _ ran two = absurd ran.fault

module _ (form : Form) (config : Configuration) (workers : ℕ) (unread left held holds : Option (List ℕ)) where
  pub raced_refused : (e : KvError) → RanRace form config workers unread left held holds (Err e) → status_of e ≡ 2 → may_race config workers 0 ≡ Err e
  raced_refused OutOfMemory ran two = absurd (omega (arith, two))
  raced_refused BadBucket ran two = ran.fault
  raced_refused BadConfig ran two = ran.fault
  raced_refused NoReader ran two = absurd (omega (arith, two))
  raced_refused ReadFault ran two = absurd (omega (arith, two))
  raced_refused WriteFault ran two = absurd (omega (arith, two))
  raced_refused _ ran two = absurd ran.fault

pub run_refused : (form : Form) (race : Option ℕ) (config : Configuration) (unread left held holds : Option (List ℕ)) (e : KvError) → RanAs form race config unread left held holds (Err e) → status_of e ≡ 2
    → checked race config ≡ Err e
run_refused form None config unread left held holds e ran two = ran_refused form config unread left held holds e ran two
run_refused form (Some workers) config unread left held holds e ran two = raced_refused form config workers unread left held holds e ran two

-- only refusals of a configuration have it
pub status_two : (e : KvError) → status_of e ≡ 2 → IsBadConfiguration e
status_two BadBucket two = tt
status_two BadConfig two = tt
status_two _ two = absurd (omega (arith, two))
