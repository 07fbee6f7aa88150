use Rattle.kv_race.proofs.Once.{told, told_once}
use Rattle.kv_race.proofs.laws.told_write_is_seen_once.Goals as goal

pub returns : goal.returns
returns c = λ config request revision before later acts filters options p begins lawful.
    told_once config.history request revision acts filters options (told config request revision before later acts p begins lawful)
