use Rattle.kv_race.proofs.Once.{told, told_stands}
use Rattle.kv_race.proofs.laws.told_write_stands.Goals as goal

pub returns : goal.returns
returns c = λ config request revision before later acts p begins lawful.
    told_stands request revision acts (told config request revision before later acts p begins lawful)
