-- What an error tells of the outcome that the rules give.
use Rattle.std.specs.Prelude.{◌≡◌, Result, Err, IsOk}
use Rattle.kv_keys.specs.declared.error.KvError.{KvError}
use Rattle.kv_keys.specs.declared.error.KvError.TheVariants.{OutOfMemory}

-- the error is the refusal that the rules give; want of memory comes only where they refuse nothing
abbrev pub Refuses : {X : Type 0} → KvError → Result X KvError → Type 0
Refuses {X} OutOfMemory outcome = IsOk outcome
Refuses {X} error outcome = outcome ≡ Err error
