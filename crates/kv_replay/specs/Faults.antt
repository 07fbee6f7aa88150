-- The refusals that end a replay.
use Rattle.std.specs.Prelude.{◌≡◌, ⊤, Result, Err, IsOk}
use Rattle.kv_keys.specs.declared.error.KvError.{KvError}
use Rattle.kv_keys.specs.declared.error.KvError.TheVariants.{OutOfMemory, BadBucket, BadConfig, ReadFault, WriteFault}

-- the writer failed, or memory ran out
abbrev pub IsWriteOrMemory : KvError → Type 0
IsWriteOrMemory OutOfMemory = ⊤
IsWriteOrMemory WriteFault = ⊤
IsWriteOrMemory error = ⊥

-- why a run ends early under a configuration of this outcome: its refusal, and nothing else, where it is not legal;
-- else want of memory, or a device that failed
abbrev pub EndsRun : {X : Type 0} → KvError → Result X KvError → Type 0
EndsRun {X} OutOfMemory outcome = IsOk outcome
EndsRun {X} BadBucket outcome = outcome ≡ Err BadBucket
EndsRun {X} BadConfig outcome = outcome ≡ Err BadConfig
EndsRun {X} ReadFault outcome = IsOk outcome
EndsRun {X} WriteFault outcome = IsOk outcome
EndsRun {X} error outcome = ⊥

-- memory ran out, or a device failed
abbrev pub IsRunFault : KvError → Type 0
IsRunFault OutOfMemory = ⊤
IsRunFault ReadFault = ⊤
IsRunFault WriteFault = ⊤
IsRunFault error = ⊥

-- the configuration is not legal
abbrev pub IsBadConfiguration : KvError → Type 0
IsBadConfiguration BadBucket = ⊤
IsBadConfiguration BadConfig = ⊤
IsBadConfiguration error = ⊥

-- a refusal for its own cause, and not for want of memory
abbrev pub IsRefusal : KvError → Type 0
IsRefusal OutOfMemory = ⊥
IsRefusal error = ⊤
