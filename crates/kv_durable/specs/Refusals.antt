-- The number and the name of each refusal of a durable bucket, as users read them: those of the rules, and four of files.
use Rattle.std.specs.Prelude.{ℕ, List, ⊤, codes}
use Rattle.kv_keys.specs.Refusals.{code_of, name_of}
use Rattle.kv_file.specs.declared.system.OpenFault.{OpenFault}
use Rattle.kv_file.specs.declared.system.OpenFault.TheVariants.{Busy, Failed}
use Rattle.kv_durable.specs.declared.error.DurableError.{DurableError}
use Rattle.kv_durable.specs.declared.error.DurableError.TheVariants.{Refused, FileFault, FileDamaged, FileBusy, OtherBucket}

abbrev pub durable_code : DurableError → ℕ
durable_code (Refused error) = code_of error
durable_code FileFault = 22
durable_code (FileDamaged at) = 23
durable_code FileBusy = 24
durable_code OtherBucket = 25

abbrev pub durable_name : DurableError → List ℕ
durable_name (Refused error) = name_of error
durable_name FileFault = codes "FileFault"
durable_name (FileDamaged at) = codes "FileDamaged"
durable_name FileBusy = codes "FileBusy"
durable_name OtherBucket = codes "OtherBucket"

-- why a file of the system was not opened
abbrev pub refusal_of : OpenFault → DurableError
refusal_of Busy = FileBusy
refusal_of Failed = FileFault

abbrev pub IsDamaged : DurableError → Type 0
IsDamaged (FileDamaged at) = ⊤
IsDamaged error = ⊥
