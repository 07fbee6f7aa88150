-- What is told of a file: `told` and `tells` are the bytes that the writer of faults held and holds, where they are known.
use Rattle.std.specs.Prelude.{ℕ, ◌⊎◌, ◌==◌, if◌then◌else◌, [], ◌∷◌, ◌++◌, codes, decimal, Option, Some, None}
use Rattle.std.specs.Io.KnownBytes.{Appends}
use Rattle.clap.specs.Walk.{Text}
use Rattle.kv_keys.specs.declared.error.KvError.TheVariants.{BadBucket, BadConfig}
use Rattle.kv_durable.specs.Refusals.{durable_name}
use Rattle.kv_durable.specs.declared.error.DurableError.{DurableError}
use Rattle.kv_durable.specs.declared.error.DurableError.TheVariants.{FileDamaged, Refused}
use Rattle.kv_run.specs.Arguments.{Wanted}

-- the line that names an error: of damage with the offset up to which the file is good
abbrev pub file_fault_text : DurableError → Text
file_fault_text (FileDamaged at) = codes "kvbucket: FileDamaged at byte " ++ (decimal at ++ 10 ∷ [])
file_fault_text error = codes "kvbucket: " ++ (durable_name error ++ 10 ∷ [])

-- the status that it comes to
abbrev pub file_status : DurableError → ℕ
file_status (Refused BadBucket) = 2
file_status (Refused BadConfig) = 2
file_status error = 1

-- the line that tells how many bytes at the end of a file count for nothing, and what became of them; where all count, there is none
abbrev pub torn_text : (what : Text) → (torn : ℕ) → (path : Text) → Text
torn_text what torn path =
    if torn == 0 then []
    else codes "kvbucket: " ++ (what ++ (32 ∷ decimal torn ++ (codes " bytes at the end of " ++ (path ++ 10 ∷ []))))

-- a run drops them from its file, and a dump leaves them out
abbrev pub torn_of : (journal dump : Option Text) → ℕ → Text
torn_of (Some path) dump torn = torn_text (codes "dropped") torn path
torn_of None (Some path) torn = torn_text (codes "left out") torn path
torn_of None None torn = []

-- that line of the file that the words name
abbrev pub torn_line : Wanted → ℕ → Text
torn_line wanted torn = torn_of wanted.journal wanted.dump torn

-- the line on the torn end of the file was told, if it has one, or the writer of faults failed
abbrev pub TellsTorn : Wanted → (told tells : Option Text) → (Failed : Type 0) → Type 0
TellsTorn wanted told tells Failed = ((torn : ℕ) × Appends told tells (torn_line wanted torn)) ⊎ Failed

-- and so was this text behind it
abbrev pub TellsBehind : Wanted → (told tells : Option Text) → (Failed : Type 0) → Text → Type 0
TellsBehind wanted told tells Failed text = ((torn : ℕ) × Appends told tells (torn_line wanted torn ++ text)) ⊎ Failed
