-- Which start the flags of a watch ask for.
use Rattle.std.specs.Prelude.{ℕ, Bool, true, false, Option, Some, None, Result, Ok, Err}
use Rattle.kv_keys.specs.declared.error.KvError.{KvError}
use Rattle.kv_keys.specs.declared.error.KvError.TheVariants.{OptionsClash}
use Rattle.kv_model.specs.declared.options.Start.{Start}
use Rattle.kv_model.specs.declared.options.Start.TheVariants.{Latest, History, Updates, From}

-- of history, updates and a first revision at most one may be given; where none is, the start is the latest entries
abbrev pub start_asked : Bool → Bool → Option ℕ → Result Start KvError
start_asked false false None = Ok Latest
start_asked true false None = Ok History
start_asked false true None = Ok Updates
start_asked false false (Some revision) = Ok (From revision)
start_asked true true None = Err OptionsClash
start_asked true false (Some revision) = Err OptionsClash
start_asked false true (Some revision) = Err OptionsClash
start_asked true true (Some revision) = Err OptionsClash
