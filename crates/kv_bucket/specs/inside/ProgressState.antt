-- What a contract sees of the progress of a reader.
use Rattle.std.specs.Prelude.{List}
use Rattle.kv_model.specs.Acts.{Act, IsPrefix}

-- the acts that it has seen, and those that it was told of
pub record ProgressState : Type 0 where
  pub seen : List Act
  pub told : List Act

-- these acts begin with all that it has seen, and with all that it was told: a reader enters on such a publication alone
abbrev pub IsWithin : List Act → ProgressState → Type 0
IsWithin acts progress = IsPrefix progress.seen acts × IsPrefix progress.told acts
