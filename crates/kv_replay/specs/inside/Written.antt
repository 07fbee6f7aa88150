-- What was appended or written where a call ended early.
use Rattle.std.specs.Prelude.{◌≡◌, ℕ, List, ◌++◌, Option}
use Rattle.std.specs.Io.KnownBytes.{Appends}
use Rattle.kv_replay.specs.Outcome.{IsWholeLines}

-- whole lines from the beginning of a text
pub record AppendsFront (all old new : List ℕ) : Type 0 where
  pub front : List ℕ
  pub rest : List ℕ
  pub parts : all ≡ front ++ rest
  pub whole : IsWholeLines front
  pub appended : new ≡ old ++ front

-- a beginning of a text went to a sink
pub record Puts (all : List ℕ) (held holds : Option (List ℕ)) : Type 0 where
  pub front : List ℕ
  pub rest : List ℕ
  pub parts : all ≡ front ++ rest
  pub written : Appends held holds front

-- the same, of whole lines
pub record PutsWhole (all : List ℕ) (held holds : Option (List ℕ)) : Type 0 where
  pub front : List ℕ
  pub rest : List ℕ
  pub parts : all ≡ front ++ rest
  pub whole : IsWholeLines front
  pub written : Appends held holds front

-- of what waits and a text behind it, the first part went to a sink, and the rest waits
pub record Pours (text : List ℕ) (held : Option (List ℕ)) (waited : List ℕ) (holds : Option (List ℕ))
    (waits : List ℕ) : Type 0 where
  pub gone : List ℕ
  pub parts : waited ++ text ≡ gone ++ waits
  pub written : Appends held holds gone

-- the same, of whole lines from the beginning of a text
pub record PoursFront (all : List ℕ) (held : Option (List ℕ)) (waited : List ℕ) (holds : Option (List ℕ))
    (waits : List ℕ) : Type 0 where
  pub front : List ℕ
  pub rest : List ℕ
  pub parts : all ≡ front ++ rest
  pub whole : IsWholeLines front
  pub poured : Pours front held waited holds waits
