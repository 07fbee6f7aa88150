-- A script byte by byte: the state so far, and the line that has begun.
use Rattle.std.specs.Prelude.{ℕ, ◌+◌, ◌-◌, ◌==◌, nat_lt, if◌then◌else◌, List, [], ◌∷◌, ◌++◌, length, take}

-- no more bytes of a line are kept than show that it is too long
pub record Reading (S : Type 0) : Type 0 where
  pub state : S
  pub line : List ℕ

abbrev pub beginning : {S : Type 0} → S → Reading S
beginning {S} s = record { state = s; line = [] }

-- a line, and so much of what follows in it as is kept
abbrev pub grown : ℕ → List ℕ → List ℕ → List ℕ
grown limit line part = line ++ take (limit + 1 - length line) part

-- after bytes that end no line
abbrev pub within : {S : Type 0} → ℕ → Reading S → List ℕ → Reading S
within {S} limit r part = record { state = r.state; line = grown limit r.line part }

module _ {S : Type 0} (limit : ℕ) (text : S → List ℕ → List ℕ) (next : S → List ℕ → S) where
  -- the answer to the line that has begun
  abbrev pub ended : Reading S → List ℕ
  ended r = text r.state r.line

  -- and what the end of the input says behind it
  abbrev pub closed : (S → List ℕ) → Reading S → List ℕ
  closed ending r = ended r ++ ending (next r.state r.line)

  -- behind its end
  abbrev pub line_ended : Reading S → Reading S
  line_ended r = record { state = next r.state r.line; line = [] }

  abbrev pub step : Reading S → ℕ → Reading S
  step r byte =
      if byte == 10 then line_ended r
      else (if nat_lt limit (length r.line) then r
      else record { state = r.state; line = r.line ++ byte ∷ [] })

  abbrev pub said_by : Reading S → ℕ → List ℕ
  said_by r byte = if byte == 10 then ended r else []

  -- after some bytes
  abbrev pub after_bytes : Reading S → List ℕ → Reading S
  after_bytes r [] = r
  after_bytes r (byte ∷ bytes) = after_bytes (step r byte) bytes

  -- the answers to the lines that they end
  abbrev pub said : Reading S → List ℕ → List ℕ
  said r [] = []
  said r (byte ∷ bytes) = said_by r byte ++ said (step r byte) bytes
