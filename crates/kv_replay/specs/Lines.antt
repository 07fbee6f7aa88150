-- The lines of a script, and the text that answers them, for whatever answers a line.
use Rattle.std.specs.Prelude.{ℕ, ◌==◌, List, [], ◌∷◌, ◌++◌}
use Rattle.std.specs.List.{slice_split}

-- the lines: what stands before each line feed, and behind the last one
abbrev pub lines_of : List ℕ → List (List ℕ)
lines_of input = slice_split (λ byte. byte == 10) input

-- the lines that a line feed ends
abbrev pub but_last : List (List ℕ) → List (List ℕ)
but_last [] = []
but_last (line ∷ []) = []
but_last (line ∷ next ∷ lines) = line ∷ but_last (next ∷ lines)

module _ {S : Type 0} (text : S → List ℕ → List ℕ) (next : S → List ℕ → S) (ending : S → List ℕ) where
  -- the text of lines: each is answered from the state that the ones before it left, and so is their end
  abbrev pub texts : S → List (List ℕ) → List ℕ
  texts s [] = ending s
  texts s (line ∷ lines) = text s line ++ texts (next s line) lines

-- the state behind lines
abbrev pub behind : {S : Type 0} → (S → List ℕ → S) → S → List (List ℕ) → S
behind {S} next s [] = s
behind {S} next s (line ∷ lines) = behind next (next s line) lines
