-- What a replay did: `unread` and `left` are the bytes that the source had and has, `held` and `holds` those of the
-- sink, where they are known.
use Rattle.std.specs.Prelude.{◌≡◌, ◌⊎◌, ℕ, List, [], ◌∷◌, ◌++◌, Option}
use Rattle.std.specs.Io.{StartsWith}
use Rattle.std.specs.Io.KnownBytes.{Appends, Consumes, IsAtEnd}

-- a text of whole lines: it is empty, or a line feed ends it
abbrev pub IsWholeLines : List ℕ → Type 0
IsWholeLines text = (text ≡ []) ⊎ ((front : List ℕ) × (text ≡ front ++ 10 ∷ []))

module _ (script_text whole_text : List ℕ → List ℕ) (unread left held holds : Option (List ℕ)) where
  -- all was read, and its text was written
  pub record Replays : Type 0 where
    pub input : List ℕ
    pub read : Consumes unread left input
    pub complete : IsAtEnd left
    pub written : Appends held holds (script_text input)

  -- the reading broke off: the text of the lines that were whole by then was written
  pub record Breaks : Type 0 where
    pub input : List ℕ
    pub read : Consumes unread left input
    pub written : Appends held holds (whole_text input)

  -- a beginning of the text of what was read was written
  pub record Stops : Type 0 where
    pub input : List ℕ
    pub read : Consumes unread left input
    pub text : List ℕ
    pub begins : StartsWith (script_text input) text
    pub written : Appends held holds text

  -- the same, of whole lines
  pub record StopsWhole : Type 0 where
    pub input : List ℕ
    pub read : Consumes unread left input
    pub text : List ℕ
    pub begins : StartsWith (script_text input) text
    pub whole : IsWholeLines text
    pub written : Appends held holds text
