-- The rule of a log of histories, and what its steps tell.
use Rattle.std.specs.Prelude.{ℕ, ◌≡◌, ◌+◌, ◌-◌, ◌≤◌, ◌<◌, ◌==◌, Bool, true, false, List, [], ◌∷◌, ◌++◌, length, map, slice_get}
use Rattle.std.specs.Option.{option_map_or}
use Rattle.logbook.specs.Pages.{Cell, Step, View, Book, Named, cell, nib, may_make, may_write}
use Rattle.kv_model.specs.Acts.{Act, Seal, IsPrefix}
use Rattle.kv_publish.specs.declared.entry.Entry.{Entry}

abbrev pub entry : Act → Bool → ℕ → ℕ → Entry
entry act ends right next = record { ghost_act = act; ends = ends; right = right; next = next }

-- stands where a step asks for nothing
abbrev pub no_entry : Entry
no_entry = entry Seal true 0 0

-- the acts of a history
abbrev pub acts_in : List Entry → List Act
acts_in log = map (λ e. e.ghost_act) log

-- whether a step ends with the entry at a place; where there is none, none goes on
abbrev pub ends_at : List Entry → ℕ → Bool
ends_at log i = option_map_or (λ e. e.ends) (slice_get log i) true

-- the last of these entries ends a step, if there is one
abbrev pub IsWhole : List Entry → Type 0
IsWhole log = ends_at log (length log - 1) ≡ true

-- from this place on they are one step: none of them ends one but the last
abbrev pub IsStepFrom : ℕ → List Entry → Type 0
IsStepFrom before log = (i : ℕ) → before ≤ i → i + 1 < length log → ends_at log i ≡ false

-- the right to add an entry behind these, where the one behind nothing is `first`
abbrev pub right_behind : ℕ → List Entry → ℕ
right_behind first [] = first
right_behind first (e ∷ log) = right_behind e.next log

abbrev pub whether : Bool → List Entry → List Entry → List Entry
whether true xs ys = xs
whether false xs ys = ys

-- the history that begins with a right: the entry of a log that was added by it, then the one by the right that this
-- names, and so on
abbrev pub history_from : ℕ → List Entry → List Entry
history_from right [] = []
history_from right (e ∷ log) = whether (e.right == right) (e ∷ history_from e.next log) (history_from right log)

-- each entry was added by who had the right: the cell of that right came home with it, and only its pen could bring it
abbrev pub Came : List Cell → List Entry → Type 0
Came cells [] = Unit {0}
Came cells (e ∷ log) = ((cell cells e.right).1 ≡ true) × Came cells log

-- the first word, on which the steps are made, is at home from the beginning
pub record IsKept (cells : List Cell) (log : List Entry) : Type 0 where
  pub head : (cell cells 0).1 ≡ true
  pub came : Came cells log

abbrev pub head_of : Book → Named
head_of b = record { tracked = true; key = 0; book = b }

-- the word is the second or the third of the book: the right to be a copy
pub record IsSide (book : Book) (word : Named) : Type 0 where
  pub tracked : word.tracked ≡ true
  pub of : word.book ≡ book
  pub behind : 0 < word.key
  pub within : word.key < 3

-- a cell was added, and its pen is had: a right by which nothing was added yet
abbrev pub Making : Step Entry → View Entry ℕ → ℕ → View Entry ℕ → Type 0
Making s v found w = (key : ℕ) × ((w.1.0 ≡ nib may_make key 0) × (history_from key w.0 ≡ []))

-- the entry was added behind all of the history that its right is behind
abbrev pub Adding : Step Entry → View Entry ℕ → ℕ → View Entry ℕ → Type 0
Adding s v found w = (first : ℕ) → s.ask.right ≡ right_behind first (history_from first v.0) →
    history_from first w.0 ≡ history_from first v.0 ++ s.ask ∷ []

-- acts of which this is known were added by a right by which nothing was added before, and no other act ever will be by it
abbrev pub Choosing : (List Act → Type 0) → Step Entry → View Entry ℕ → ℕ → View Entry ℕ → Type 0
Choosing holds s v found w = (key : ℕ) → v.1.0 ≡ nib may_write key 0 → holds (acts_in (history_from key w.0))

-- the pen stays; where it is the right to add an entry behind some that were seen of a history, these are all that it has
abbrev pub Looking : Step Entry → View Entry ℕ → ℕ → View Entry ℕ → Type 0
Looking s v found w = (w.1.0 ≡ v.1.0) ×
    ((first : ℕ) (all : List Entry) → IsPrefix all (history_from first v.0) → v.1.0 ≡ nib may_write (right_behind first all) 0 →
    history_from first w.0 ≡ all)
