-- What the followers of a service answer.
use Rattle.std.specs.Prelude.{◌≡◌, ℕ, ◌<◌, List, length, slice_index_or}

-- each has its place for its number
abbrev pub AreNumbered : {T : Type 0} → (T → ℕ) → List T → Type 0
AreNumbered {T} number xs = (i : ℕ) (d : T) → i < length xs → number (slice_index_or xs i d) ≡ i

-- there are so many answers, and each is one that the follower of its number gives
abbrev pub AnswersEach : {A : Type 0} → (ℕ → A → Type 0) → ℕ → List A → Type 0
AnswersEach {A} follows readers answers = (length answers ≡ readers) ×
    ((i : ℕ) (d : A) → i < readers → follows i (slice_index_or answers i d))
