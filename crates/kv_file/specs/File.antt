-- What a crash leaves of a file that only grows.
use Rattle.std.specs.Prelude.{◌≡◌, ℕ, ◌≤◌, List, ◌++◌, length}

-- what is on the disk, and behind that any bytes, no more than were handed over since
abbrev pub MayLeave : (kept loose left : List ℕ) → Type 0
MayLeave kept loose left = (tail : List ℕ) × (length tail ≤ length loose) × (left ≡ kept ++ tail)
