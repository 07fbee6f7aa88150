-- Where a revision stands in its trie.
use Rattle.std.specs.Prelude.{ℕ, ◌+◌, ◌*◌, ◌/◌, ◌%◌}

-- a revision with the five lowest of its digits of five bits turned, the highest of them first: so what was written one
-- after another stands side by side
unfoldable pub place_of_revision : ℕ → ℕ
place_of_revision n =
    n % 32 * 1048576
    + (n / 32 % 32 * 32768
    + (n / 1024 % 32 * 1024
    + (n / 32768 % 32 * 32
    + (n / 1048576 % 32
    + n / 33554432 * 33554432))))
