-- What Rattle knows of a file that the shell writes.
use Rattle.std.specs.Prelude.{◌≡◌, ℕ, Bool, true, List, [], ◌++◌, IfSome}
use Rattle.kv_c.specs.declared.outbox.Outbox.{Outbox}

-- Its bytes, until they are read. What it has behind that is not known to a proof: a bucket goes on as if it had whatever
-- it was lent. Where nothing is loose a sync was asked for.
abbrev pub lends : Outbox → List ℕ → List ℕ → Type 0
lends outbox kept loose = IfSome outbox.found (λ bytes. bytes.items ≡ kept ++ loose) × (loose ≡ [] → outbox.is_clean ≡ true)

abbrev pub never_fails : Outbox → Bool
never_fails outbox = true

abbrev pub no_faults : Outbox → ℕ
no_faults outbox = 0
