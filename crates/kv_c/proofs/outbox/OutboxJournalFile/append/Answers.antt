use Rattle.std.proofs.Common.{◌≡◌, ℕ, List, [], ◌∷◌, ◌++◌}
use Rattle.kv_c.proofs.outbox.OutboxJournalFile.append.Goals as goal

-- of two lists that are none together the second is none
second_of : (xs ys : List ℕ) → xs ++ ys ≡ [] → ys ≡ []
second_of [] ys none = none
second_of (x ∷ xs) ys none = absurd cc

pub returns-clause-ok : goal.returns-clause-ok
returns-clause-ok c = λ works kept loose has. (tt, λ none. absurd (c.has_none.ensures.no c.if-has_none.false (second_of loose c.args.bytes.now none)))
