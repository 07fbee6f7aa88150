-- What a receipt tells.
use Rattle.std.specs.Prelude.{◌≡◌, ℕ, List, [], ◌∷◌, ◌++◌}
use Rattle.kv_model.specs.Acts.{Act, Wrote, Write}

-- the last of these acts is the write with this revision
abbrev pub EndsAt : ℕ → List Act → Type 0
EndsAt revision acts = (before : List Act) × (w : Write) × ((acts ≡ before ++ Wrote w ∷ []) × (w.revision ≡ revision))
