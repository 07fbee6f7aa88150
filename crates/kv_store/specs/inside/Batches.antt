-- What one request of a batch leaves of a version.
use Rattle.std.specs.Prelude.{◌≡◌, List, [], ◌∷◌, ◌++◌, Ok}
use Rattle.kv_model.specs.Acceptance.{accept}
use Rattle.kv_model.specs.Acts.{Act, Wrote, Write}
use Rattle.kv_model.specs.Requests.{Asked}
use Rattle.kv_store.specs.Standing.{StandsFor}
use Rattle.kv_store.specs.Stored.{Stored}

abbrev pub LeavesOne : Asked → Stored → Stored → Type 0
LeavesOne request old new = (acts : List Act) → StandsFor acts old →
    (w : Write) × ((accept old.config request acts ≡ Ok w) × StandsFor (acts ++ Wrote w ∷ []) new)
