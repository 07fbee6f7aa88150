-- What is published of an opening.
use Rattle.std.specs.Prelude.{◌≡◌, List}
use Rattle.kv_model.specs.Acceptance.{IsLawful}
use Rattle.kv_model.specs.Acts.{Act, IsPrefix}
use Rattle.kv_publish.specs.Openings.{Opening}
use Rattle.kv_store.specs.Standing.{StandsFor}
use Rattle.kv_store.specs.Stored.{Stored}

-- a published history: one list of acts that are lawful under the configuration, which begins with those that the bucket had
-- when it was opened (a new one has none), and for each beginning of it, from these acts to all, a version that stands for that
pub record IsPublishedHistory (opening : Opening) (acts : List Act) : Type 0 where
  pub lawful : IsLawful opening.config acts
  pub begins : IsPrefix opening.book.began acts
  pub versions : (beginning : List Act) → IsPrefix opening.book.began beginning → IsPrefix beginning acts →
      (version : Stored) × ((version.config ≡ opening.config) × StandsFor beginning version)
