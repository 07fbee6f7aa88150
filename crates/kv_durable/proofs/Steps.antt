-- A version after a write, in place of a bucket's own, is one step of the model.
use Rattle.std.proofs.Common.{◌≡◌, ℕ, List, [], ◌∷◌, ◌++◌, Ok}
use Rattle.kv_model.specs.Acceptance.{accept}
use Rattle.kv_model.specs.Acts.{Act, Wrote, Write}
use Rattle.kv_model.specs.Answers.{Revision}
use Rattle.kv_model.specs.Requests.{asked}
use Rattle.kv_model.specs.declared.call.Call.TheVariants as calls
use Rattle.kv_model.specs.declared.request.Request.{Request}
use Rattle.kv_store.specs.Standing.{StandsFor}
use Rattle.kv_store.specs.Stored.{Stored}
use Rattle.kv_single.specs.Held.{Bucketed}
use Rattle.kv_single.specs.Stepping.{IsStep}
use Rattle.kv_single.proofs.Answering.{write_done}

pub write_steps : (bucket : Bucketed) (request : Request) (revision : ℕ) (version : Stored) → version.config ≡ bucket.version.config
    → ((acts : List Act) → StandsFor acts bucket.version → (w : Write) × ((accept bucket.version.config (asked request) acts ≡ Ok w) × StandsFor (acts ++ Wrote w ∷ []) version))
    → revision ≡ version.last → IsStep bucket (calls.Write request) (Revision revision) (record bucket { version = version })
write_steps bucket request revision version same ok number = λ state r. write_done state bucket (asked request) version revision r same ok number
