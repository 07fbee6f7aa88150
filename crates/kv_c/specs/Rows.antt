-- Calls of C in a row, and what each of them tells.
use Rattle.std.specs.Prelude.{◌≡◌, ℕ, ◌+◌, List, [], ◌∷◌, ◌++◌, Option}
use Rattle.kv_c.specs.Batching.{Batches}
use Rattle.kv_c.specs.Calling.{StaysAs, Steps}
use Rattle.kv_c.specs.declared.content.Content.{Content}
use Rattle.kv_model.specs.Answers.{Revision}
use Rattle.kv_model.specs.Runs.{Exchange}
use Rattle.kv_model.specs.declared.call.Call.TheVariants as calls
use Rattle.kv_model.specs.declared.request.Request.{Request}

-- what a call did: where it answered 0 one step of the model, with its answer, or a batch of these requests, of which the
-- first got this revision; where it was given up, or was a checkpoint, none
pub data Done : Type 0 where
  step : (exchange : Exchange) → Done
  batch : (requests : List Request) → (first : ℕ) → Done
  failed : Done

-- a batch is a call for each of its requests, and their revisions go on from the first
abbrev pub written : List Request → ℕ → List Exchange
written [] first = []
written (request ∷ requests) first =
    record { call = calls.Write request; answer = Revision first } ∷ written requests (first + 1)

abbrev pub exchanges_of : Done → List Exchange
exchanges_of (step exchange) = exchange ∷ []
exchanges_of (batch requests first) = written requests first
exchanges_of failed = []

-- the exchanges of calls in a row
abbrev pub told : List Done → List Exchange
told [] = []
told (done ∷ more) = exchanges_of done ++ told more

-- what a handle holds before and after a call
abbrev pub Does : Done → Option Content → Option Content → Type 0
Does (step exchange) old new = Steps exchange.call exchange.answer old new
Does (batch requests first) old new = Batches requests old first new
Does failed old new = StaysAs old new

-- the same of calls in a row
abbrev pub AreDone : Option Content → List Done → Option Content → Type 0
AreDone old [] new = new ≡ old
AreDone old (done ∷ more) new = (next : Option Content) × Does done old next × AreDone next more new
