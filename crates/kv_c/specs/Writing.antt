-- What a call does that asks for a write.
use Rattle.std.specs.Prelude.{◌≡◌, ℕ, true, Option, Err, IsFalse}
use Rattle.kv_c.specs.Calling.{Accepts, StandsAt, holds_bucket}
use Rattle.kv_c.specs.Codes as codes
use Rattle.kv_c.specs.Codes.{code_by, outcome, stopped_code}
use Rattle.kv_c.specs.Making.{Makes, MakesAsked, stopped_in}
use Rattle.kv_c.specs.declared.content.Content.{Content}
use Rattle.kv_keys.specs.declared.error.KvError.TheVariants.{WrongLastRevision}
use Rattle.kv_model.specs.Requests.{Asked}
use Rattle.kv_model.specs.State.{State}

-- With 0 the write is accepted, and its revision is handed out; with 38 it is made, and waits for the shell. Else the code is
-- that of its refusal, and nothing changes; with 11 the key's last revision is handed out. With 22 nothing more is added to the
-- file of the bucket, and with 32 there is no bucket.
pub record Writes (what : Asked) (old : Option Content) (before code after : ℕ) (new : Option Content) : Type 0 where
  pub accepted : code ≡ 0 → Accepts what old after new
  pub made : code ≡ 38 → Makes (MakesAsked what) old new
  pub told : (state : State) → StandsAt state old → ¬ (code ≡ 1) → ¬ (code ≡ 22) → ¬ (code ≡ 38) →
      code ≡ code_by codes.accepted (outcome what state)
  pub last : code ≡ 11 → (state : State) → StandsAt state old → outcome what state ≡ Err (WrongLastRevision after)
  pub untold : ¬ (code ≡ 0) → ¬ (code ≡ 11) → after ≡ before
  pub refused : ¬ (code ≡ 0) → ¬ (code ≡ 38) → new ≡ old
  pub fault : code ≡ 22 → stopped_in old ≡ true
  pub stopped : stopped_in old ≡ true → ¬ (code ≡ 1) → code ≡ stopped_code what
  pub closed : IsFalse (holds_bucket old) → code ≡ 32
