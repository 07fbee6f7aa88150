-- Frames: what stands in a file for a list of payloads.
use Rattle.std.specs.Prelude.{◌≡◌, ℕ, ◌+◌, ◌^◌, ◌<◌, List, [], ◌∷◌, ◌++◌, length}
use Rattle.std.specs.Int.{w32, to_be_bytes}
use Rattle.std.specs.List.{AllByRecursion}
use Rattle.kv_frames.specs.Checksum.{checksum}

-- a frame: four bytes of length, four of checksum, and the payload
abbrev pub frame : (seed at : ℕ) → List ℕ → List ℕ
frame seed at payload = to_be_bytes w32 (length payload) ++ (to_be_bytes w32 (checksum seed at payload) ++ payload)

-- the frames of these payloads, one behind the other, where the first begins at this offset
abbrev pub frames : (seed at : ℕ) → List (List ℕ) → List ℕ
frames seed at [] = []
frames seed at (p ∷ ps) = frame seed at p ++ frames seed (at + (8 + length p)) ps

-- the offset behind them
abbrev pub offset_after : ℕ → List (List ℕ) → ℕ
offset_after at [] = at
offset_after at (p ∷ ps) = offset_after (at + (8 + length p)) ps

-- a payload has 1 to 4,294,967,295 bytes
abbrev pub IsPayload : List ℕ → Type 0
IsPayload payload = (0 < length payload) × (length payload < 2 ^ 32)

abbrev pub ArePayloads : List (List ℕ) → Type 0
ArePayloads payloads = AllByRecursion IsPayload payloads

-- a whole frame stands at the front
abbrev pub BeginsWhole : (seed at : ℕ) → List ℕ → Type 0
BeginsWhole seed at bytes = (payload : List ℕ) × (rest : List ℕ) × IsPayload payload × (bytes ≡ frame seed at payload ++ rest)

-- the bytes are the frames of these payloads, and then a rest at whose front no whole frame stands
pub record Splits (seed at : ℕ) (bytes : List ℕ) (payloads : List (List ℕ)) (rest : List ℕ) : Type 0 where
  pub whole : bytes ≡ frames seed at payloads ++ rest
  pub each : ArePayloads payloads
  pub ended : BeginsWhole seed (offset_after at payloads) rest → ⊥
