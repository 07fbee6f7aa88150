-- What each journal file begins with.
use Rattle.std.specs.Prelude.{◌≡◌, ℕ, ◌<◌, ◌^◌, List, [], ◌∷◌, ◌++◌}
use Rattle.std.specs.Int.{w32, w64, to_be_bytes}
use Rattle.kv_frames.specs.Frames.{IsPayload, frame}
use Rattle.kv_model.specs.Configuration.{Configuration}

-- "vilgoued" in ASCII, and the version of the format
abbrev pub magic : List ℕ
magic = 118 ∷ 105 ∷ 108 ∷ 103 ∷ 111 ∷ 117 ∷ 101 ∷ 100 ∷ 1 ∷ []

-- the first 17 bytes: these, and the seed of the file
abbrev pub header : ℕ → List ℕ
header seed = magic ++ to_be_bytes w64 seed

-- the record of a configuration: its kind, its four numbers, and the name, which is all the rest
abbrev pub configuration_record : Configuration → List ℕ
configuration_record config =
    6 ∷ (to_be_bytes w64 config.history ++ (to_be_bytes w64 config.value_limit ++ (to_be_bytes w64 config.write_limit ++ (to_be_bytes w64 config.revision_limit ++ config.bucket))))

-- the payload of the first frame, before which nothing is loose
abbrev pub configuration_payload : Configuration → List ℕ
configuration_payload config = to_be_bytes w32 0 ++ configuration_record config

-- the header, and the frame of the configuration
abbrev pub beginning : ℕ → Configuration → List ℕ
beginning seed config = header seed ++ frame seed 17 (configuration_payload config)

-- the bytes begin with a header and a whole frame of this payload
pub record BeginsWith (bytes : List ℕ) (seed : ℕ) (payload rest : List ℕ) : Type 0 where
  pub seed_fits : seed < 2 ^ 64
  pub is_payload : IsPayload payload
  pub stands : bytes ≡ header seed ++ (frame seed 17 payload ++ rest)
