-- Whether what stands behind the whole frames of a file is damage, or an end that was torn off.
use Rattle.std.specs.Prelude.{◌≡◌, ◌⊎◌, ℕ, ◌+◌, ◌<◌, ◌≤◌, List, ◌++◌, length, take, drop}
use Rattle.std.specs.Int.{w32, from_be_bytes}
use Rattle.kv_frames.specs.Frames.{IsPayload, frame}

-- the longest frame of an entry of one act: of a put with a key of 255 bytes and a value of 1,048,576
abbrev pub longest_frame : ℕ
longest_frame = 1048845

-- so far behind the bad offset frames are looked for
abbrev pub search_length : ℕ
search_length = 2097152

-- what the payload of an entry says of the bytes before its frame: so many were not known to be on the disk
abbrev pub loose_in : List ℕ → ℕ
loose_in payload = from_be_bytes w32 (take 4 payload)

-- where the frame ends that bytes begin with, if its length is right
abbrev pub told_end : List ℕ → ℕ
told_end bytes = 8 + from_be_bytes w32 (take 4 bytes)

-- so far behind the beginning of the bytes, which lie at this offset of the file, stands the whole frame of an entry, at the
-- front of what is seen there, and says that the beginning was on the disk when it was added
pub record IsOnDiskBy (seed at : ℕ) (bytes seen : List ℕ) (n : ℕ) (payload rest : List ℕ) : Type 0 where
  pub behind : 0 < n
  pub within : n < length bytes
  pub is_payload : IsPayload payload
  pub is_entry : 4 ≤ length payload
  pub stands : seen ≡ frame seed (at + n) payload ++ rest
  pub said : loose_in payload < n

-- a frame says so that is near, and no longer than that of one act
abbrev pub IsOnDiskNear : (seed at : ℕ) → List ℕ → ℕ → (payload rest : List ℕ) → Type 0
IsOnDiskNear seed at bytes n payload rest = (n < search_length) × IsOnDiskBy seed at bytes (take longest_frame (drop n bytes)) n payload rest

-- a frame says so, of any length, that stands where the one before it ends, which may be that of a long batch
abbrev pub IsOnDiskNext : (seed at : ℕ) → List ℕ → (payload rest : List ℕ) → Type 0
IsOnDiskNext seed at bytes payload rest = IsOnDiskBy seed at bytes (drop (told_end bytes) bytes) (told_end bytes) payload rest

-- so far behind stands one of these two
pub record IsShownBy (seed at : ℕ) (bytes : List ℕ) (n : ℕ) (payload rest : List ℕ) : Type 0 where
  pub shown : IsOnDiskNear seed at bytes n payload rest ⊎ ((n ≡ told_end bytes) × IsOnDiskNext seed at bytes payload rest)

-- the bytes, at whose beginning no whole frame stands, were damaged after they had come onto the disk
abbrev pub ShowsDamage : (seed at : ℕ) → List ℕ → Type 0
ShowsDamage seed at bytes = (n : ℕ) × (payload : List ℕ) × (rest : List ℕ) × IsShownBy seed at bytes n payload rest
