-- What stands at the front of bytes.
use Rattle.std.proofs.Common.{◌≡◌, ℕ, ◌+◌, ◌^◌, ◌<◌, List, [], ◌++◌, length, take, drop, refl, sym, ap, ◌∙◌, arith, length-append}
use Rattle.std.specs.Int.{w32, to_be_bytes, from_be_bytes}
use Rattle.std.proofs.lemmas.List.{take_at, drop_at}
use Rattle.std.proofs.lemmas.Nat.{from_be_bytes-to_be_bytes_4}
use Rattle.kv_frames.specs.Checksum.{checksum}
use Rattle.kv_frames.specs.Frames.{frame, BeginsWhole}

-- two numbers of four bytes each, and what stands behind them
abbrev pub header : ℕ → ℕ → List ℕ → List ℕ
header n s xs = to_be_bytes w32 n ++ (to_be_bytes w32 s ++ xs)

pub same_number : (n m : ℕ) → n < 2 ^ 32 → m < 2 ^ 32 → to_be_bytes w32 n ≡ to_be_bytes w32 m → n ≡ m
same_number n m hn hm e = sym (from_be_bytes-to_be_bytes_4 n hn) ∙ ap (from_be_bytes w32) e ∙ from_be_bytes-to_be_bytes_4 m hm

pub header_parts : (n s m t : ℕ) (xs ys : List ℕ) → n < 2 ^ 32 → m < 2 ^ 32 → header n s xs ≡ header m t ys → (n ≡ m) × (to_be_bytes w32 s ≡ to_be_bytes w32 t) × (xs ≡ ys)
header_parts n s m t xs ys hn hm e = (
  same_number n m hn hm (ap (λ (w : List ℕ). take 4 w) e),
  ap (λ (w : List ℕ). take 4 (drop 4 w)) e,
  ap (λ (w : List ℕ). drop 8 w) e,
)

-- of two lists in a row the first ones are equally long
pub sides : (p x q y : List ℕ) → length p ≡ length q → p ++ x ≡ q ++ y → (p ≡ q) × (x ≡ y)
sides p x q y len e = (
  sym (take_at p x (length p) refl) ∙ ap (λ (w : List ℕ). take (length p) w) e ∙ take_at q y (length p) (sym len),
  sym (drop_at p x (length p) refl) ∙ ap (λ (w : List ℕ). drop (length p) w) e ∙ drop_at q y (length p) (sym len),
)

-- no frame begins as another one does
pub frame_parts : (seed at : ℕ) (p x q y : List ℕ) → length p < 2 ^ 32 → length q < 2 ^ 32 → frame seed at p ++ x ≡ frame seed at q ++ y → (p ≡ q) × (x ≡ y)
frame_parts seed at p x q y hp hq e =
    let h = header_parts (length p) (checksum seed at p) (length q) (checksum seed at q) (p ++ x) (q ++ y) hp hq e in
    sides p x q y h.0 h.2

pub length_frame : (seed at : ℕ) (p x : List ℕ) → length (frame seed at p ++ x) ≡ 8 + length p + length x
length_frame seed at p x = omega (arith, length-append p x)

-- nothing stands in nothing
pub nothing_whole : (seed at : ℕ) → BeginsWhole seed at [] → ⊥
nothing_whole seed at b =
    let e : length {A = ℕ} [] ≡ length (frame seed at b.0 ++ b.1) = ap (λ (w : List ℕ). length w) b.3 in
    omega (arith, e, length_frame seed at b.0 b.1)
