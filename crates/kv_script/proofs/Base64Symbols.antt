-- What each symbol of base64 and its padding pass, all of base64 passes.
use Rattle.std.proofs.Common.{◌≡◌, ℕ, zero, suc, ◌+◌, ◌*◌, ◌/◌, ◌%◌, ◌<◌, Bool, true, List, [], ◌∷◌, ◌++◌, length, replicate, slice_index, refl, ◌∙◌, arith}
use Rattle.std.specs.List.{list_all}
use Rattle.std.proofs.lemmas.Bool.{agree_below, agree_below_at, and_from}
use Rattle.std.proofs.lemmas.List.Folds.{list_all-append}
use Rattle.base64.specs.Engines.{standard}
use Rattle.base64.specs.GeneralPurpose.{IsBytes, encode_of}
use Rattle.base64.specs.Rfc4648.{encode_symbols, encode_group, padding_len}

-- the 64 symbols
abbrev symbols : List ℕ
symbols = standard.encode_table

-- each of them passes the test
abbrev pub PassEach : (ℕ → Bool) → Type 0
PassEach passes = agree_below (λ i. passes (slice_index symbols i)) (λ _. true) 64 ≡ true

module _ (passes : ℕ → Bool) (each : PassEach passes) where
  symbol_passes : (k : ℕ) → k < 64 → passes (slice_index symbols k) ≡ true
  symbol_passes k h = agree_below_at (λ i. passes (slice_index symbols i)) (λ _. true) 64 k each h

  one_more : (byte : ℕ) (bytes : List ℕ) → passes byte ≡ true → list_all passes bytes ≡ true → list_all passes (byte ∷ bytes) ≡ true
  one_more byte bytes one rest = and_from (passes byte) (list_all passes bytes) one rest

  both : (xs ys : List ℕ) → list_all passes xs ≡ true → list_all passes ys ≡ true → list_all passes (xs ++ ys) ≡ true
  both xs ys h k = list_all-append passes xs ys ∙ and_from _ _ h k

  one : (i : ℕ) → i < 64 → list_all passes (slice_index symbols i ∷ []) ≡ true
  one i h = one_more (slice_index symbols i) [] (symbol_passes i h) refl

  two : (i j : ℕ) → i < 64 → j < 64 → list_all passes (slice_index symbols i ∷ slice_index symbols j ∷ []) ≡ true
  two i j h k = one_more (slice_index symbols i) (slice_index symbols j ∷ []) (symbol_passes i h) (one j k)

  three : (i j k : ℕ) → i < 64 → j < 64 → k < 64 → list_all passes (slice_index symbols i ∷ slice_index symbols j ∷ slice_index symbols k ∷ []) ≡ true
  three i j k h l m = one_more (slice_index symbols i) (slice_index symbols j ∷ slice_index symbols k ∷ []) (symbol_passes i h) (two j k l m)

  group : (a b c : ℕ) → a < 256 → b < 256 → c < 256 → list_all passes (encode_group symbols a b c) ≡ true
  group a b c fits_a fits_b fits_c =
      one_more (slice_index symbols (a / 4))
      (slice_index symbols (a % 4 * 16 + b / 16) ∷ slice_index symbols (b % 16 * 4 + c / 64) ∷ slice_index symbols (c % 64) ∷ [])
      (symbol_passes (a / 4) (omega arith))
      (three (a % 4 * 16 + b / 16) (b % 16 * 4 + c / 64) (c % 64) (omega arith) (omega arith) (omega arith))

  all_symbols : (bytes : List ℕ) → IsBytes bytes → list_all passes (encode_symbols symbols bytes) ≡ true
  unfolding encode_symbols
  all_symbols [] h = refl
  all_symbols (a ∷ []) h =
      let fits : a < 256 = h 0 in
      two (a / 4) (a % 4 * 16) (omega arith) (omega arith)
  all_symbols (a ∷ b ∷ []) h =
      let fits_a : a < 256 = h 0 in
      let fits_b : b < 256 = h 1 in
      three (a / 4) (a % 4 * 16 + b / 16) (b % 16 * 4) (omega arith) (omega arith) (omega arith)
  all_symbols (a ∷ b ∷ c ∷ rest) h =
      both (encode_group symbols a b c) (encode_symbols symbols rest) (group a b c (h 0) (h 1) (h 2))
      (all_symbols rest (λ i. h (suc (suc (suc i)))))

  padding : passes 61 ≡ true → (count : ℕ) → list_all passes (replicate count 61) ≡ true
  padding pads zero = refl
  padding pads (suc count) = one_more 61 (replicate count 61) pads (padding pads count)

  pub base64_passes : passes 61 ≡ true → (bytes : List ℕ) → IsBytes bytes → list_all passes (encode_of standard bytes) ≡ true
  base64_passes pads bytes h =
      both (encode_symbols symbols bytes) (replicate (padding_len (length bytes)) 61) (all_symbols bytes h) (padding pads (padding_len (length bytes)))
