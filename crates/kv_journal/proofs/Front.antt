-- What a file begins with, it begins with alone.
use Rattle.std.proofs.Common.{◌≡◌, ℕ, ◌+◌, ◌<◌, ◌≤◌, ◌^◌, true, List, ◌++◌, length, take, drop, sym, ap, ◌∙◌, arith, append_assoc}
use Rattle.std.specs.Prelude.{Result, Ok, Err, OnOk, nat_lt, nat_le}
use Rattle.std.specs.Int.{w64, to_be_bytes}
use Rattle.std.specs.List.{list_all}
use Rattle.std.proofs.lemmas.Bool.{and_parts, leb-true}
use Rattle.kv_frames.specs.Frames.{IsPayload, BeginsWhole, frame}
use Rattle.kv_keys.specs.Grammar.{is_name, is_name_character, has_one_to}
use Rattle.kv_model.specs.Configuration.{Configuration, IsLegal}
use Rattle.kv_journal.specs.Header.{BeginsWith, header, magic, beginning, configuration_payload}
use Rattle.kv_journal.proofs.Saying.{same_number}

-- a name has at most 64 bytes
pub name_fits : (text : List ℕ) → is_name text ≡ true → length text ≤ 64
unfolding is_name
name_fits text h =
    let one = (and_parts (has_one_to 64 text) (list_all is_name_character text) h).0 in
    leb-true (length text) 64 (and_parts (nat_lt 0 (length text)) (nat_le (length text) 64) one).1

length_configuration : (config : Configuration) → length (configuration_payload config) ≡ 37 + length config.bucket
length_configuration config = omega arith

pub configuration_fits : (config : Configuration) (bytes : List ℕ) → bytes ≡ configuration_payload config → IsLegal config → IsPayload bytes
configuration_fits config bytes is legal =
    let long : length bytes ≡ length (configuration_payload config) = ap (λ (xs : List ℕ). length xs) is in
    let name = name_fits config.bucket legal.0 in
    (omega (arith, long, length_configuration config), omega (arith, long, length_configuration config, name))

abbrev eight : List ℕ → List ℕ
eight xs = take 8 (drop 9 xs)

abbrev behind : List ℕ → List ℕ
behind xs = drop 17 xs

-- bytes have one seed, and one rest behind it
pub one_header : (m n : ℕ) (xs ys : List ℕ) → m < 2 ^ 64 → n < 2 ^ 64 → header m ++ xs ≡ header n ++ ys → (m ≡ n) × (xs ≡ ys)
one_header m n xs ys hm hn e = (same_number m n hm hn (ap eight e), ap behind e)

pub no_first_frame : (bytes rest : List ℕ) (seed : ℕ) → seed < 2 ^ 64 → bytes ≡ header seed ++ rest → (BeginsWhole seed 17 rest → ⊥)
    → (other : ℕ) (payload more : List ℕ) → BeginsWith bytes other payload more → ⊥
no_first_frame bytes rest seed fits is none other payload more begins =
    let both = one_header seed other rest (frame other 17 payload ++ more) fits begins.seed_fits (sym is ∙ begins.stands) in
    none (payload, more, begins.is_payload, both.1 ∙ ap (λ (n : ℕ). frame n 17 payload ++ more) (sym both.0))

pub begins_so : (bytes rest : List ℕ) (seed : ℕ) (payload more : List ℕ) → seed < 2 ^ 64 → bytes ≡ header seed ++ rest → IsPayload payload → rest ≡ frame seed 17 payload ++ more → BeginsWith bytes seed payload more
begins_so bytes rest seed payload more fits is payload_fits found = record {
  seed_fits = fits;
  is_payload = payload_fits;
  stands = is ∙ ap (λ (xs : List ℕ). header seed ++ xs) found;
}

pub length_beginning : (seed : ℕ) (config : Configuration) (payload : List ℕ) → payload ≡ configuration_payload config → 25 + length payload ≡ length (beginning seed config)
length_beginning seed config payload is =
    let long : length payload ≡ length (configuration_payload config) = ap (λ (xs : List ℕ). length xs) is in
    omega (arith, long)

-- what was added for it
pub begun_with : {E : Type 0} (r : Result (Unit {0}) E) (seed : ℕ) (config : Configuration) (old first second new payload : List ℕ)
    → payload ≡ configuration_payload config → first ≡ old ++ magic → second ≡ first ++ to_be_bytes w64 seed → OnOk r (new ≡ second ++ frame seed 17 payload) → OnOk r (new ≡ old ++ beginning seed config)
begun_with (Ok done) seed config old first second new payload is one two on =
    let tail = frame seed 17 (configuration_payload config) in
    on ∙ ap (λ (p : List ℕ). second ++ frame seed 17 p) is ∙ ap (λ (xs : List ℕ). xs ++ tail) (two ∙ ap (λ (xs : List ℕ). xs ++ to_be_bytes w64 seed) one)
    ∙ append_assoc (old ++ magic) (to_be_bytes w64 seed) tail ∙ append_assoc old magic (to_be_bytes w64 seed ++ tail)
begun_with (Err error) seed config old first second new payload is one two on = tt
