-- What bytes say, they say alone.
use Rattle.std.proofs.Common.{◌≡◌, ◌≢◌, ℕ, ◌^◌, ◌<◌, ◌≤◌, true, false, List, [], ◌∷◌, ◌++◌, length, drop, get_or, refl, sym, ap, ◌∙◌, arith}
use Rattle.std.specs.Int.{w64, to_be_bytes, from_be_bytes}
use Rattle.std.proofs.lemmas.Nat.{from_be_bytes-to_be_bytes_8}
use Rattle.kv_keys.specs.Grammar.{is_key}
use Rattle.kv_model.specs.Acts.{Wrote, Seal, Compact, Write, is_put}
use Rattle.kv_model.specs.declared.write.Op.{Op}
use Rattle.kv_model.specs.declared.write.Op.TheVariants.{Put, Delete, Purge}
use Rattle.kv_frames.proofs.Fronts.{sides}
use Rattle.kv_journal.specs.Records.{Content, did, did_all, closed, kind_of, write_record, record_of, IsRecordable}

-- the first byte
abbrev first : List ℕ → ℕ
first xs = get_or xs 0 0

pub kind_low : (op : Op) → kind_of op < 4
kind_low Put = omega arith
kind_low Delete = omega arith
kind_low Purge = omega arith

pub same_kind : (a b : Op) → kind_of a ≡ kind_of b → a ≡ b
same_kind Put Put e = refl
same_kind Put Delete e = absurd (omega (arith, e))
same_kind Put Purge e = absurd (omega (arith, e))
same_kind Delete Put e = absurd (omega (arith, e))
same_kind Delete Delete e = refl
same_kind Delete Purge e = absurd (omega (arith, e))
same_kind Purge Put e = absurd (omega (arith, e))
same_kind Purge Delete e = absurd (omega (arith, e))
same_kind Purge Purge e = refl

pub same_write : (a b : Op) (k l v w : List ℕ) → write_record a k v ≡ write_record b l w → (a ≡ b) × (k ≡ l) × (v ≡ w)
same_write a b k l v w e =
    let kind : kind_of a ≡ kind_of b = ap first e in
    let len : length k ≡ length l = ap (λ (xs : List ℕ). get_or xs 1 0) e in
    let both = sides k v l w len (ap (λ (xs : List ℕ). drop 2 xs) e) in
    (same_kind a b kind, both.0, both.1)

-- a write is told by its parts
made : (key : List ℕ) (op : Op) (value : List ℕ) (revision : ℕ) → Write
made key op value revision = record { key = key; op = op; value = value; revision = revision }

pub same_fields : (v w : Write) → v.key ≡ w.key → v.op ≡ w.op → v.value ≡ w.value → v.revision ≡ w.revision → v ≡ w
unfolding made
same_fields v w k o x r =
    ap (λ (z : List ℕ). made z v.op v.value v.revision) k
    ∙ ap (λ (z : Op). made w.key z v.value v.revision) o
    ∙ ap (λ (z : List ℕ). made w.key w.op z v.revision) x
    ∙ ap (λ (z : ℕ). made w.key w.op w.value z) r

-- a number in eight bytes
pub same_number : (m n : ℕ) → m < 2 ^ 64 → n < 2 ^ 64 → to_be_bytes w64 m ≡ to_be_bytes w64 n → m ≡ n
same_number m n hm hn e = sym (from_be_bytes-to_be_bytes_8 m hm) ∙ ap (from_be_bytes w64) e ∙ from_be_bytes-to_be_bytes_8 n hn

-- ---- what bytes don't say

abbrev behind : List ℕ → List ℕ
behind xs = drop 1 xs

pub nothing_said : (content : Content) → IsRecordable content → record_of content ≡ [] → ⊥
nothing_said (did (Wrote w)) is e = absurd cc
nothing_said (did Seal) is e = absurd cc
nothing_said (did (Compact floor)) is e = absurd cc
nothing_said (did_all acts) is e = absurd is
nothing_said (closed last) is e = absurd cc

pub no_seal : (rest : List ℕ) → rest ≢ [] → (content : Content) → IsRecordable content → record_of content ≡ 4 ∷ rest → ⊥
no_seal rest some (did (Wrote w)) is e = omega (arith, kind_low w.op, ap first e)
no_seal rest some (did Seal) is e = some (sym (ap behind e))
no_seal rest some (did (Compact floor)) is e = let d : 5 ≡ 4 = ap first e in omega (arith, d)
no_seal rest some (did_all acts) is e = absurd is
no_seal rest some (closed last) is e = let d : 9 ≡ 4 = ap first e in omega (arith, d)

pub no_compaction : (rest : List ℕ) → ((floor : ℕ) → rest ≢ to_be_bytes w64 floor) → (content : Content) → IsRecordable content → record_of content ≡ 5 ∷ rest → ⊥
no_compaction rest none (did (Wrote w)) is e = omega (arith, kind_low w.op, ap first e)
no_compaction rest none (did Seal) is e = let d : 4 ≡ 5 = ap first e in omega (arith, d)
no_compaction rest none (did (Compact floor)) is e = none floor (sym (ap behind e))
no_compaction rest none (did_all acts) is e = absurd is
no_compaction rest none (closed last) is e = let d : 9 ≡ 5 = ap first e in omega (arith, d)

pub no_end : (rest : List ℕ) → ((last : ℕ) → rest ≢ to_be_bytes w64 last) → (content : Content) → IsRecordable content → record_of content ≡ 9 ∷ rest → ⊥
no_end rest none (did (Wrote w)) is e = omega (arith, kind_low w.op, ap first e)
no_end rest none (did Seal) is e = let d : 4 ≡ 9 = ap first e in omega (arith, d)
no_end rest none (did (Compact floor)) is e = let d : 5 ≡ 9 = ap first e in omega (arith, d)
no_end rest none (did_all acts) is e = absurd is
no_end rest none (closed last) is e = none last (sym (ap behind e))

abbrev pub NoWrite : ℕ → List ℕ → Type 0
NoWrite kind rest = (op : Op) (key value : List ℕ) → kind_of op ≡ kind → rest ≡ length key ∷ (key ++ value) → is_key key ≡ true → (is_put op ≡ false → value ≡ []) → ⊥

pub no_write : (kind : ℕ) (rest : List ℕ) → kind ≢ 4 → kind ≢ 5 → kind ≢ 9 → NoWrite kind rest → (content : Content) → IsRecordable content → record_of content ≡ kind ∷ rest → ⊥
no_write kind rest not4 not5 not9 none (did (Wrote w)) is e = none w.op w.key w.value (ap first e) (sym (ap behind e)) is.0 is.1
no_write kind rest not4 not5 not9 none (did Seal) is e = not4 (sym (ap first e))
no_write kind rest not4 not5 not9 none (did (Compact floor)) is e = not5 (sym (ap first e))
no_write kind rest not4 not5 not9 none (did_all acts) is e = absurd is
no_write kind rest not4 not5 not9 none (closed last) is e = not9 (sym (ap first e))

-- a write that is too short for its key
pub too_short : (op : Op) (len : ℕ) (rest : List ℕ) → length rest < len → (key value : List ℕ) → rest ≡ key ++ value → length key ≡ len → ⊥
too_short op len rest short key value e is =
    omega (arith, short, is, ap (λ (xs : List ℕ). length xs) e, longer key value)
  where
    longer : (xs ys : List ℕ) → length xs ≤ length (xs ++ ys)
    longer [] ys = omega arith
    longer (x ∷ xs) ys = omega (arith, longer xs ys)
