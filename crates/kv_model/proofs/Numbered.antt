-- The writes of lawful acts are numbered: the i-th has revision i, and each is of a key.
use Rattle.std.proofs.Common.{◌≡◌, ℕ, suc, ◌+◌, ◌-◌, ◌<◌, ◌≤◌, Bool, true, false, cond, ◌==◌, List, [], ◌∷◌, ◌++◌, Option, Some, None, Result, Ok, Err, length, filter, refl, sym, ap, ◌∙◌, arith, append-nil, length-append, add-zero}
use Rattle.std.specs.Prelude.{nat_lt, IsTrue}
use Rattle.std.specs.List.{slice_get, find}
use Rattle.std.specs.List.Sorted.{IsStrictlyIncreasing}
use Rattle.std.proofs.lemmas.Bool.{ne_eqb, eqb-true, eqb-false}
use Rattle.std.proofs.lemmas.List.Elements.{filter_map-append}
use Rattle.kv_keys.specs.Grammar.{is_key}
use Rattle.kv_keys.specs.declared.error.KvError.{KvError}
use Rattle.kv_keys.specs.declared.error.KvError.TheVariants.{ValueTooLarge, Sealed, JournalFull}
use Rattle.kv_model.specs.Acceptance.{accept, objection, next_write, unless, is_full, IsLawful, LawfulFrom}
use Rattle.kv_model.specs.Acts.{Act, Wrote, Seal, Compact, Write, writes_of, write_of, is_sealed}
use Rattle.kv_model.specs.Configuration.{Configuration}
use Rattle.kv_model.specs.Requests.{Asked, key_of, value_of}
use Rattle.kv_model.specs.Retained.{revisions}
use Rattle.kv_model.proofs.Rising.{Rises, Rises-more, Rises-none, Rises-lower, increasing_from_Rises}

-- the revisions count the writes, from n on
abbrev pub CountsFrom : ℕ → List Write → Type 0
CountsFrom n [] = Unit {0}
CountsFrom n (w ∷ ws) = (w.revision ≡ n) × CountsFrom (suc n) ws

-- each write is of a key
abbrev pub OfKeys : List Write → Type 0
OfKeys [] = Unit {0}
OfKeys (w ∷ ws) = IsTrue (is_key w.key) × OfKeys ws

-- ---- writes and acts

pub writes_of-append : (acts more : List Act) → writes_of (acts ++ more) ≡ writes_of acts ++ writes_of more
writes_of-append acts more = filter_map-append write_of acts more

pub writes_of-wrote : (acts : List Act) (w : Write) → writes_of (acts ++ Wrote w ∷ []) ≡ writes_of acts ++ w ∷ []
writes_of-wrote acts w = writes_of-append acts (Wrote w ∷ [])

pub writes_of-seal : (acts : List Act) → writes_of (acts ++ Seal ∷ []) ≡ writes_of acts
writes_of-seal acts = writes_of-append acts (Seal ∷ []) ∙ append-nil (writes_of acts)

pub writes_of-compact : (acts : List Act) (floor : ℕ) → writes_of (acts ++ Compact floor ∷ []) ≡ writes_of acts
writes_of-compact acts floor = writes_of-append acts (Compact floor ∷ []) ∙ append-nil (writes_of acts)

-- ---- what is accepted

cond_ok : {X E : Type 0} (b : Bool) (e : E) (r : Result X E) (x : X) → cond b (Err e) r ≡ Ok x → r ≡ Ok x
cond_ok true e r x h = cc
cond_ok false e r x h = h

unless_ok : (o : Option KvError) (v w : Write) → unless o v ≡ Ok w → v ≡ w
unless_ok None v w h = cc
unless_ok (Some e) v w h = cc

-- the write that is accepted is the next one
pub accepted_is_next : (config : Configuration) (asked : Asked) (acts : List Act) (w : Write) → accept config asked acts ≡ Ok w → next_write asked acts ≡ w
accepted_is_next config asked acts w h =
    let w₃ = unless (objection asked acts) (next_write asked acts) in
    let w₂ = cond (is_full config acts) (Err JournalFull) w₃ in
    let w₁ = cond (is_sealed acts) (Err Sealed) w₂ in
    unless_ok (objection asked acts) (next_write asked acts) w
    (cond_ok (is_full config acts) JournalFull w₃ w (cond_ok (is_sealed acts) Sealed w₂ w (cond_ok (nat_lt config.value_limit (length (value_of asked))) ValueTooLarge w₁ w h)))

counts_from : (config : Configuration) (before acts : List Act) → LawfulFrom config before acts → CountsFrom (suc (length (writes_of before))) (writes_of acts)
counts_from config before [] h = tt
counts_from config before (Wrote w ∷ acts) h =
    let e : length (writes_of (before ++ Wrote w ∷ [])) ≡ suc (length (writes_of before)) = omega (arith, ap length (writes_of-wrote before w), length-append (writes_of before) (w ∷ [])) in
    let same = accepted_is_next config h.0.0 before w h.0.1.1 in
    let first : w.revision ≡ length (writes_of before) + 1 = ap (λ (v : Write). v.revision) (sym same) in
    (omega arith, rw e at (counts_from config (before ++ Wrote w ∷ []) acts h.1))
counts_from config before (Seal ∷ acts) h =
    rw (writes_of-seal before) at (counts_from config (before ++ Seal ∷ []) acts h.1)
counts_from config before (Compact floor ∷ acts) h =
    rw (writes_of-compact before floor) at (counts_from config (before ++ Compact floor ∷ []) acts h.1)

of_keys : (config : Configuration) (before acts : List Act) → LawfulFrom config before acts → OfKeys (writes_of acts)
of_keys config before [] h = tt
of_keys config before (Wrote w ∷ acts) h =
    let same = accepted_is_next config h.0.0 before w h.0.1.1 in
    let key : w.key ≡ key_of h.0.0 = ap (λ (v : Write). v.key) (sym same) in
    (rw key h.0.1.0, of_keys config (before ++ Wrote w ∷ []) acts h.1)
of_keys config before (Seal ∷ acts) h = of_keys config (before ++ Seal ∷ []) acts h.1
of_keys config before (Compact floor ∷ acts) h = of_keys config (before ++ Compact floor ∷ []) acts h.1

-- the i-th write has revision i
pub counts_from_lawful : (config : Configuration) (acts : List Act) → IsLawful config acts → CountsFrom 1 (writes_of acts)
counts_from_lawful config acts h = counts_from config [] acts h

-- each write is of a key
pub of_keys_lawful : (config : Configuration) (acts : List Act) → IsLawful config acts → OfKeys (writes_of acts)
of_keys_lawful config acts h = of_keys config [] acts h

-- ---- writes that count

pub CountsFrom-left : (n : ℕ) (xs ys : List Write) → CountsFrom n (xs ++ ys) → CountsFrom n xs
CountsFrom-left n [] ys h = tt
CountsFrom-left n (x ∷ xs) ys h = (h.0, CountsFrom-left (suc n) xs ys h.1)

pub CountsFrom-right : (n : ℕ) (xs ys : List Write) → CountsFrom n (xs ++ ys) → CountsFrom (n + length xs) ys
CountsFrom-right n [] ys h = rw add-zero h
CountsFrom-right n (x ∷ xs) ys h =
    let e : n + suc (length xs) ≡ suc n + length xs = omega arith in rw e (CountsFrom-right (suc n) xs ys h.1)

pub CountsFrom-append : (n : ℕ) (xs ys : List Write) → CountsFrom n xs → CountsFrom (n + length xs) ys → CountsFrom n (xs ++ ys)
CountsFrom-append n [] ys h k = rw add-zero at k
CountsFrom-append n (x ∷ xs) ys h k =
    let e : n + suc (length xs) ≡ suc n + length xs = omega arith in (h.0, CountsFrom-append (suc n) xs ys h.1 (rw e at k))

-- the write of a revision stands at its place
pub find_counted : (n r : ℕ) (ws : List Write) → CountsFrom n ws → n ≤ r → find (λ w. w.revision == r) ws ≡ slice_get ws (r - n)
find_counted n r [] h l = refl
find_counted n r (w ∷ ws) h l = by_test (w.revision == r) refl (find_counted (suc n) r ws h.1)
  where
    by_test : (b : Bool) → (w.revision == r) ≡ b → (suc n ≤ r → find (λ w. w.revision == r) ws ≡ slice_get ws (r - suc n)) → cond b (Some w) (find (λ w. w.revision == r) ws) ≡ slice_get (w ∷ ws) (r - n)
    by_test true t later = let e : r - n ≡ 0 = omega (arith, h.0, eqb-true w.revision r t) in rw e refl
    by_test false t later =
        let other : w.revision ≡ r → ⊥ = eqb-false w.revision r t in
        let apart : suc n ≤ r = omega (arith, h.0, other) in
        let e : r - n ≡ suc (r - suc n) = omega arith in
        rw e (later apart)

-- no write has revision 0
pub find_below : (n r : ℕ) (ws : List Write) → CountsFrom n ws → r < n → find (λ w. w.revision == r) ws ≡ None
find_below n r [] h l = refl
find_below n r (w ∷ ws) h l =
    let other : (w.revision == r) ≡ false = ne_eqb w.revision r (λ e. omega (arith, h.0, e)) in
    rw other (find_below (suc n) r ws h.1 (omega arith))

-- the revisions of any selection of them rise
pub rises_counted : (p : Write → Bool) (n : ℕ) (ws : List Write) → CountsFrom n ws → Rises n (n + length ws) (revisions (filter p ws))
rises_counted p n [] h = Rises-none n (n + 0) (omega arith)
rises_counted p n (w ∷ ws) h =
    let e : n + suc (length ws) ≡ suc n + length ws = omega arith in
    let rest : Rises (suc n) (n + suc (length ws)) (revisions (filter p ws)) = rw e (rises_counted p (suc n) ws h.1) in
    by_test (p w) rest
  where
    by_test : (b : Bool) → Rises (suc n) (n + suc (length ws)) (revisions (filter p ws)) → Rises n (n + suc (length ws)) (revisions (cond b (w ∷ filter p ws) (filter p ws)))
    by_test true rest = rw h.0 (Rises-more n (n + suc (length ws)) n (revisions (filter p ws)) (omega arith) rest)
    by_test false rest = Rises-lower (suc n) n (n + suc (length ws)) (revisions (filter p ws)) (omega arith) rest

pub increasing_counted : (p : Write → Bool) (ws : List Write) → CountsFrom 1 ws → IsStrictlyIncreasing (revisions (filter p ws))
increasing_counted p ws h = increasing_from_Rises 1 (1 + length ws) (revisions (filter p ws)) (rises_counted p 1 ws h)
