-- Of batches: their requests line by line, and the revisions that they are given.
use Rattle.std.proofs.Common.{◌≡◌, ℕ, zero, suc, ◌+◌, ◌-◌, ◌<◌, List, [], ◌∷◌, ◌++◌, length, length-append, map, Some, Result, Ok, Err, refl, sym, ap, ◌∙◌, arith}
use Rattle.std.specs.List.{slice_get}
use Rattle.kv_keys.specs.declared.error.KvError.{KvError}
use Rattle.kv_model.specs.Acceptance.{accept}
use Rattle.kv_model.specs.Acts.{Act, Wrote, Write, writes_of}
use Rattle.kv_model.specs.Batches.{accept_all, after_all}
use Rattle.kv_model.specs.Configuration.{Configuration}
use Rattle.kv_model.specs.Requests.{Asked}
use Rattle.kv_model.specs.declared.batch.BatchRefused.{BatchRefused}
use Rattle.kv_model.proofs.Batching.{after_more, after_none, rest_of, split_ok}
use Rattle.kv_model.proofs.Numbered.{accepted_is_next, writes_of-wrote}
use Rattle.kv_script.specs.Text.{revisions_behind}
use Rattle.kv_replay.specs.Batches.{Asks, all_asked, behind_ask}
use Rattle.kv_replay.specs.inside.Gathering.{asked_more}

-- ---- one line more

later : (asked : Asked) (so_far : Result (List Asked) BatchRefused) (ask : Result Asked KvError) → behind_ask asked (asked_more so_far ask) ≡ asked_more (behind_ask asked so_far) ask
later asked (Err refused) ask = refl
later asked (Ok requests) (Ok more) = refl
later asked (Ok requests) (Err error) = ap (λ at. Err (record { at = at; error = error })) (one_more (length requests))
  where
    one_more : (n : ℕ) → n + 1 ≡ suc n
    one_more n = omega arith

pub all_asked-more : (asks : Asks) (ask : Result Asked KvError) → all_asked (asks ++ ask ∷ []) ≡ asked_more (all_asked asks) ask
all_asked-more [] (Ok asked) = refl
all_asked-more [] (Err error) = refl
all_asked-more (Err error ∷ asks) ask = refl
all_asked-more (Ok asked ∷ asks) ask = ap (behind_ask asked) (all_asked-more asks ask) ∙ later asked (all_asked asks) ask

-- ---- revisions

one_written : (acts : List Act) (w : Write) → length (writes_of (acts ++ Wrote w ∷ [])) ≡ length (writes_of acts) + 1
one_written acts w = ap length (writes_of-wrote acts w) ∙ length-append (writes_of acts) (w ∷ [])

written : (acts : List Act) (ws : List Write) → length (writes_of (after_all acts ws)) ≡ length (writes_of acts) + length ws
written acts [] = ap (λ (more : List Act). length (writes_of more)) (after_none acts) ∙ nothing_more (length (writes_of acts))
  where
    nothing_more : (n : ℕ) → n ≡ n + 0
    nothing_more n = omega arith
written acts (w ∷ ws) =
    ap (λ (more : List Act). length (writes_of more)) (sym (after_more acts w ws)) ∙ written (acts ++ Wrote w ∷ []) ws
    ∙ one_and (length (writes_of (acts ++ Wrote w ∷ []))) (length (writes_of acts)) (length ws) (one_written acts w)
  where
    one_and : (n m k : ℕ) → n ≡ m + 1 → n + k ≡ m + suc k
    one_and n m k h = omega (arith, h)

revisions_are : (config : Configuration) (xs : List Asked) (acts : List Act) (ws : List Write) → accept_all config xs acts ≡ Ok ws
    → map (λ (w : Write). w.revision) ws ≡ revisions_behind (length (writes_of acts)) (length ws)
revisions_are config [] acts ws h =
    let none : ws ≡ [] = cc in
    ap (map (λ (w : Write). w.revision)) none ∙ ap (λ (us : List Write). revisions_behind (length (writes_of acts)) (length us)) (sym none)
revisions_are config (x ∷ xs) acts ws h =
    let one = split_ok (accept config x acts) (rest_of config xs acts) ws h in
    let v = one.0 in
    let vs = one.1 in
    let first : v.revision ≡ length (writes_of acts) + 1 = ap (λ (w : Write). w.revision) (sym (accepted_is_next config x acts v one.2)) in
    let rest = revisions_are config xs (acts ++ Wrote v ∷ []) vs one.3 in
    ap (map (λ (w : Write). w.revision)) one.4
    ∙ ap (λ n. n ∷ map (λ (w : Write). w.revision) vs) first
    ∙ ap (λ ns. (length (writes_of acts) + 1) ∷ ns) (rest ∙ ap (λ n. revisions_behind n (length vs)) (one_written acts v))
    ∙ ap (λ (us : List Write). revisions_behind (length (writes_of acts)) (length us)) (sym one.4)

-- the writes of a batch have the revisions behind the last one before it, up to the last one behind it
pub revisions_between : (config : Configuration) (xs : List Asked) (acts : List Act) (ws : List Write) (before last : ℕ) → accept_all config xs acts ≡ Ok ws
    → before ≡ length (writes_of acts) → last ≡ length (writes_of (after_all acts ws)) → revisions_behind before (last - before) ≡ map (λ (w : Write). w.revision) ws
revisions_between config xs acts ws before last h first is =
    let many : last - before ≡ length ws = omega (arith, first, is, written acts ws) in
    ap (λ n. revisions_behind before n) many ∙ ap (λ n. revisions_behind n (length ws)) first ∙ sym (revisions_are config xs acts ws h)

-- ---- places

pub inside : {X : Type 0} (xs : List X) (i : ℕ) (x : X) → slice_get xs i ≡ Some x → i < length xs
inside [] i x h = absurd (let no : ⊥ = cc in no)
inside (y ∷ ys) zero x h = omega arith
inside (y ∷ ys) (suc i) x h = let later = inside ys i x h in omega (arith, later)

pub as_many_mapped : {X Y : Type 0} (f : X → Y) (xs : List X) → length (map f xs) ≡ length xs
as_many_mapped f [] = refl
as_many_mapped f (x ∷ xs) = ap suc (as_many_mapped f xs)
