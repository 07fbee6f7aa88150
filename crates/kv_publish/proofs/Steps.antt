-- What is seen of a history has a step whole, or nothing of it.
use Rattle.std.proofs.Common.{◌≡◌, ℕ, zero, suc, ◌+◌, ◌-◌, ◌≤◌, ◌<◌, Bool, true, false, ◌==◌, nat_lt, List, [], ◌∷◌, ◌++◌, length, take, Option, Some, refl, ap, sym, ◌∙◌, arith, append_assoc, length-append}
use Rattle.std.specs.List.{slice_get}
use Rattle.std.specs.Option.{option_map_or}
use Rattle.std.proofs.Math.Seq.{take-append_seam}
use Rattle.std.proofs.lemmas.Bool.{ne_eqb, ltb-true}
use Rattle.std.proofs.lemmas.Bool.Decides.{nat_tests}
use Rattle.kv_model.specs.Acts.{Act, Wrote, IsPrefix}
use Rattle.kv_model.specs.Requests.{asked, write_for}
use Rattle.kv_model.specs.declared.request.Request.{Request}
use Rattle.kv_publish.specs.declared.entry.Entry.{Entry}
use Rattle.kv_publish.specs.Rules.{IsStepFrom, IsWhole, acts_in, ends_at, entry}
use Rattle.kv_publish.specs.Steps.{acts_from}
use Rattle.kv_publish.proofs.Prefixes.{prefix_shorter}
use Rattle.kv_publish.proofs.Seeing.{acts_length, acts_more, acts_prefix}

-- ---- one entry more

at_end : (log : List Entry) (e : Entry) → slice_get (log ++ e ∷ []) (length log) ≡ Some e
at_end [] e = refl
at_end (x ∷ log) e = at_end log e

at_within : (log : List Entry) (e : Entry) (i : ℕ) → i < length log → slice_get (log ++ e ∷ []) i ≡ slice_get log i
at_within [] e i l = absurd (omega arith)
at_within (x ∷ log) e zero l = refl
at_within (x ∷ log) e (suc i) l = at_within log e i (omega arith)

abbrev ends_of : Option Entry → Bool
ends_of found = option_map_or (λ e. e.ends) found true

pub whole_more : (log more : List Entry) (e : Entry) → more ≡ log ++ e ∷ [] → e.ends ≡ true → IsWhole more
whole_more log more e is ends =
    let place : length more - 1 ≡ length log = omega (arith, ap length is, length-append log (e ∷ [])) in
    ap (ends_at more) place ∙ (ap (λ (es : List Entry). ends_at es (length log)) is ∙ (ap ends_of (at_end log e) ∙ ends))

-- ---- writes that are added one after the other

acts_from_more : (revision : ℕ) (xs : List Request) (x : Request) → acts_from revision (xs ++ x ∷ []) ≡ acts_from revision xs ++ Wrote (write_for (asked x) (revision + length xs)) ∷ []
acts_from_more revision [] x = let n : revision ≡ revision + 0 = omega arith in ap (λ r. Wrote (write_for (asked x) r) ∷ []) n
acts_from_more revision (y ∷ xs) x =
    let n : revision + 1 + length xs ≡ revision + suc (length xs) = omega arith in
    ap (λ (acts : List Act). Wrote (write_for (asked y) revision) ∷ acts) (acts_from_more (revision + 1) xs x ∙ ap (λ r. acts_from (revision + 1) xs ++ Wrote (write_for (asked x) r) ∷ []) n)

pub added_more : (before now more : List Entry) (revision k : ℕ) (xs ys : List Request) (x : Request) (act : Act) (ends : Bool) (right next : ℕ) → acts_in now ≡ acts_in before ++ acts_from revision xs → ys ≡ xs ++ x ∷ [] → length xs ≡ k
    → act ≡ Wrote (write_for (asked x) (revision + k)) → more ≡ now ++ entry act ends right next ∷ [] → acts_in more ≡ acts_in before ++ acts_from revision ys
added_more before now more revision k xs ys x act ends right next so_far grown count is added =
    let e = entry act ends right next in
    let last : act ≡ Wrote (write_for (asked x) (revision + length xs)) = is ∙ ap (λ n. Wrote (write_for (asked x) (revision + n))) (sym count) in
    ap acts_in added
    ∙ (acts_more now e
    ∙ (ap (λ (acts : List Act). acts ++ act ∷ []) so_far
    ∙ (append_assoc (acts_in before) (acts_from revision xs) (act ∷ [])
    ∙ ap (λ (acts : List Act). acts_in before ++ acts) (ap (λ (a : Act). acts_from revision xs ++ a ∷ []) last ∙ (sym (acts_from_more revision xs x) ∙ ap (acts_from revision) (sym grown))))))

-- none of them ends a step, up to the last of so many
abbrev pub IsStepUpTo : ℕ → ℕ → List Entry → Type 0
IsStepUpTo before total log = (i : ℕ) → before ≤ i → i < length log → i + 1 < before + total → ends_at log i ≡ false

pub step_more : (before total k : ℕ) (now more : List Entry) (act : Act) (ends : Bool) (right next : ℕ) → IsStepUpTo before total now → length now ≡ before + k → ends ≡ (k + 1 == total) → more ≡ now ++ entry act ends right next ∷ [] → IsStepUpTo before total more
step_more before total k now more act ends right next so_far long is added i from within early =
    let e = entry act ends right next in
    ap (λ (es : List Entry). ends_at es i) added ∙ by_test (nat_lt i (length now)) refl
  where
    by_test : (b : Bool) → nat_lt i (length now) ≡ b → ends_at (now ++ entry act ends right next ∷ []) i ≡ false
    by_test true t =
        let l : i < length now = ltb-true i (length now) t in
        ap ends_of (at_within now (entry act ends right next) i l) ∙ so_far i from l early
    by_test false t =
        let there : length now ≤ i = grind (arith, nat_tests) in
        let total_length : length more ≡ length now + 1 = ap length added ∙ length-append now (entry act ends right next ∷ []) in
        let here : i ≡ length now = omega (arith, there, within, total_length) in
        let not_last : (k + 1 == total) ≡ false = ne_eqb (k + 1) total (λ f. omega (arith, f, early, here, long)) in
        ap (ends_at (now ++ entry act ends right next ∷ [])) here ∙ (ap ends_of (at_end now (entry act ends right next)) ∙ (is ∙ not_last))

pub step_done : (before total : ℕ) (log : List Entry) → IsStepUpTo before total log → length log ≡ before + total → IsStepFrom before log
step_done before total log up_to long = λ i from early. up_to i from (omega (arith, early)) (omega (arith, early, long))

pub step_begins : (total : ℕ) (log : List Entry) → IsStepUpTo (length log) total log
step_begins total log = λ i from within early. absurd (omega (arith, from, within))

-- the acts before what was added
pub acts_before : (before now : List Entry) (more : List Act) → acts_in now ≡ acts_in before ++ more → take (length before) (acts_in now) ≡ acts_in before
acts_before before now more is =
    ap (λ n. take n (acts_in now)) (sym (acts_length before)) ∙ (ap (take (length (acts_in before))) is ∙ take-append_seam (acts_in before) more)

-- ---- whole or not at all

prefix_take : {A : Type 0} (xs ys : List A) (n : ℕ) → IsPrefix xs ys → length xs ≤ n → IsPrefix xs (take n ys)
prefix_take [] ys n p le = (take n ys, refl)
prefix_take (x ∷ xs) ys zero p le = absurd (omega arith)
prefix_take (x ∷ xs) [] (suc n) p le = absurd (cc (p.1))
prefix_take (x ∷ xs) (y ∷ ys) (suc n) p le =
    let heads : x ≡ y = cc (p.1) in
    let rest = prefix_take xs ys n (p.0, cc (p.1)) (omega arith) in
    (rest.0, cc (heads, rest.1))

-- what stands in a beginning ends a step as it does in the whole
same_end : (xs ys : List Entry) (i : ℕ) → IsPrefix xs ys → i < length xs → ends_at ys i ≡ ends_at xs i
same_end [] ys i p l = absurd (omega arith)
same_end (x ∷ xs) [] i p l = absurd (cc (p.1))
same_end (x ∷ xs) (y ∷ ys) zero p l = let heads : x ≡ y = cc (p.1) in ap (λ (e : Entry). e.ends) (sym heads)
same_end (x ∷ xs) (y ∷ ys) (suc i) p l = same_end xs ys i (p.0, cc (p.1)) (omega arith)

-- a whole beginning that ends before the last act of a step ends before the step
within : (before : ℕ) (mine step : List Entry) → IsPrefix mine step → IsWhole mine → IsStepFrom before step → length mine < length step → before < length mine → ⊥
within before mine step p whole one less inside =
    let i = length mine - 1 in
    let off : ends_at step i ≡ false = one i (omega (arith, inside)) (omega (arith, less, inside)) in
    let same : ends_at step i ≡ ends_at mine i = same_end mine step i p (omega (arith, inside)) in
    cc (off, same, whole)

pub before_step : (before : ℕ) (mine step both : List Entry) → IsPrefix mine both → IsPrefix step both → IsWhole mine → IsStepFrom before step → length mine < length step → IsPrefix (acts_in mine) (take before (acts_in step))
before_step before mine step both this that whole one less =
    let p : IsPrefix mine step = prefix_shorter mine step both this that (omega (arith, less)) in
    by_test p (nat_lt before (length mine)) refl
  where
    by_test : IsPrefix mine step → (b : Bool) → nat_lt before (length mine) ≡ b → IsPrefix (acts_in mine) (take before (acts_in step))
    by_test p true t = absurd (within before mine step p whole one less (ltb-true before (length mine) t))
    by_test p false t =
        let few : length mine ≤ before = grind (arith, nat_tests) in
        prefix_take (acts_in mine) (acts_in step) before (acts_prefix mine step p) (omega (arith, few, acts_length mine))
