-- What is seen of a history that begins with acts.
use Rattle.std.proofs.Common.{◌≡◌, inl, inr, ℕ, zero, suc, ◌+◌, ◌≤◌, ◌<◌, true, false, nat_eq, List, [], ◌∷◌, ◌++◌, length, map, take, refl, ap, sym, ◌∙◌, subst, arith, append_assoc, length-append}
use Rattle.std.proofs.lemmas.Bool.Decides.{nat_tests}
use Rattle.logbook.specs.Pages.{Cell, cell}
use Rattle.kv_model.specs.Acts.{Act, IsPrefix}
use Rattle.kv_publish.specs.declared.entry.Entry.{Entry}
use Rattle.kv_publish.specs.Beginnings.{IsFrom, IsSoFar, count_of, counted, seen_of}
use Rattle.kv_publish.specs.Rules.{Came, IsStepFrom, IsWhole, acts_in, entry}
use Rattle.kv_publish.proofs.Prefixes.{prefix_length, prefix_shorter, prefix_trans, prefix_whole}
use Rattle.kv_publish.proofs.Seeing.{acts_length, acts_prefix}
use Rattle.kv_publish.proofs.Steps.{before_step}

-- ---- the title

pub acts_titled : (began : List Act) → acts_in (map (λ act. entry act true 0 0) began) ≡ began
acts_titled [] = refl
acts_titled (act ∷ began) = ap (λ (acts : List Act). act ∷ acts) (acts_titled began)

-- the first word is at home, by which the title came
pub title_came : (cells : List Cell) (began : List Act) → (cell cells 0).1 ≡ true → Came cells (map (λ act. entry act true 0 0) began)
title_came cells [] home = tt
title_came cells (act ∷ began) home = (home, title_came cells began home)

-- ---- so far

pub behind_prefix : {A : Type 0} (began xs ys : List A) → IsPrefix xs ys → IsPrefix (began ++ xs) (began ++ ys)
behind_prefix {A} began xs ys p = (p.0, append_assoc began xs p.0 ∙ ap (λ (l : List A). began ++ l) p.1)

-- who is as far as the history has seen all of it
pub seen_all : (n : ℕ) (began : List Act) (log : List Entry) → n ≡ counted began + length log → seen_of n began log ≡ began ++ acts_in log
seen_all zero [] [] is = refl
seen_all zero [] (e ∷ log) is = absurd (omega (arith, is))
seen_all zero (act ∷ began) log is = absurd (omega (arith, is))
seen_all (suc n) began log is = refl

somewhere : (n : ℕ) (began : List Act) (log : List Entry) → IsSoFar (suc n) began log → suc n ≡ counted began + length log
somewhere n began log (inl none) = absurd (omega (arith, none))
somewhere n began log (inr is) = is

-- what was seen of a history by who is not so far begins what was seen by who is
pub seen_shorter : (began : List Act) (mine theirs both : List Entry) (n m : ℕ) → IsSoFar n began mine → IsSoFar m began theirs → IsPrefix mine both → IsPrefix theirs both → n ≤ m → IsPrefix (seen_of n began mine) (seen_of m began theirs)
seen_shorter began mine theirs both zero m far there this that le = (seen_of m began theirs, refl)
seen_shorter began mine theirs both (suc n) zero far there this that le = absurd (omega (arith, le))
seen_shorter began mine theirs both (suc n) (suc m) far there this that le =
    let less : length mine ≤ length theirs = omega (arith, le, somewhere n began mine far, somewhere m began theirs there) in
    behind_prefix began (acts_in mine) (acts_in theirs) (acts_prefix mine theirs (prefix_shorter mine theirs both this that less))

-- and all that of what was seen in any case
pub seen_in : (began : List Act) (mine both : List Entry) (n : ℕ) → IsPrefix mine both → IsPrefix (seen_of n began mine) (began ++ acts_in both)
seen_in began mine both zero this = (began ++ acts_in both, refl)
seen_in began mine both (suc n) this = behind_prefix began (acts_in mine) (acts_in both) (acts_prefix mine both this)

-- who is not as far as a step has nothing of it
pub seen_before : (began : List Act) (before : ℕ) (mine step both : List Entry) (n m : ℕ) → IsSoFar n began mine → m ≡ counted began + length step → IsPrefix mine both → IsPrefix step both → IsWhole mine → IsStepFrom before step → n < m
    → IsPrefix (seen_of n began mine) (began ++ take before (acts_in step))
seen_before began before mine step both zero m far there this that whole one less = (began ++ take before (acts_in step), refl)
seen_before began before mine step both (suc n) m far there this that whole one less =
    let fewer : length mine < length step = omega (arith, less, there, somewhere n began mine far) in
    behind_prefix began (acts_in mine) (take before (acts_in step)) (before_step before mine step both this that whole one fewer)

pub seen_from : (n : ℕ) (began : List Act) (log : List Entry) → IsFrom began (seen_of n began log)
seen_from zero began log = inl refl
seen_from (suc n) began log = inr (acts_in log, refl)

-- ---- counts

count_whole : (began : List Act) (log : List Entry) → count_of began (began ++ acts_in log) ≡ counted began + length log
count_whole [] [] = refl
count_whole [] (e ∷ log) = omega (arith, acts_length log)
count_whole (act ∷ began) log = omega (arith, length-append began (acts_in log), acts_length log)

pub count_all : (began acts : List Act) (log : List Entry) → began ++ acts_in log ≡ acts → count_of began acts ≡ counted began + length log
count_all began acts log is = ap (count_of began) (sym is) ∙ count_whole began log

pub count_seen : (n : ℕ) (began : List Act) (log : List Entry) → IsSoFar n began log → count_of began (seen_of n began log) ≡ n
count_seen zero began log far = refl
count_seen (suc n) began log far = count_whole began log ∙ sym (somewhere n began log far)

-- ---- the whole

-- what was seen together with the whole is a beginning of the whole
pub seen_within : (began prefix acts : List Act) (journal both now : List Entry) → began ++ acts_in journal ≡ acts → IsPrefix prefix (began ++ acts_in both) → IsPrefix both now → now ≡ journal → IsPrefix prefix acts
seen_within began prefix acts journal both now view seen more same =
    subst (IsPrefix prefix) (ap (λ (log : List Entry). began ++ acts_in log) same ∙ view)
    (prefix_trans prefix (began ++ acts_in both) (began ++ acts_in now) seen (behind_prefix began (acts_in both) (acts_in now) (acts_prefix both now more)))

nothing_whole : (began acts : List Act) (journal : List Entry) → began ++ acts_in journal ≡ acts → 0 ≡ counted began + length journal → [] ≡ acts
nothing_whole [] acts [] view is = view
nothing_whole [] acts (e ∷ journal) view is = absurd (omega (arith, is))
nothing_whole (act ∷ began) acts journal view is = absurd (omega (arith, is))

long : (began acts : List Act) (journal : List Entry) → began ++ acts_in journal ≡ acts → length acts ≡ length began + length journal
long began acts journal view = sym (ap length view) ∙ (length-append began (acts_in journal) ∙ ap (λ n. length began + n) (acts_length journal))

begins : (began : List Act) (act : Act) (prefix : List Act) → IsFrom began (act ∷ prefix) → length began ≤ length (act ∷ prefix)
begins began act prefix (inl none) = absurd (cc none)
begins began act prefix (inr p) = prefix_length began (act ∷ prefix) p

-- and all of it where it is as far
pub seen_whole : (began prefix acts : List Act) (journal : List Entry) (n m : ℕ) → began ++ acts_in journal ≡ acts → IsPrefix prefix acts → IsFrom began prefix → n ≡ count_of began prefix → m ≡ counted began + length journal → nat_eq n m ≡ true → prefix ≡ acts
seen_whole began [] acts journal n m view within from far all is =
    let same : n ≡ m = grind (arith, nat_tests) in
    nothing_whole began acts journal view (omega (arith, far, all, same))
seen_whole began (act ∷ prefix) acts journal n m view within from far all is =
    let same : n ≡ m = grind (arith, nat_tests) in
    prefix_whole (act ∷ prefix) acts within (omega (arith, same, far, all, long began acts journal view, begins began act prefix from))

nothing_less : (began acts : List Act) (journal : List Entry) → began ++ acts_in journal ≡ acts → 0 < counted began + length journal → 0 < length acts
nothing_less [] acts journal view some = omega (arith, some, long [] acts journal view)
nothing_less (act ∷ began) acts journal view some = omega (arith, long (act ∷ began) acts journal view)

-- else there is more
pub seen_less : (began prefix acts : List Act) (journal : List Entry) (n m : ℕ) → began ++ acts_in journal ≡ acts → IsPrefix prefix acts → IsFrom began prefix → n ≡ count_of began prefix → m ≡ counted began + length journal → nat_eq n m ≡ false → length prefix < length acts
seen_less began [] acts journal n m view within from far all is =
    let other : n ≡ m → ⊥ = grind (arith, nat_tests) in
    nothing_less began acts journal view (omega (arith, far, all, other))
seen_less began (act ∷ prefix) acts journal n m view within from far all is =
    let other : n ≡ m → ⊥ = grind (arith, nat_tests) in
    omega (arith, other, far, all, long began acts journal view, begins began act prefix from, prefix_length (act ∷ prefix) acts within)
