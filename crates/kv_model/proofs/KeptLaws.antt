-- With a history of one the retained writes are the latest, and a start from the first revision is one from history.
use Rattle.std.proofs.Common.{◌≡◌, ℕ, suc, ◌-◌, ◌≤◌, Bool, true, false, cond, ◌||◌, ◌==◌, nat_le, List, [], ◌∷◌, ◌++◌, Option, Some, None, length, drop, filter, refl, ap, ◌∙◌, arith}
use Rattle.std.specs.List.{list_any, last_or}
use Rattle.std.specs.Option.{option_to_list, option_map_or}
use Rattle.std.proofs.lemmas.Bool.Decides.{nat_tests}
use Rattle.std.proofs.lemmas.List.Elements.{filter_agree}
use Rattle.kv_model.specs.Acts.{Act, Write, writes_of, is_purge}
use Rattle.kv_model.specs.Acceptance.{IsLawful}
use Rattle.kv_model.specs.Configuration.{Configuration}
use Rattle.kv_model.specs.Retained.{retained, latest, is_kept, is_latest, writes_of_key, since_purge, last_n, revisions}
use Rattle.kv_model.specs.declared.options.Options.{Options}
use Rattle.kv_model.specs.declared.options.Start.TheVariants.{History, From}
use Rattle.kv_model.specs.Given.{EndMarker, all_shown, matching, given}
use Rattle.kv_model.proofs.Numbered.{CountsFrom, counts_from_lawful}

-- ---- a history of one

-- the last element of a list with an element doesn't depend on a default
last_or_any : {X : Type 0} (test : X → Bool) (xs : List X) (a b : Option X) → list_any test xs ≡ true → last_or a xs ≡ last_or b xs
last_or_any test [] a b h = cc
last_or_any test (x ∷ xs) a b h = refl

-- what is left since the last purge has the same last write
pub last_or-since_purge : (ws : List Write) (o : Option Write) → last_or o (since_purge ws) ≡ last_or o ws
last_or-since_purge [] o = refl
last_or-since_purge (w ∷ ws) o =
    let P : Bool → Type 0 = λ b. list_any (λ v. is_purge v.op) ws ≡ b → last_or o (cond b (since_purge ws) (w ∷ ws)) ≡ last_or (Some w) ws in
    let cases : (b : Bool) → P b = λ b. elim b as P [
      | true ↦ (λ h. last_or-since_purge ws o ∙ last_or_any (λ v. is_purge v.op) ws o (Some w) h)
      | false ↦ (λ h. refl)
    ] in
    cases (list_any (λ v. is_purge v.op) ws) refl

-- the last one element is the last, if there is one
last_n_one : {X : Type 0} (xs : List X) → last_n 1 xs ≡ option_to_list (last_or None xs)
last_n_one [] = refl
last_n_one (x ∷ []) = refl
last_n_one (x ∷ y ∷ ys) = let e : suc (suc (length ys)) - 1 ≡ suc (suc (length ys) - 1) = omega arith in rw e (last_n_one (y ∷ ys))

either_last : (n : ℕ) (o : Option Write) → list_any (λ r. r == n) (revisions (option_to_list o)) ≡ option_map_or (λ v. v.revision == n) o false
either_last n None = refl
either_last n (Some v) = elim (v.revision == n) as (λ b. (b || false) ≡ b) [ true ↦ refl | false ↦ refl ]

is_kept_one : (acts : List Act) (w : Write) → is_kept 1 acts w ≡ is_latest acts w
is_kept_one acts w =
    ap (λ vs. list_any (λ r. r == w.revision) (revisions vs)) (last_n_one (since_purge (writes_of_key w.key acts)) ∙ ap option_to_list (last_or-since_purge (writes_of_key w.key acts) None))
    ∙ either_last w.revision (last_or None (writes_of_key w.key acts))

pub retained_one : (acts : List Act) → retained 1 acts ≡ latest acts
retained_one acts = filter_agree (is_kept 1 acts) (is_latest acts) (is_kept_one acts) (writes_of acts)

-- ---- a start from the first revision

-- of writes that count from n on, all those that pass a test have a revision of at least n
all_from : (p : Write → Bool) (revision n : ℕ) (ws : List Write) → revision ≤ n → CountsFrom n ws → filter (λ w. nat_le revision w.revision) (filter p ws) ≡ filter p ws
all_from p revision n [] l h = refl
all_from p revision n (w ∷ ws) l h =
    let rest = all_from p revision (suc n) ws (omega arith) h.1 in
    let passes : nat_le revision w.revision ≡ true = grind (arith, nat_tests, h.0) in
    elim (p w) as (λ b. filter (λ v. nat_le revision v.revision) (cond b (w ∷ filter p ws) (filter p ws)) ≡ cond b (w ∷ filter p ws) (filter p ws)) [
      | true ↦ ap (λ b. cond b (w ∷ filter (λ v. nat_le revision v.revision) (filter p ws)) (filter (λ v. nat_le revision v.revision) (filter p ws))) passes ∙ ap (λ vs. w ∷ vs) rest
      | false ↦ rest
    ]

pub from_first : (config : Configuration) (h revision : ℕ) (began acts : List Act) (filters : List (List ℕ)) (ignore_deletes headers_only : Bool) → IsLawful config began → revision ≤ 1
    → given h began acts filters (record { start = From revision; ignore_deletes = ignore_deletes; headers_only = headers_only })
    ≡ given h began acts filters (record { start = History; ignore_deletes = ignore_deletes; headers_only = headers_only })
from_first config h revision began acts filters ignore_deletes headers_only lawful l =
    let options : Options = record { start = History; ignore_deletes = ignore_deletes; headers_only = headers_only } in
    ap (λ ws. all_shown options (matching filters ws) ++ (EndMarker ∷ all_shown options (matching filters (drop (length (writes_of began)) (writes_of acts)))))
    (all_from (is_kept h began) revision 1 (writes_of began) l (counts_from_lawful config began lawful))
