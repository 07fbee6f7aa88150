-- The acts of what was seen of a history.
use Rattle.std.proofs.Common.{◌≡◌, suc, List, [], ◌∷◌, ◌++◌, length, refl, ap}
use Rattle.kv_model.specs.Acts.{Act, IsPrefix}
use Rattle.kv_publish.specs.declared.entry.Entry.{Entry}
use Rattle.kv_publish.specs.Rules.{acts_in}

pub acts_prefix : (xs ys : List Entry) → IsPrefix xs ys → IsPrefix (acts_in xs) (acts_in ys)
acts_prefix [] ys p = (acts_in ys, refl)
acts_prefix (x ∷ xs) [] p = absurd (cc (p.1))
acts_prefix (x ∷ xs) (y ∷ ys) p =
    let heads : x ≡ y = cc (p.1) in
    let rest = acts_prefix xs ys (p.0, cc (p.1)) in (rest.0, cc (ap (λ (e : Entry). e.ghost_act) heads, rest.1))

pub acts_length : (log : List Entry) → length (acts_in log) ≡ length log
acts_length [] = refl
acts_length (e ∷ log) = ap suc (acts_length log)

pub acts_more : (log : List Entry) (e : Entry) → acts_in (log ++ e ∷ []) ≡ acts_in log ++ e.ghost_act ∷ []
acts_more [] e = refl
acts_more (x ∷ log) e = ap (λ (acts : List Act). x.ghost_act ∷ acts) (acts_more log e)
