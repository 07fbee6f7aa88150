-- What a call answers, from what its parts answer.
use Rattle.std.proofs.Common.{◌≡◌, Option, Some, Result, Ok, Err, refl, sym, subst, ap, ◌∙◌}
use Rattle.std.specs.Prelude.{IfOk, IfErr, MatchResult}
use Rattle.std.specs.Result.{IsErrAnd, result_unwrap_or}
use Rattle.std.specs.Option.{ok_or}
use Rattle.std.proofs.lemmas.Result.{IfOk-at_ok}
use Rattle.kv_keys.specs.Outcome.{Refuses}
use Rattle.kv_keys.specs.declared.error.KvError.{KvError}
use Rattle.kv_keys.specs.declared.error.KvError.TheVariants.{OutOfMemory, KeyNotFound}

-- two facts on what a call found give a third
pub both_ok : {T E : Type 0} (r : Result T E) (P Q R : T → Type 0) → IfOk r P → IfOk r Q → ((x : T) → P x → Q x → R x) → IfOk r R
both_ok (Ok x) P Q R p q f = f x p q
both_ok (Err e) P Q R p q f = tt

pub then_ok : {T E : Type 0} (r : Result T E) (P R : T → Type 0) → IfOk r P → ((x : T) → P x → R x) → IfOk r R
then_ok (Ok x) P R p f = f x p
then_ok (Err e) P R p f = tt

-- where only a call's error is changed, what it gave stays
pub still_ok : {T E D : Type 0} (P : T → Type 0) (Q : E → D → Type 0) (r : Result T E) (s : Result T D) → MatchResult r (λ x. s ≡ Ok x) (λ e. IsErrAnd s (Q e)) → IfOk r P → IfOk s P
still_ok P Q (Ok x) s same p = subst (λ t. IfOk t P) (sym same) p
still_ok P Q (Err e) (Ok w) impossible p = absurd impossible
still_ok P Q (Err e) (Err d) changed p = tt

-- and what it gave then is what it gave
pub was_ok : {T E D : Type 0} {v : T} (Q : E → D → Type 0) (r : Result T E) (s : Result T D) → s ≡ Ok v → MatchResult r (λ x. s ≡ Ok x) (λ e. IsErrAnd s (Q e)) → r ≡ Ok v
was_ok {v = v} Q (Ok x) s was same = ap (λ t. Ok (result_unwrap_or t v)) (sym same ∙ was)
was_ok Q (Err e) (Ok w) was impossible = absurd impossible
was_ok Q (Err e) (Err d) was changed = absurd (IfOk-at_ok (λ _. ⊥) was tt)

-- a call that reads what there is, and is refused only for want of memory
pub reads_there : {T X : Type 0} (r : Result T KvError) (read : T → X) (xs : X) (outcome : Option X) → IfOk r (λ t. read t ≡ xs) → IfErr r (λ e. e ≡ OutOfMemory) → outcome ≡ Some xs → MatchResult r (λ t. outcome ≡ Some (read t)) (λ e. Refuses e (ok_or outcome KeyNotFound))
reads_there (Ok t) read xs outcome ok err there = there ∙ ap Some (sym ok)
reads_there (Err e) read xs outcome ok err there = rw (err, there) refl
