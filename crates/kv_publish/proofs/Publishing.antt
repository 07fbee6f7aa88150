-- What a change of what is published leaves.
use Rattle.std.proofs.Common.{◌≡◌, true, false, List, [], ◌∷◌, ◌++◌, Option, Some, None, is_some, Result, Ok, Err, is_ok, refl, sym, ◌∙◌, fold, append-nil}
use Rattle.std.specs.Prelude.{MatchResult}
use Rattle.logbook.specs.Pages.{Named}
use Rattle.kv_model.specs.Configuration.{Configuration}
use Rattle.kv_publish.specs.Prefixes.{JournalPrefix}
use Rattle.kv_publish.specs.Publications.{Published, common_after}
use Rattle.kv_publish.specs.inside.Waiting.{waiting}

-- what is absorbed last stands alone
pub common_last : (s : JournalPrefix × Configuration × Named) (ops : List Published) (op : Published) → fold common_after s (ops ++ op ∷ []) ≡ common_after s op
common_last s [] op = refl
common_last s (x ∷ ops) op = common_last (common_after s x) ops op

pub at_ok : {X E : Type 0} (r : Result X E) (P : X → Type 0) (Q : E → Type 0) (R : Type 0) → ((x : X) → P x → R) → is_ok r ≡ true → MatchResult r P Q → R
at_ok (Ok x) P Q R f ok h = f x h
at_ok (Err e) P Q R f ok h = absurd (cc ok)

pub at_err : {X E : Type 0} (r : Result X E) (P : X → Type 0) (Q : E → Type 0) (R : Type 0) → ((e : E) → Q e → R) → is_ok r ≡ false → MatchResult r P Q → R
at_err (Ok x) P Q R f err h = absurd (cc err)
at_err (Err e) P Q R f err h = f e h

-- where nothing waits, what is pending is all
pub nothing_waits : {A : Type 0} (pending all : List A) (offered : Option A) → is_some offered ≡ false → pending ++ waiting offered ≡ all → pending ≡ all
nothing_waits pending all None f e = sym (append-nil pending) ∙ e
nothing_waits pending all (Some x) f e = absurd (cc f)
