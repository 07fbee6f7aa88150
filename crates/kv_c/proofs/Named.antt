-- The names of codes: a code has one name.
use Rattle.std.proofs.Common.{◌≡◌, ℕ, ◌≤◌, List, [], ◌∷◌, refl, ap, sym, subst, ◌∙◌, arith}
use Rattle.std.specs.Prelude.{Option, Some, None, ◌==◌, find}
use Rattle.std.specs.Option.{option_map}
use Rattle.kv_c.specs.Codes.{own_name}
use Rattle.kv_keys.specs.Refusals.{code_of, name_of}
use Rattle.kv_keys.specs.declared.error.KvError.{KvError}
use Rattle.kv_keys.specs.declared.error.KvError.TheVariants.{OutOfMemory, BadBucket, BadConfig, BadKey, BadFilter, OptionsClash, ValueTooLarge, Sealed, JournalFull, KeyExists, WrongLastRevision, KeyNotFound, NoSuchWatch, TooManyWatches, NoReader, BadCommand, ReadFault, WriteFault, BadFloor, WatchBehind, Lagged}

abbrev refusals : List KvError
refusals = OutOfMemory ∷ BadBucket ∷ BadConfig ∷ BadKey ∷ BadFilter ∷ OptionsClash ∷ ValueTooLarge ∷ Sealed ∷ JournalFull ∷ KeyExists ∷ (WrongLastRevision 0) ∷ KeyNotFound ∷ NoSuchWatch ∷ TooManyWatches ∷ NoReader ∷ BadCommand ∷ ReadFault ∷ WriteFault ∷ BadFloor ∷ (WatchBehind 0) ∷ (Lagged 0) ∷ []

abbrev first_name : ℕ → Option (List ℕ)
first_name code = option_map name_of (find (λ e. code_of e == code) refusals)

is_first : (e : KvError) → first_name (code_of e) ≡ Some (name_of e)
is_first OutOfMemory = refl
is_first _ = refl

inside : {X : Type 0} (x y : X) → Some x ≡ Some y → x ≡ y
inside x y e = cc

pub same_name : (e f : KvError) → code_of e ≡ code_of f → name_of e ≡ name_of f
same_name e f same = inside (name_of e) (name_of f) (sym (is_first e) ∙ ap first_name same ∙ is_first f)

pub not_own : (e : KvError) → own_name (code_of e) ≡ None
not_own OutOfMemory = refl
not_own _ = refl

within : (e : KvError) → (1 ≤ code_of e) × (code_of e ≤ 21)
within OutOfMemory = (omega arith, omega arith)
within _ = (omega arith, omega arith)

pub no_refusal : (code : ℕ) → ¬ ((1 ≤ code) × (code ≤ 21)) → (e : KvError) → ¬ (code_of e ≡ code)
no_refusal code out e is = out (subst (λ k. (1 ≤ k) × (k ≤ 21)) is (within e))
