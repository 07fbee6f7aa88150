-- Options that clash.
use Rattle.std.proofs.Common.{◌≡◌, ℕ, Bool, true, false, List, Option, Some, None, Result, Ok, Err, codes, refl, sym, ap, subst, true≢false, ◌∙◌}
use Rattle.std.specs.Prelude.{IsOk}
use Rattle.std.specs.Result.{result_map_both}
use Rattle.kv_keys.specs.declared.error.KvError.{KvError}
use Rattle.kv_keys.specs.declared.error.KvError.TheVariants.{OptionsClash}
use Rattle.kv_model.specs.Flags.{start_asked}
use Rattle.kv_model.specs.declared.options.Options.{Options}
use Rattle.kv_model.specs.declared.options.Start.{Start}
use Rattle.kv_script.specs.Choices.{from_among, is_given, options_of}

error_of : {X : Type 0} → Result X KvError → KvError
error_of {X} (Ok x) = OptionsClash
error_of {X} (Err e) = e

-- a start that is refused is one that clashes
asked_refusal : (history updates : Bool) (from : Option ℕ) (e : KvError) → start_asked history updates from ≡ Err e → e ≡ OptionsClash
unfolding error_of
asked_refusal false false None e h = absurd (true≢false (sym (subst IsOk h refl)))
asked_refusal true false None e h = absurd (true≢false (sym (subst IsOk h refl)))
asked_refusal false true None e h = absurd (true≢false (sym (subst IsOk h refl)))
asked_refusal false false (Some revision) e h = absurd (true≢false (sym (subst IsOk h refl)))
asked_refusal true true None e h = ap error_of (sym h)
asked_refusal true false (Some revision) e h = ap error_of (sym h)
asked_refusal false true (Some revision) e h = ap error_of (sym h)
asked_refusal true true (Some revision) e h = ap error_of (sym h)

pub clashes : (words : List (List ℕ)) (history updates : Bool) (from : Option ℕ) → history ≡ is_given (codes "history") words → updates ≡ is_given (codes "updates") words → from ≡ from_among words
    → (e : KvError) → start_asked history updates from ≡ Err e → (e ≡ OptionsClash) × (options_of words ≡ Err e)
clashes words history updates from h u f e asked =
    let same : start_asked history updates from ≡ start_asked (is_given (codes "history") words) (is_given (codes "updates") words) (from_among words) =
    ap (λ b. start_asked b updates from) h ∙ ap (λ b. start_asked (is_given (codes "history") words) b from) u
    ∙ ap (start_asked (is_given (codes "history") words) (is_given (codes "updates") words)) f in
    let shows : Start → Options = λ start. record { start = start; ignore_deletes = is_given (codes "nodeletes") words; headers_only = is_given (codes "meta") words } in
    (asked_refusal history updates from e asked, ap (result_map_both shows (λ error. error)) (sym same ∙ asked))
