-- What no bucket accepts.
use Rattle.std.proofs.Common.{◌≡◌, ℕ, ◌≤◌, Bool, true, false, length, refl, ap, sym, ◌∙◌, arith}
use Rattle.std.specs.Prelude.{Result, Ok, Err, nat_lt, if◌then◌else◌}
use Rattle.std.proofs.lemmas.Bool.{lt-ltb}
use Rattle.std.proofs.lemmas.Bool.Decides.{nat_tests}
use Rattle.kv_c.specs.Batching.{gatherable}
use Rattle.kv_c.specs.Codes.{outcome}
use Rattle.kv_keys.specs.Grammar.{is_key}
use Rattle.kv_keys.specs.declared.error.KvError.{KvError}
use Rattle.kv_keys.specs.declared.error.KvError.TheVariants.{BadKey, JournalFull, Sealed, ValueTooLarge}
use Rattle.kv_model.specs.Acceptance.{accept, is_full, next_write, objection, unless}
use Rattle.kv_model.specs.Acts.{Write, is_sealed}
use Rattle.kv_model.specs.Configuration.{Configuration, has_legal_numbers}
use Rattle.kv_model.specs.Requests.{Asked, key_of, value_of}
use Rattle.kv_model.specs.State.{State}

at_most : (config : Configuration) → has_legal_numbers config ≡ true → config.value_limit ≤ 1048576
at_most config legal = grind (arith, nat_tests)

too_large : (limit size : ℕ) → limit ≤ 1048576 → nat_lt 1048576 size ≡ true → nat_lt limit size ≡ true
too_large limit size l h = lt-ltb limit size (grind (arith, nat_tests))

module _ (what : Asked) (e : KvError) (state : State) (h : gatherable what ≡ Err e) (legal : has_legal_numbers state.config ≡ true) where
  abbrev size : ℕ
  size = length (value_of what)

  abbrev accepted : Result Write KvError
  accepted = accept state.config what state.acts

  abbrev checked : Bool → Result Asked KvError
  checked is_large = if is_large then Err ValueTooLarge else Ok what

  by_size : (is_large : Bool) → nat_lt 1048576 size ≡ is_large → checked is_large ≡ Err e → accepted ≡ Err e
  by_size false is denied = cc
  by_size true is denied =
      let over : nat_lt state.config.value_limit size ≡ true = too_large state.config.value_limit size (at_most state.config legal) is in
      let error : ValueTooLarge ≡ e = cc in
      ap (λ (b : Bool). if b then Err ValueTooLarge
      else (if is_sealed state.acts then Err Sealed
      else (if is_full state.config state.acts then Err JournalFull
      else unless (objection what state.acts) (next_write what state.acts)))) over ∙ ap Err error

  abbrev gathered_by : Bool → Result Asked KvError
  gathered_by has_key = if has_key then checked (nat_lt 1048576 size) else Err BadKey

  abbrev accepted_by : Bool → Result Write KvError
  accepted_by has_key = if has_key then accepted else Err BadKey

  by_key : (has_key : Bool) → is_key (key_of what) ≡ has_key → outcome what state ≡ Err e
  unfolding outcome is_key
  by_key false is =
      let denied : gathered_by false ≡ Err e = sym (ap gathered_by is) ∙ h in
      let error : BadKey ≡ e = cc in
      ap accepted_by is ∙ ap Err error
  by_key true is =
      let denied : gathered_by true ≡ Err e = sym (ap gathered_by is) ∙ h in
      ap accepted_by is ∙ by_size (nat_lt 1048576 size) refl denied

  pub not_gathered : outcome what state ≡ Err e
  not_gathered = by_key (is_key (key_of what)) refl
