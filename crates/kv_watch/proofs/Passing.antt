-- The cursor behind an item, by what was popped of the list of what it owes, and what the event of an item tells of it.
use Rattle.std.proofs.Common.{◌≡◌, ℕ, ◌+◌, Bool, true, false, List, [], ◌∷◌, ◌++◌, Option, Some, None, length, reverse, refl, arith}
use Rattle.std.specs.Prelude.{is_some}
use Rattle.std.specs.Option.{option_len, option_map, option_to_list, MatchOption}
use Rattle.std.proofs.lemmas.List.{reverse-append}
use Rattle.kv_model.specs.declared.event.Event.{Event}
use Rattle.kv_model.specs.declared.event.Event.TheVariants as events
use Rattle.kv_model.specs.declared.options.Options.{Options}
use Rattle.kv_model.specs.Given.{Item}
use Rattle.kv_model.specs.further.Events.{event_of}
use Rattle.kv_watch.specs.Following.{Following, behind, behind_entry, one_more}

module _ (filters : List (List ℕ)) (options : Options) where
  -- the list has the next revision last, so nothing is popped of it only where it owes none
  pub behind_live : (items left : List ℕ) (n m : ℕ) (popped : Option ℕ) (marker : Bool) (seen next handed revision : ℕ) → n ≡ length items → m ≡ length left → is_some popped ≡ false
      → MatchOption popped ((n ≡ 0) × (m ≡ 0)) (λ _. m + 1 ≡ n)
      → record { filters = filters; options = options; owed = reverse left; marker = marker; seen = revision; next = one_more revision; handed = one_more handed }
      ≡ behind (events.Entry revision) (record { filters = filters; options = options; owed = reverse items; marker = marker; seen = seen; next = next; handed = handed })
  behind_live [] [] n m None marker seen next handed revision l k none is = refl
  behind_live (r ∷ rs) left n m None marker seen next handed revision l k none is = absurd (omega (arith, l, is.0))
  behind_live [] (r ∷ rs) n m None marker seen next handed revision l k none is = absurd (omega (arith, k, is.1))
  behind_live items left n m (Some r) marker seen next handed revision l k none is = cc

  pub behind_initial : (items left : List ℕ) (popped : Option ℕ) (marker : Bool) (seen next handed revision : ℕ) → is_some popped ≡ true → items ≡ left ++ option_to_list popped
      → record { filters = filters; options = options; owed = reverse left; marker = marker; seen = seen; next = next; handed = one_more handed }
      ≡ behind (events.Entry revision) (record { filters = filters; options = options; owed = reverse items; marker = marker; seen = seen; next = next; handed = handed })
  behind_initial items left None marker seen next handed revision some is = cc
  behind_initial items left (Some r) marker seen next handed revision some is = rw (is, reverse-append left (r ∷ [])) refl

pub same_filters : (event : Event) (cursor : Following) → (behind event cursor).filters ≡ cursor.filters
same_filters events.Marker cursor = refl
same_filters (events.Entry revision) cursor = by_owed cursor.owed
  where
    by_owed : (owed : List ℕ) → (behind_entry revision owed cursor).filters ≡ cursor.filters
    by_owed [] = refl
    by_owed (r ∷ rs) = refl

pub same_options : (event : Event) (cursor : Following) → (behind event cursor).options ≡ cursor.options
same_options events.Marker cursor = refl
same_options (events.Entry revision) cursor = by_owed cursor.owed
  where
    by_owed : (owed : List ℕ) → (behind_entry revision owed cursor).options ≡ cursor.options
    by_owed [] = refl
    by_owed (r ∷ rs) = refl

-- an item has an event, and only an item has
pub as_many : (item : Option Item) → option_len (option_map event_of item) ≡ option_len item
as_many None = refl
as_many (Some x) = refl

pub is_item : (item : Option Item) (event : Event) → option_map event_of item ≡ Some event → item ≡ None → ⊥
is_item None event e none = cc
is_item (Some x) event e none = cc

pub no_more : (n : ℕ) (item : Option Item) → None ≡ option_map event_of item → n ≡ n + option_len item
no_more n None e = omega arith
no_more n (Some x) e = cc
