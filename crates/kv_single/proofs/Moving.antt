-- How a take moves what is held of a watch.
use Rattle.std.proofs.Common.{◌≡◌, ℕ, ◌+◌, List, Option, Some, None, sym, ap, ◌∙◌, subst, arith}
use Rattle.std.specs.List.{slice_get}
use Rattle.std.specs.Option.{option_len}
use Rattle.kv_model.specs.Acts.{Act}
use Rattle.kv_model.specs.Configuration.{Configuration}
use Rattle.kv_store.specs.Stored.{Stored}
use Rattle.kv_model.specs.declared.options.Options.{Options}
use Rattle.kv_watch.specs.Watching.{Watching, HasHanded, MovesOn, all_given, item_behind}
use Rattle.kv_model.specs.Given.{Item, given}
use Rattle.kv_single.specs.Held.{Holding, Follows}
use Rattle.kv_model.specs.State.{after_handed, Watch, given_to, next_of}

-- what is held is given what its watch is given
pub all_is : (acts : List Act) (version : Stored) (held : Holding) (watch : Watch) → Follows acts version held watch → all_given watch.began acts held.watch ≡ given_to version.config.history acts watch
all_is acts version held watch f =
    let h = held.watch.opening.config.history in
    ap (λ (fs : List (List ℕ)). given h watch.began acts fs held.watch.cursor.options) f.filters
    ∙ ap (λ (o : Options). given h watch.began acts watch.filters o) f.options
    ∙ ap (λ (c : Configuration). given c.history watch.began acts watch.filters watch.options) (sym f.place.place.same_config)

-- and has the same next item
pub next_is : (acts : List Act) (version : Stored) (held : Holding) (watch : Watch) → Follows acts version held watch → item_behind watch.began acts watch.handed held.watch ≡ next_of version.config.history acts watch
next_is acts version held watch f = ap (λ items. slice_get items watch.handed) (all_is acts version held watch f)

-- behind an item
behind : (acts : List Act) (version : Stored) (held : Holding) (new : Watching) (watch : Watch) (item : Option Item) → new.cursor.filters ≡ watch.filters → new.cursor.options ≡ watch.options
    → HasHanded watch.began acts (watch.handed + option_len item) version new → Follows acts version (record held { watch = new }) (after_handed watch item)
behind acts version held new watch None fs os at = record { filters = fs; options = os; place = subst (λ n. HasHanded watch.began acts n version new) (omega arith) at }
behind acts version held new watch (Some item) fs os at = record { filters = fs; options = os; place = at }

-- what moved on follows the watch behind its next item
pub moves_on : (version : Stored) (held : Holding) (new : Watching) → MovesOn version held.watch new → (acts : List Act) (watch : Watch) → Follows acts version held watch
    → Follows acts version (record held { watch = new }) (after_handed watch (next_of version.config.history acts watch))
moves_on version held new moves acts watch f =
    behind acts version held new watch (next_of version.config.history acts watch) (moves.filters ∙ f.filters) (moves.options ∙ f.options)
    (subst (λ (i : Option Item). HasHanded watch.began acts (watch.handed + option_len i) version new) (next_is acts version held watch f) (moves.moves watch.handed watch.began acts f.place))
