-- What a feed hands out: what its watch is given by the versions that it goes on to.
use Rattle.std.specs.Prelude.{◌≡◌, ℕ, ◌+◌, Bool, false, ◌||◌, nat_lt, List, Option, length}
use Rattle.std.specs.Option.{option_len}
use Rattle.kv_c.specs.declared.item.Item.{Item as Told}
use Rattle.kv_c.specs.Handing.{told}
use Rattle.kv_model.specs.Acts.{Act, IsPrefix, writes_of}
use Rattle.kv_model.specs.Answers.{answer_item}
use Rattle.kv_model.specs.Given.{Item, is_behind}
use Rattle.kv_model.specs.declared.options.Options.{Options}
use Rattle.kv_store.specs.Standing.{StandsFor}
use Rattle.kv_store.specs.Stored.{Stored}
use Rattle.kv_watch.specs.Watching as watches
use Rattle.kv_watch.specs.Watching.{Watching, item_behind}

-- the version that it has gone on to, and its watch
pub record Fed : Type 0 where
  pub present : Stored
  pub watch : Watching

-- it has handed out the first n items of what its watch is given: the watch began after the acts `began`, and its
-- version stands for `acts`
abbrev pub HasHanded : List Act → List Act → ℕ → Fed → Type 0
HasHanded began acts n f = watches.HasHanded began acts n f.present f.watch

-- the item after the first n, if there is one
abbrev pub next_of : List Act → List Act → ℕ → Fed → Option Item
next_of began acts n f = item_behind began acts n f.watch

-- it lags behind a floor where the floor is above the last revision of its version, or a live item at or below it is
-- still to be handed out
abbrev pub lags : ℕ → List Act → List Act → ℕ → Fed → Bool
lags floor began acts n f = nat_lt (length (writes_of acts)) floor || is_behind floor n f.watch.opening.config.history began
    acts f.watch.cursor.filters f.watch.cursor.options

-- it begins with a version, and has handed out nothing
abbrev pub Opens : Stored → List (List ℕ) → Options → Fed → Type 0
Opens v filters options f = (f.watch.opening ≡ v) × (f.present ≡ v) × (f.watch.cursor.filters ≡ filters) × (f.watch.cursor.options ≡ options)
    × ((acts : List Act) → StandsFor acts v → HasHanded acts acts 0 f)

-- it goes on to a version: it did not lag behind that one's floor, and where that is a later one of the same bucket,
-- all that it handed out counts on
abbrev pub IsRefreshed : Stored → Fed → Fed → Type 0
IsRefreshed v old new = (new ≡ record old { present = v })
    × ((began acts : List Act) (n : ℕ) → HasHanded began acts n old → lags v.floor began acts n old ≡ false)
    × ((began acts later : List Act) (n : ℕ) → HasHanded began acts n old → StandsFor later v →
    v.config ≡ old.present.config → IsPrefix acts later → HasHanded began later n new)

-- it hands out the next item, or that there is none, and has handed out that one too
abbrev pub HandsNext : Fed → Told → List ℕ → List ℕ → Fed → Type 0
HandsNext old item keys values new = (new.watch.opening ≡ old.watch.opening) × (new.present ≡ old.present) ×
    (new.watch.cursor.filters ≡ old.watch.cursor.filters) × (new.watch.cursor.options ≡ old.watch.cursor.options)
    × ((began acts : List Act) (n : ℕ) → HasHanded began acts n old →
    (answer_item (next_of began acts n old) ≡ told item keys values) ×
    HasHanded began acts (n + option_len (next_of began acts n old)) new)
