-- What feeds do, from what their cursors do.
use Rattle.std.proofs.Common.{◌≡◌, ℕ, ◌+◌, ◌<◌, ◌≤◌, Bool, true, false, ◌||◌, nat_lt, List, length, refl, ap, sym, subst, ◌∙◌}
use Rattle.std.specs.Prelude.{Option}
use Rattle.std.specs.Option.{option_len}
use Rattle.std.proofs.lemmas.Bool.{lt-ltb, ltb-false}
use Rattle.kv_single.proofs.Least.{not_less}
use Rattle.kv_c.specs.Feeding.{Fed, HasHanded, HandsNext, IsRefreshed, lags, next_of}
use Rattle.kv_c.specs.Handing.{told}
use Rattle.kv_c.specs.declared.item.Item.{Item as Told}
use Rattle.kv_model.specs.Acts.{Act, writes_of}
use Rattle.kv_model.specs.Answers.{answer_item}
use Rattle.kv_model.specs.Given.{Item, is_behind}
use Rattle.kv_store.specs.Stored.{Stored}
use Rattle.kv_watch.proofs.Reaching.{in_reach_later}
use Rattle.kv_watch.specs.Watching as watches
use Rattle.kv_watch.specs.Watching.{MovesOn}

-- whether a feed lags, by the last revision of its version and by what its cursor tells
pub lags_far : (floor n : ℕ) (began acts : List Act) (f : Fed) → length (writes_of acts) < floor → true ≡ lags floor began acts n f
lags_far floor n began acts f l = sym (ap (λ b. b || is_behind floor n f.watch.opening.config.history began acts f.watch.cursor.filters f.watch.cursor.options) (lt-ltb (length (writes_of acts)) floor l))

pub lags_near : (floor n : ℕ) (began acts : List Act) (f : Fed) (behind : Bool) → floor ≤ length (writes_of acts) → behind ≡ is_behind floor n f.watch.opening.config.history began acts f.watch.cursor.filters f.watch.cursor.options
    → behind ≡ lags floor began acts n f
lags_near floor n began acts f behind l e =
    e ∙ sym (ap (λ b. b || is_behind floor n f.watch.opening.config.history began acts f.watch.cursor.filters f.watch.cursor.options) (not_less (length (writes_of acts)) floor l))

neither : (a b : Bool) → (a || b) ≡ false → (a ≡ false) × (b ≡ false)
neither true b e = cc
neither false b e = (refl, e)

pub refreshed : (v : Stored) (old new : Fed) → new ≡ record old { present = v } → ((began acts : List Act) (n : ℕ) → HasHanded began acts n old → lags v.floor began acts n old ≡ false) → IsRefreshed v old new
refreshed v old new is ahead = (
  is,
  ahead,
  λ began acts later n at stands same p.
      let parts = neither (nat_lt (length (writes_of acts)) v.floor) (is_behind v.floor n old.watch.opening.config.history began acts old.watch.cursor.filters old.watch.cursor.options) (ahead began acts n at) in
      subst (λ f. HasHanded began later n f) (sym is)
      (in_reach_later n began acts later old.watch.opening old.present v old.watch.cursor at.place stands same p (ltb-false (length (writes_of acts)) v.floor parts.0) parts.1),
)

-- a feed whose watch moved on behind what it peeked, and was told, handed it out
pub handed_next : (old new : Fed) (taken : Option Item) (item : Told) (keys values : List ℕ) → ((n : ℕ) (began acts : List Act) → HasHanded began acts n old → taken ≡ next_of began acts n old) →
    told item keys values ≡ answer_item taken → new.present ≡ old.present → MovesOn old.present old.watch new.watch → HandsNext old item keys values new
handed_next old new taken item keys values looks is_told same_present moves = (
  moves.opening,
  same_present,
  moves.filters,
  moves.options,
  λ began acts n at. (
    sym (is_told ∙ ap answer_item (looks n began acts at)),
    subst (λ (v : Stored). watches.HasHanded began acts (n + option_len (next_of began acts n old)) v new.watch) (sym same_present) (moves.moves n began acts at),
  ),
)
