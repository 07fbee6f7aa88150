use Rattle.std.proofs.Common.{◌≡◌, ◌+◌, ℕ, false, List, [], Option, refl, ap, subst}
use Rattle.std.specs.Prelude.{is_some}
use Rattle.std.specs.Option.{option_copied, option_len}
use Rattle.kv_model.specs.Acts.{Act}
use Rattle.kv_model.specs.Given.{Item}
use Rattle.kv_watch.specs.Following.{InReach, IsOpening}
use Rattle.kv_watch.specs.Taking.{item_taken}
use Rattle.kv_watch.specs.Watching.{Watching, HasHanded, MovesOn, item_behind}
use Rattle.kv_watch.proofs.Owing.{opening_on}
use Rattle.kv_watch.proofs.watch.Watch.take.Goals as goal

pub invariant_of-self : goal.invariant_of-self
invariant_of-self c =
    let was = c.self.inside in
    opening_on c.let_go.new.kept was.opening.value was.cursor c.take_settled.new.self c.take_settled.ensures.owes (c.let_go.ensures.opening was.opening.value c.self.invariant)

pub returns : goal.returns
returns c =
    let was = c.self.inside in
    let now = c.args.now.now in
    let base = was.opening.value in
    let took = c.take_settled.ensures in
    let item = item_taken c.take_settled.result in
    let old : Watching = record { opening = base; keeps = is_some was.kept; cursor = was.cursor } in
    let left : Watching = record { opening = base; keeps = is_some c.let_go.new.kept; cursor = c.take_settled.new.self } in
    let opening : IsOpening (option_copied c.as_ref.result) base was.cursor = rw c.as_ref.ensures.value (c.let_go.ensures.opening base c.self.invariant) in
    let next : (n : ℕ) (began acts : List Act) → HasHanded began acts n now old → item ≡ item_behind began acts n old = λ n began acts at. took.next n began acts base opening at in
    let moves : MovesOn now old left = record {
      opening = refl;
      filters = took.filters;
      options = took.options;
      moves = λ n began acts at. subst (λ (i : Option Item). InReach began acts (n + option_len i) base now left.cursor) (next n began acts at) (took.in_reach n began acts base opening at);
    } in (
      (refl, λ _. tt, subst (λ (w : Watching). MovesOn now w left × (w.cursor.owed ≡ [] → left.keeps ≡ false)) c.self.view_is (moves, λ none. ap is_some (c.let_go.ensures.lets_go none))),
      record {
        after = tt;
        next = subst (λ (w : Watching). (n : ℕ) (began acts : List Act) → HasHanded began acts n now w → item ≡ item_behind began acts n w) c.self.view_is next;
      },
    )
