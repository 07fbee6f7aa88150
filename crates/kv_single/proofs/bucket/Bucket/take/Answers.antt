use Rattle.std.proofs.Common.{◌≡◌, Some, None, refl, sym, ap, ◌∙◌}
use Rattle.std.specs.Prelude.{slice_set}
use Rattle.std.specs.List.{position, slice_get}
use Rattle.std.proofs.lemmas.Option.{get_or_from_slice_get}
use Rattle.kv_watch.specs.Taking.{item_taken}
use Rattle.kv_model.specs.Answers.{answer_item}
use Rattle.kv_single.specs.Held.{Holding, Bucketed, Represents, has_number}
use Rattle.kv_model.specs.State.{State, after_take, answer_take, open_at}
use Rattle.kv_single.proofs.Answering.{take_none, peeked, moved_on}
use Rattle.kv_model.proofs.Finds.{found_there}
use Rattle.kv_single.proofs.bucket.Bucket.take.Goals as goal

pub returns-in_default : goal.returns-in_default
returns-in_default c = (
  (refl, λ _. tt, c.self.view_is),
  record {
    after = tt;
    ok = tt;
    refused = (
      refl,
      rw (← c.self.view_is) (λ state r.
          let none : position (has_number c.args.number) c.self.inside.watches.items ≡ None = sym (rw c.deref.ensures.value at c.in_default.ensures) in
          take_none state _ c.args.number none r),
    );
  },
)

pub returns : goal.returns
returns c =
    let watches = c.self.inside.watches.items in
    let place = c.in-Some.index in
    let now : Bucketed = record { version = c.self.inside.version; watches = watches; opened = c.self.inside.opened } in
    let at : position (has_number c.args.number) watches ≡ Some place = sym (rw c.deref.ensures.value at c.in-Some.ensures) in
    let found = found_there (has_number c.args.number) watches place at in
    let held : Holding = record { number = c.held.inside.number; watch = c.held.inside.watch } in
    let is : c.index_mut-held.result.now ≡ found.0 = c.index_mut-held.ensures.value ∙ get_or_from_slice_get watches place found.0 c.index_mut-held.result.now found.1 in
    let here : slice_get watches place ≡ Some held = found.1 ∙ ap (λ (h : Holding). Some h) (sym is ∙ sym c.held.view_is) in
    let item = item_taken c.take.result in
    let new = c.take.follows.lender-at-none in
    let answers : (state : State) → Represents state now → answer_item item ≡ answer_take state (open_at c.args.number state) =
    λ state r. peeked state now c.args.number place held at here r item c.take.ensures.next in
    let moved : (state : State) → Represents state now → Represents (after_take c.args.number state (open_at c.args.number state)) (record now { watches = slice_set watches place (record held { watch = new }) }) =
    λ state r. moved_on state now c.args.number place held at here r new c.take.follows.holds-at-none.0 in (
      (refl, λ _. tt, rw (← c.self.view_is) (λ state r. (answers state r, moved state r))),
      record {
        after = tt;
        ok = rw (← c.self.view_is) answers;
        refused = tt;
      },
    )
