use Rattle.std.proofs.Common.{◌≡◌, Some, None, sym, ap, ◌∙◌}
use Rattle.std.specs.List.{position, slice_get}
use Rattle.std.proofs.lemmas.Option.{get_or_from_slice_get}
use Rattle.kv_single.specs.Held.{Holding, Bucketed, has_number}
use Rattle.kv_single.proofs.Answering.{pass_none, moved_on}
use Rattle.kv_model.proofs.Finds.{found_there}
use Rattle.kv_single.proofs.bucket.Bucket.pass.Goals as goal

pub returns-in_default-clause-step : goal.returns-in_default-clause-step
returns-in_default-clause-step c = rw (← c.self.view_is) (λ state r.
    let none : position (has_number c.args.number) c.self.inside.watches.items ≡ None = sym (rw c.deref.ensures.value at c.in_default.ensures) in
    pass_none state _ c.args.number none r)

pub returns-in-Some-clause-step : goal.returns-in-Some-clause-step
returns-in-Some-clause-step c = rw (← c.self.view_is) (λ state r.
    let watches = c.self.inside.watches.items in
    let place = c.in-Some.index in
    let now : Bucketed = record { version = c.self.inside.version; watches = watches; opened = c.self.inside.opened } in
    let at : position (has_number c.args.number) watches ≡ Some place = sym (rw c.deref.ensures.value at c.in-Some.ensures) in
    let found = found_there (has_number c.args.number) watches place at in
    let held : Holding = record { number = c.held.inside.number; watch = c.held.inside.watch } in
    let is : c.index_mut-held.result.now ≡ found.0 = c.index_mut-held.ensures.value ∙ get_or_from_slice_get watches place found.0 c.index_mut-held.result.now found.1 in
    let here : slice_get watches place ≡ Some held = found.1 ∙ ap (λ (h : Holding). Some h) (sym is ∙ sym c.held.view_is) in
    moved_on state now c.args.number place held at here r c.pass.new.self c.pass.ensures.moves)
