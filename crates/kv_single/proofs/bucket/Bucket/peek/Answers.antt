use Rattle.std.proofs.Common.{◌≡◌, Some, None, refl, sym, ap, ◌∙◌}
use Rattle.std.specs.List.{position}
use Rattle.std.proofs.lemmas.Option.{get_or_from_slice_get}
use Rattle.kv_watch.specs.Taking.{item_taken}
use Rattle.kv_single.specs.Held.{Holding, has_number}
use Rattle.kv_single.proofs.Answering.{take_none, peeked}
use Rattle.kv_model.proofs.Finds.{found_there}
use Rattle.kv_single.proofs.bucket.Bucket.peek.Goals as goal

pub returns-in_default-clause-refused : goal.returns-in_default-clause-refused
returns-in_default-clause-refused c = (
  refl,
  rw (← c.self.view_is) (λ state r.
      let none : position (has_number c.args.number) c.self.inside.watches.items ≡ None = sym (rw c.deref.ensures.value at c.in_default.ensures) in
      take_none state _ c.args.number none r),
)

pub returns-clause-ok : goal.returns-clause-ok
returns-clause-ok c = rw (← c.self.view_is) (λ state r.
    let watches = c.self.inside.watches.items in
    let at : position (has_number c.args.number) watches ≡ Some c.in-Some.index = sym (rw c.deref.ensures.value at c.in-Some.ensures) in
    let held = found_there (has_number c.args.number) watches c.in-Some.index at in
    let inside : Holding = record { number = c.held.inside.number; watch = c.held.inside.watch } in
    let is : c.index-held.result.now ≡ held.0 = c.index-held.ensures ∙ get_or_from_slice_get watches c.in-Some.index held.0 c.index-held.result.now held.1 in
    peeked state _ c.args.number c.in-Some.index inside at (held.1 ∙ ap (λ (h : Holding). Some h) (sym is ∙ sym c.held.view_is)) r (item_taken c.peek.result)
    c.peek.ensures)
