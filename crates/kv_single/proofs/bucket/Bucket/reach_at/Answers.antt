use Rattle.std.proofs.Common.{◌≡◌, Some, None, false, ◌&&◌, sym, ap, ◌∙◌, arith}
use Rattle.std.specs.List.{position}
use Rattle.std.specs.Option.{option_map_or}
use Rattle.std.proofs.lemmas.Option.{get_or_from_slice_get}
use Rattle.kv_model.specs.Configuration.{Configuration}
use Rattle.kv_model.specs.Given.{is_behind}
use Rattle.kv_model.specs.State.{watch_behind}
use Rattle.kv_single.specs.Held.{Holding, has_number}
use Rattle.kv_single.proofs.Answering.{is_now, none_open, watch_of}
use Rattle.kv_single.proofs.Least.{not_less}
use Rattle.kv_single.proofs.Representing.{behind_same}
use Rattle.kv_model.proofs.Finds.{found_there}
use Rattle.kv_single.proofs.bucket.Bucket.reach_at.Goals as goal

pub returns-in_default-clause-reach : goal.returns-in_default-clause-reach
returns-in_default-clause-reach c = rw (← c.self.view_is) (λ state r floor l.
    let none : position (has_number c.args.number) c.self.inside.watches.items ≡ None = sym (rw c.deref.ensures.value at c.in_default.ensures) in
    let last = c.revision.ensures.acts state.acts r.version in
    ap (λ o. option_map_or (watch_behind floor state.config.history state.acts) o false) (none_open state _ c.args.number r none)
    ∙ sym (not_less c.revision.result floor (omega (arith, l, last))))

pub returns-clause-reach : goal.returns-clause-reach
returns-clause-reach c = rw (← c.self.view_is) (λ state r floor l.
    let watches = c.self.inside.watches.items in
    let at : position (has_number c.args.number) watches ≡ Some c.in-Some.index = sym (rw c.deref.ensures.value at c.in-Some.ensures) in
    let held = found_there (has_number c.args.number) watches c.in-Some.index at in
    let inside : Holding = record { number = c.held.inside.number; watch = c.held.inside.watch } in
    let is : c.index-held.result.now ≡ held.0 = c.index-held.ensures ∙ get_or_from_slice_get watches c.in-Some.index held.0 c.index-held.result.now held.1 in
    let here = held.1 ∙ ap (λ (h : Holding). Some h) (sym is ∙ sym c.held.view_is) in
    let watch = watch_of state _ c.args.number c.in-Some.index inside at here r in
    let opens = is_now state _ c.args.number c.in-Some.index inside at here r in
    ap (λ o. option_map_or (watch_behind floor state.config.history state.acts) o false) watch.1
    ∙ ap (λ b. b && is_behind floor watch.0.handed state.config.history watch.0.began state.acts watch.0.filters watch.0.options) opens.1
    ∙ sym (behind_same floor state.config.history state.acts c.self.inside.version inside watch.0 (ap (λ (k : Configuration). k.history) r.config) watch.2)
    ∙ c.reach.ensures.reach watch.0.handed watch.0.began state.acts watch.2.place floor l)
