use Rattle.std.proofs.Common.{◌≡◌, Some, None, refl, sym, ap, ◌∙◌, not, rules, filter}
use Rattle.std.specs.List.{position}
use Rattle.std.proofs.lemmas.Fn.{filter_same}
use Rattle.std.proofs.lemmas.Option.{get_or_from_slice_get}
use Rattle.kv_model.specs.Answers.{Ended}
use Rattle.kv_single.specs.Held.{Holding, has_number}
use Rattle.kv_single.proofs.Answering.{stop_none, stop_some}
use Rattle.kv_model.proofs.Finds.{found_there}
use Rattle.kv_single.proofs.bucket.Bucket.stop.Goals as goal

pub returns-in_default-clause-refused : goal.returns-in_default-clause-refused
returns-in_default-clause-refused c = (
  refl,
  rw (← c.self.view_is) (λ state r.
      let none : position (has_number c.args.number) c.self.inside.watches.items ≡ None = sym (rw c.deref.ensures.value at c.in_default.ensures) in
      stop_none state _ c.args.number none r),
)

pub returns-clause-ok : goal.returns-clause-ok
returns-clause-ok c = rw (← c.self.view_is) (λ state r.
    let watches = c.self.inside.watches.items in
    let at : position (has_number c.args.number) watches ≡ Some c.in-Some.index = sym (rw c.deref.ensures.value at c.in-Some.ensures) in
    let held = found_there (has_number c.args.number) watches c.in-Some.index at in
    let is : c.index.result.now ≡ held.0 = c.index.ensures ∙ get_or_from_slice_get watches c.in-Some.index held.0 c.index.result.now held.1 in
    let kept : c.retain.new.self.items ≡ filter (λ held. not (has_number c.args.number held)) watches =
    filter_same _ _ _ (λ x b f' k. search rules) _ _ c.retain.ensures.filtered in
    let all = stop_some state _ c.args.number c.in-Some.index held.0 at held.1 r in
    (ap Ended (c.handed-handed.ensures.value ∙ ap (λ (h : Holding). h.watch.cursor.handed) (c.behind-self.view_is ∙ is)) ∙ all.0, rw kept all.1))
