use Rattle.std.proofs.Common.{◌≡◌, ◌++◌, Some, sym, ap, ◌∙◌}
use Rattle.std.specs.Option.{option_to_list}
use Rattle.kv_model.proofs.Lasts.{last_get}
use Rattle.kv_store.proofs.listing.add_selected.Goals as goal

pub returns-in_ok-push-in-Latest : goal.returns-in_ok-push-in-Latest
returns-in_ok-push-in-Latest c =
    let last = sym (last_get c.args.revisions.now) ∙ sym c.in-Some.ensures.value in
    let read : c.push.new.self.items ≡ c.args.found.now.items ++ option_to_list (Some c.in-Some.last.now) = c.in_ok-push-in-Latest.ensures.items in
    rw c.in-Latest.is (read ∙ ap (λ o. c.args.found.now.items ++ option_to_list o) (sym last))
