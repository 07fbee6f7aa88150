use Rattle.std.proofs.Common.{[], unwrap_or, sym, ap, ◌∙◌}
use Rattle.std.specs.Option.{option_map}
use Rattle.kv_store.proofs.Lookups.{by_bytes}
use Rattle.kv_store.proofs.key_history.kept_of.Goals as goal

pub returns : goal.returns
returns c =
    c.revisions_of.ensures
    ∙ ap (λ o. unwrap_or (option_map (λ v. v.revisions) o) []) c.get.ensures
    ∙ ap (λ o. unwrap_or o []) (sym (by_bytes (λ v. v.revisions) c.args.key.now c.args.by_key.now))
