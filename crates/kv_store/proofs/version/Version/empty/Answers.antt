use Rattle.std.proofs.Common.{◌≡◌, ℕ, ◌≤◌, true, List, length, ap, ◌∙◌, sym, subst, rules}
use Rattle.std.specs.Prelude.{nat_le, nat_lt}
use Rattle.std.specs.List.{list_all}
use Rattle.std.proofs.lemmas.Bool.{and_parts, leb-true}
use Rattle.kv_keys.specs.Grammar.{has_one_to, is_name, is_name_character}
use Rattle.kv_store.proofs.version.Version.empty.Goals as goal

-- a name has room in what keeps it
name_length : (text : List ℕ) → is_name text ≡ true → length text ≤ 64
unfolding is_name
name_length text named =
    let counted = (and_parts (has_one_to 64 text) (list_all is_name_character text) named).0 in
    leb-true (length text) 64 (and_parts (nat_lt 0 (length text)) (nat_le (length text) 64) counted).1

pub unreachable-requires : goal.unreachable-requires
unreachable-requires c =
    let same = c.as_str.ensures.value ∙ ap (λ config. config.bucket) c.config.view_is in
    let named = name_length c.args.config.now.bucket c.in_ok-check.ensures.ok.0.0 in
    let fits = c.in_default.ensures.variant.1 (subst (λ text. length text ≤ 64) (sym same) named) in
    search (rules, fits)
