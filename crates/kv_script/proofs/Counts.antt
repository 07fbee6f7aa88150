-- How many members and items an answer has.
use Rattle.std.proofs.Common.{◌≡◌, ℕ, zero, suc, ◌+◌, ◌-◌, ◌<◌, ◌≤◌, List, [], ◌∷◌, Some, None, length, filter, map, refl, ap, arith}
use Rattle.serde_json.specs.Data.{number, unsigned, item, no_items}
use Rattle.serde_json.specs.Events.{items_len, members_len}
use Rattle.kv_model.specs.Given.{Entry}
use Rattle.kv_script.specs.declared.answering.field.Field.{Field}
use Rattle.kv_script.specs.declared.answering.field.Field.TheVariants.{Number, Optional, Text, Truth}
use Rattle.kv_script.specs.declared.form.Form.{Form}
use Rattle.kv_script.specs.inside.Fields.{entry_items, key_items, number_items}
use Rattle.kv_script.specs.inside.Objects.{fields_of, is_there}
use Rattle.kv_script.specs.inside.Showing.{listed_revisions}
use Rattle.kv_script.specs.Text.{revisions_behind}

pub fields_count : (fields : List Field) → length (filter is_there fields) ≡ members_len (fields_of fields)
fields_count [] = refl
fields_count (Number name n ∷ fields) = ap suc (fields_count fields)
fields_count (Optional name None ∷ fields) = fields_count fields
fields_count (Optional name (Some n) ∷ fields) = ap suc (fields_count fields)
fields_count (Text name text ∷ fields) = ap suc (fields_count fields)
fields_count (Truth name truth ∷ fields) = ap suc (fields_count fields)

pub entries_count : {W : Type 0} (read : W → Entry) (form : Form) (ws : List W) → length ws ≡ items_len (entry_items form (map read ws))
entries_count read form [] = refl
entries_count read form (w ∷ ws) = ap suc (entries_count read form ws)

pub keys_count : {K : Type 0} (name : K → List ℕ) (ks : List K) → length ks ≡ items_len (key_items (map name ks))
keys_count name [] = refl
keys_count name (k ∷ ks) = ap suc (keys_count name ks)

pub revisions_count : (before n : ℕ) → n ≡ items_len (number_items (revisions_behind before n))
revisions_count before zero = refl
revisions_count before (suc n) = ap suc (revisions_count (before + 1) n)

-- what is left behind a revision, up to the last one
pub revisions_more : (revision last : ℕ) → revision < last → listed_revisions revision last ≡ item (number (unsigned (revision + 1))) (listed_revisions (revision + 1) last)
revisions_more revision last below =
    let one : last - revision ≡ suc (last - (revision + 1)) = omega (arith, below) in
    ap (λ n. number_items (revisions_behind revision n)) one

pub revisions_none : (revision last : ℕ) → last ≤ revision → listed_revisions revision last ≡ no_items
revisions_none revision last over =
    let none : last - revision ≡ 0 = omega (arith, over) in
    ap (λ n. number_items (revisions_behind revision n)) none
