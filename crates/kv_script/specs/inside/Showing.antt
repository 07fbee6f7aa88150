-- The JSON of entries, of histories, of keys and of revisions, as they are shown, for clauses of this crate alone.
use Rattle.std.specs.Prelude.{ℕ, ◌-◌, List, map, codes, Option, Some, None}
use Rattle.std.specs.Borrow.{Bor}
use Rattle.std.specs.Option.{option_copied}
use Rattle.serde_json.specs.Data.{Data, object, Items, Members, no_members}
use Rattle.kv_model.specs.State.{read_entry}
use Rattle.kv_model.specs.declared.write.Write.{Write}
use Rattle.kv_script.specs.declared.form.Form.{Form}
use Rattle.kv_script.specs.declared.answering.shown.Shown.{Shown}
use Rattle.kv_script.specs.Text.{revisions_behind}
use Rattle.kv_script.specs.inside.Fields.{entry_fields, entry_items, head_fields, key_items, list_fields, number_items, parts_entry, watch_field}

abbrev pub head_of : Shown → Members → Members
head_of shown = head_fields shown.key.now shown.op shown.revision shown.size

-- all but the watch, with this value
abbrev pub front_with : Form → Shown → Option (List ℕ) → Members → Members
front_with form shown value = entry_fields form (parts_entry shown.key.now shown.op shown.revision shown.size value)

-- the watch that hands an entry out, if one does
abbrev pub watch_fields : Option ℕ → Members
watch_fields None = no_members
watch_fields (Some watch) = watch_field watch

abbrev pub shown_fields : Shown → Members
shown_fields shown = front_with shown.form shown (option_copied shown.value) (watch_fields shown.watch)

abbrev pub shown_object : Shown → Data
shown_object shown = object (shown_fields shown)

-- the entries that a read found
abbrev pub found_items : Form → List (Bor Write) → Items
found_items form writes = entry_items form (map (λ w. read_entry w.now) writes)

abbrev pub history_object : Form → List (Bor Write) → Data
history_object form writes = object (list_fields (codes "entries") (found_items form writes))

abbrev pub listed_keys : List (Bor (List ℕ)) → Items
listed_keys keys = key_items (map (λ key. key.now) keys)

abbrev pub keys_object : List (Bor (List ℕ)) → Data
keys_object keys = object (list_fields (codes "keys") (listed_keys keys))

-- the revisions behind one, up to another
abbrev pub listed_revisions : ℕ → ℕ → Items
listed_revisions before last = number_items (revisions_behind before (last - before))

abbrev pub revisions_object : ℕ → ℕ → Data
revisions_object before last = object (list_fields (codes "revisions") (listed_revisions before last))
