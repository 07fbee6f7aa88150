-- No answer has a number that is a float.
use Rattle.std.proofs.Common.{◌≡◌, ℕ, List, [], ◌∷◌, Bool, true, false, cond, Option, Some, None, codes, refl}
use Rattle.std.specs.Str.{is_utf8}
use Rattle.serde_json.specs.Data.{Members, no_members, object}
use Rattle.serde_json.specs.Written.{has_float, members_have_float, items_have_float}
use Rattle.kv_model.specs.Given.{Entry}
use Rattle.kv_script.specs.declared.answering.field.Field.{Field}
use Rattle.kv_script.specs.declared.answering.field.Field.TheVariants.{Number, Optional, Truth}
use Rattle.kv_script.specs.declared.answering.field.Field.TheVariants as fields
use Rattle.kv_script.specs.declared.form.Form.{Form}
use Rattle.kv_script.specs.declared.form.Form.TheVariants.{Base64, Text}
use Rattle.kv_script.specs.inside.Fields.{base64_field, base64_fields, value_field, value_fields, entry_fields, entry_items, key_items, number_items, list_fields}
use Rattle.kv_script.specs.inside.Objects.{fields_of}

pub fields_whole : (fields : List Field) → members_have_float (fields_of fields) ≡ false
fields_whole [] = refl
fields_whole (Number name n ∷ fields) = fields_whole fields
fields_whole (Optional name None ∷ fields) = fields_whole fields
fields_whole (Optional name (Some n) ∷ fields) = fields_whole fields
fields_whole (fields.Text name text ∷ fields) = fields_whole fields
fields_whole (Truth name truth ∷ fields) = fields_whole fields

either_whole : (test : Bool) (one other : Members) → members_have_float one ≡ false → members_have_float other ≡ false → members_have_float (cond test one other) ≡ false
either_whole true one other h k = h
either_whole false one other h k = k

value_whole : (form : Form) (value : Option (List ℕ)) (more : Members) → members_have_float more ≡ false → members_have_float (value_fields form value more) ≡ false
value_whole Base64 None more h = h
value_whole Text None more h = h
value_whole Base64 (Some value) more h = h
value_whole Text (Some value) more h = either_whole (is_utf8 value) (value_field value more) more h h

base64_whole : (form : Form) (value : Option (List ℕ)) (more : Members) → members_have_float more ≡ false → members_have_float (base64_fields form value more) ≡ false
base64_whole Base64 None more h = h
base64_whole Text None more h = h
base64_whole Base64 (Some value) more h = h
base64_whole Text (Some value) more h = either_whole (is_utf8 value) more (base64_field value more) h h

pub entry_whole : (form : Form) (entry : Entry) (more : Members) → members_have_float more ≡ false → members_have_float (entry_fields form entry more) ≡ false
entry_whole form entry more h = base64_whole form entry.value _ (value_whole form entry.value more h)

entries_whole : (form : Form) (entries : List Entry) → items_have_float (entry_items form entries) ≡ false
entries_whole form [] = refl
entries_whole form (entry ∷ entries) = rw (entry_whole form entry no_members refl) (entries_whole form entries)

pub history_whole : (form : Form) (entries : List Entry) → has_float (object (list_fields (codes "entries") (entry_items form entries))) ≡ false
history_whole form entries = rw (entries_whole form entries) refl

names_whole : (keys : List (List ℕ)) → items_have_float (key_items keys) ≡ false
names_whole [] = refl
names_whole (key ∷ keys) = names_whole keys

pub keys_whole : (keys : List (List ℕ)) → has_float (object (list_fields (codes "keys") (key_items keys))) ≡ false
keys_whole keys = rw (names_whole keys) refl

numbers_whole : (ns : List ℕ) → items_have_float (number_items ns) ≡ false
numbers_whole [] = refl
numbers_whole (n ∷ ns) = numbers_whole ns

pub revisions_whole : (revisions : List ℕ) → has_float (object (list_fields (codes "revisions") (number_items revisions))) ≡ false
revisions_whole revisions = rw (numbers_whole revisions) refl
