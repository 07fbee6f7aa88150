-- Objects with a few members, for clauses of this crate alone.
use Rattle.std.specs.Prelude.{List, [], ◌∷◌, Bool, true, false, None}
use Rattle.serde_json.specs.Data.{boolean, string, Members, member, no_members}
use Rattle.kv_script.specs.declared.answering.field.Field.{Field}
use Rattle.kv_script.specs.declared.answering.field.Field.TheVariants.{Number, Optional, Text, Truth}
use Rattle.kv_script.specs.inside.Fields.{number_field, optional_field}

abbrev pub is_there : Field → Bool
is_there (Optional name None) = false
is_there field = true

-- a member, if it is there, and more behind it
abbrev pub field_of : Field → Members → Members
field_of (Number name n) more = number_field name.now n more
field_of (Optional name n) more = optional_field name.now n more
field_of (Text name text) more = member name.now (string text.now) more
field_of (Truth name truth) more = member name.now (boolean truth) more

abbrev pub fields_of : List Field → Members
fields_of [] = no_members
fields_of (field ∷ fields) = field_of field (fields_of fields)
