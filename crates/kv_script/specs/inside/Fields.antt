-- The JSON that each answer is written from, for clauses of this crate alone.
use Rattle.std.specs.Prelude.{ℕ, List, [], ◌∷◌, codes, if◌then◌else◌, true, Option, Some, None}
use Rattle.std.specs.Str.{is_utf8}
use Rattle.base64.specs.GeneralPurpose.{encode_of}
use Rattle.base64.specs.Engines.{standard}
use Rattle.serde_json.specs.Data.{Data, boolean, number, unsigned, string, array, object, Members, member, no_members, Items, item, no_items}
use Rattle.kv_keys.specs.Refusals.{code_of, name_of}
use Rattle.kv_keys.specs.declared.error.KvError.{KvError}
use Rattle.kv_keys.specs.declared.error.KvError.TheVariants.{WrongLastRevision, WatchBehind, Lagged}
use Rattle.kv_model.specs.declared.status.Status.{Status}
use Rattle.kv_model.specs.declared.write.Op.{Op}
use Rattle.kv_model.specs.Given.{Entry}
use Rattle.kv_script.specs.Text.{op_text, place_digits}
use Rattle.kv_script.specs.declared.form.Form.{Form}
use Rattle.kv_script.specs.declared.form.Form.TheVariants.{Base64, Text}

abbrev pub number_field : List ℕ → ℕ → Members → Members
number_field name n more = member name (number (unsigned n)) more

-- a number, where there is one
abbrev pub optional_field : List ℕ → Option ℕ → Members → Members
optional_field name None more = more
optional_field name (Some n) more = number_field name n more

-- what an entry has but for its value
abbrev pub head_fields : List ℕ → Op → ℕ → ℕ → Members → Members
head_fields key op revision size more =
    member (codes "key") (string key)
    (member (codes "op") (string (op_text op))
    (number_field (codes "revision") revision
    (number_field (codes "size") size more)))

-- a value that stands as this text
abbrev pub value_field : List ℕ → Members → Members
value_field text more = member (codes "value") (string text) more

-- one that stands in base64 where others stand as they are
abbrev pub base64_field : List ℕ → Members → Members
base64_field value more = member (codes "base64") (string (encode_of standard value)) more

abbrev pub base64_fields : Form → Option (List ℕ) → Members → Members
base64_fields Text (Some value) more = if is_utf8 value then more else base64_field value more
base64_fields form value more = more

abbrev pub value_fields : Form → Option (List ℕ) → Members → Members
value_fields Base64 (Some value) more = value_field (encode_of standard value) more
value_fields Text (Some value) more = if is_utf8 value then value_field value more else more
value_fields form None more = more

abbrev pub entry_fields : Form → Entry → Members → Members
entry_fields form entry more =
    base64_fields form entry.value
    (head_fields entry.key entry.op entry.revision entry.size (value_fields form entry.value more))

-- an entry of these parts
abbrev pub parts_entry : List ℕ → Op → ℕ → ℕ → Option (List ℕ) → Entry
parts_entry key op revision size value = record { key = key; op = op; revision = revision; size = size; value = value }

abbrev pub entry_object : Form → Entry → Data
entry_object form entry = object (entry_fields form entry no_members)

abbrev pub entry_items : Form → List Entry → Items
entry_items form [] = no_items
entry_items form (entry ∷ entries) = item (entry_object form entry) (entry_items form entries)

abbrev pub key_items : List (List ℕ) → Items
key_items [] = no_items
key_items (key ∷ keys) = item (string key) (key_items keys)

abbrev pub number_items : List ℕ → Items
number_items [] = no_items
number_items (n ∷ ns) = item (number (unsigned n)) (number_items ns)

abbrev pub watch_field : ℕ → Members
watch_field watch = number_field (codes "watch") watch no_members

abbrev pub worker_field : ℕ → Members
worker_field worker = number_field (codes "worker") worker no_members

abbrev pub sealed_fields : Members
sealed_fields = member (codes "sealed") (boolean true) no_members

abbrev pub compacted_fields : ℕ → Members
compacted_fields floor = number_field (codes "compacted") floor no_members

abbrev pub marker_fields : ℕ → Members
marker_fields watch = member (codes "marker") (boolean true) (watch_field watch)

abbrev pub empty_fields : ℕ → Members
empty_fields watch = member (codes "empty") (boolean true) (watch_field watch)

abbrev pub stopped_fields : ℕ → ℕ → Members
stopped_fields watch handed = number_field (codes "handed") handed (number_field (codes "stopped") watch no_members)

abbrev pub status_fields : List ℕ → Status → ℕ → Members
status_fields bucket status watches =
    member (codes "bucket") (string bucket)
    (number_field (codes "history") status.history
    (number_field (codes "last") status.last
    (member (codes "sealed") (boolean status.sealed)
    (number_field (codes "stored") status.stored
    (number_field (codes "values") status.values
    (number_field (codes "watches") watches no_members))))))

abbrev pub place_fields : ℕ → Members
place_fields place = member (codes "place") (string (place_digits place)) no_members

-- the number that a refusal carries
abbrev pub detail_fields : KvError → Members → Members
detail_fields (WrongLastRevision last) more = number_field (codes "last") last more
detail_fields (WatchBehind watch) more = number_field (codes "watch") watch more
detail_fields (Lagged floor) more = number_field (codes "floor") floor more
detail_fields error more = more

abbrev pub refusal_fields : KvError → Members → Members
refusal_fields error more = number_field (codes "code") (code_of error)
    (member (codes "error") (string (name_of error)) (detail_fields error more))

-- a refusal, with the number of the line that it tells of, if it tells of one, and the worker that it is of, if it is of one
abbrev pub told_fields : Option ℕ → KvError → Option ℕ → Members
told_fields at error worker = optional_field (codes "at") at
    (refusal_fields error (optional_field (codes "worker") worker no_members))

abbrev pub list_fields : List ℕ → Items → Members
list_fields name items = member name (array items) no_members
