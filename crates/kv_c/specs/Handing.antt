-- What C reads from an item and the memory that it gave.
use Rattle.std.specs.Prelude.{◌≡◌, ℕ, Option, List, Some, None, length, slice_get, take, ◌==◌, if◌then◌else◌}
use Rattle.kv_model.specs.Answers.{Answer, AnsweredEntry, Marker, Empty, Numbers as Told}
use Rattle.kv_c.specs.declared.item.Item.{Item}
use Rattle.kv_c.specs.declared.status.Numbers.{Numbers}
use Rattle.kv_model.specs.Acts.{Write, is_put}
use Rattle.kv_model.specs.declared.write.Op.{Op}
use Rattle.kv_model.specs.declared.write.Op.TheVariants.{Put, Delete, Purge}
use Rattle.kv_model.specs.Given.{Entry}
use Rattle.std.specs.Option.{option_map_or}

abbrev pub op_named : ℕ → Op
op_named n = if n == 0 then Put else (if n == 1 then Delete else Purge)

abbrev pub op_number : Op → ℕ
op_number Put = 0
op_number Delete = 1
op_number Purge = 2

-- the entry, of the first bytes of what was given for its key and its value
abbrev pub entry_told : Item → List ℕ → List ℕ → Entry
entry_told item keys values = record {
  key = take item.key_size keys;
  op = op_named item.op;
  revision = item.revision;
  size = item.size;
  value = if item.has_value then Some (take item.value_size values) else None;
}

abbrev pub told : Item → List ℕ → List ℕ → Answer
told item keys values = if item.kind == 0 then Empty else
    (if item.kind == 1 then Marker else AnsweredEntry (entry_told item keys values))

abbrev pub numbers_told : Numbers → Answer
numbers_told n = Told (record {
  history = n.history;
  last = n.last;
  sealed = n.sealed;
  stored = n.stored;
  values = n.values;
}) n.watches

-- the item tells of this write, without its key
abbrev pub TellsWrite : Write → Item → Type 0
TellsWrite w item = (item.kind ≡ 2) × (item.op ≡ op_number w.op) × (item.revision ≡ w.revision) ×
    (item.key_size ≡ 0) × (item.size ≡ length w.value) × (item.value_size ≡ length w.value) ×
    (item.has_value ≡ is_put w.op)

-- the same, and its value is handed out, or that there is none
abbrev pub IsEntry : Option Write → Item → List ℕ → Type 0
IsEntry None item room = (item.kind ≡ 0) × (item.key_size ≡ 0) × (item.value_size ≡ 0)
IsEntry (Some w) item room = TellsWrite w item × (take item.value_size room ≡ w.value)

-- these bytes begin with the value, if one is shown
abbrev pub IsValueCopied : List ℕ → Option (List ℕ) → Type 0
IsValueCopied values None = Unit {0}
IsValueCopied values (Some value) = take (length value) values ≡ value

-- what was given for key and value begins with those of the entry
abbrev pub AreCopied : List ℕ → List ℕ → Entry → Type 0
AreCopied keys values entry = (take (length entry.key) keys ≡ entry.key) × IsValueCopied values entry.value

-- the item has the kind and the operation of the entry, and the sizes of its key and its value
abbrev pub HasSizesOf : Entry → Item → Type 0
HasSizesOf entry item = (item.kind ≡ 2) × (item.op ≡ op_number entry.op) × (item.key_size ≡ length entry.key) ×
    (item.value_size ≡ option_map_or length entry.value 0)

-- so it tells how much room the entry needs
abbrev pub Wants : Item → Answer → Type 0
Wants item (AnsweredEntry entry) = HasSizesOf entry item
Wants item answer = ⊥

-- and so it tells what is handed out: an entry, or the end marker or nothing, which have no bytes
abbrev pub HasSizes : Item → Answer → Type 0
HasSizes item (AnsweredEntry entry) = HasSizesOf entry item
HasSizes item Marker = (item.kind ≡ 1) × (item.key_size ≡ 0) × (item.value_size ≡ 0)
HasSizes item answer = (item.kind ≡ 0) × (item.key_size ≡ 0) × (item.value_size ≡ 0)

-- the item tells how much room the value of a write needs, and the rest of it
abbrev pub WantsValue : Option Write → Item → Type 0
WantsValue None item = ⊥
WantsValue (Some w) item = TellsWrite w item

-- the same of the write of an index among those that were found, and how many these are
abbrev pub WantsAt : Option (List Write) → ℕ → ℕ → Item → Type 0
WantsAt None index count item = ⊥
WantsAt (Some ws) index count item = (count ≡ length ws) × WantsValue (slice_get ws index) item
