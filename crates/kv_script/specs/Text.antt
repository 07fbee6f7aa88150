-- The text of each answer: one compact object on a line, its members in the byte order of their names. `quoted` is a
-- text as JSON writes it; keys, names, base64 and digits have nothing that it escapes.
use Rattle.std.specs.Prelude.{ℕ, zero, suc, ◌+◌, List, [], ◌∷◌, map, codes, decimal, if◌then◌else◌, Bool, true, false, Option, Some, None}
use Rattle.std.specs.Int.{to_be_bytes, w32}
use Rattle.std.specs.Str.{is_utf8}
use Rattle.base64.specs.GeneralPurpose.{encode_of}
use Rattle.base64.specs.Engines.{standard}
use Rattle.hex.specs.Hex.{encode_lower}
use Rattle.json.specs.Print.{quoted}
use Rattle.kv_keys.specs.Refusals.{code_of, name_of}
use Rattle.kv_keys.specs.declared.error.KvError.{KvError}
use Rattle.kv_keys.specs.declared.error.KvError.TheVariants.{WrongLastRevision, WatchBehind, Lagged}
use Rattle.kv_model.specs.declared.status.Status.{Status}
use Rattle.kv_model.specs.declared.write.Op.{Op}
use Rattle.kv_model.specs.declared.write.Op.TheVariants.{Put, Delete, Purge}
use Rattle.kv_model.specs.Given.{Entry}
use Rattle.kv_script.specs.Line.{Member, object_text, array_text, line}
use Rattle.kv_script.specs.declared.form.Form.{Form}
use Rattle.kv_script.specs.declared.form.Form.TheVariants.{Base64, Text}

abbrev pub truth_text : Bool → List ℕ
truth_text true = codes "true"
truth_text false = codes "false"

abbrev pub op_text : Op → List ℕ
op_text Put = codes "PUT"
op_text Delete = codes "DEL"
op_text Purge = codes "PURGE"

-- in text, a value that is not UTF-8 stands in base64, under that name
abbrev pub base64_members : Form → Option (List ℕ) → List Member → List Member
base64_members Text (Some value) more = if is_utf8 value then more else
    (codes "base64", quoted (encode_of standard value)) ∷ more
base64_members form value more = more

-- else a value stands in base64, or in text as it is; where there is none, there is no member
abbrev pub value_members : Form → Option (List ℕ) → List Member → List Member
value_members Base64 (Some value) more = (codes "value", quoted (encode_of standard value)) ∷ more
value_members Text (Some value) more = if is_utf8 value then (codes "value", quoted value) ∷ more else more
value_members form None more = more

-- the members of an entry, and more behind them; the size is the number of bytes of the value, also where it isn't
-- shown
abbrev pub entry_members : Form → Entry → List Member → List Member
entry_members form entry more =
    base64_members form entry.value
    ((codes "key", quoted entry.key)
    ∷ (codes "op", quoted (op_text entry.op))
    ∷ (codes "revision", decimal entry.revision)
    ∷ (codes "size", decimal entry.size)
    ∷ value_members form entry.value more)

-- the number that a refusal carries
abbrev pub detail_members : KvError → List Member → List Member
detail_members (WrongLastRevision last) more = (codes "last", decimal last) ∷ more
detail_members (WatchBehind watch) more = (codes "watch", decimal watch) ∷ more
detail_members (Lagged floor) more = (codes "floor", decimal floor) ∷ more
detail_members error more = more

abbrev pub refusal_members : KvError → List Member → List Member
refusal_members error more = (codes "code", decimal (code_of error)) ∷ (codes "error", quoted (name_of error))
    ∷ detail_members error more

abbrev pub watch_members : ℕ → List Member
watch_members watch = (codes "watch", decimal watch) ∷ []

abbrev pub worker_members : ℕ → List Member
worker_members worker = (codes "worker", decimal worker) ∷ []

abbrev pub status_members : List ℕ → Status → ℕ → List Member
status_members bucket status watches =
    (codes "bucket", quoted bucket)
    ∷ (codes "history", decimal status.history)
    ∷ (codes "last", decimal status.last)
    ∷ (codes "sealed", truth_text status.sealed)
    ∷ (codes "stored", decimal status.stored)
    ∷ (codes "values", decimal status.values)
    ∷ (codes "watches", decimal watches)
    ∷ []

-- the text of an entry inside a list
abbrev pub listed_text : Form → Entry → List ℕ
listed_text form entry = object_text (entry_members form entry [])

-- eight hexadecimal digits, in lower case
abbrev pub place_digits : ℕ → List ℕ
place_digits place = encode_lower (to_be_bytes w32 place)

abbrev pub one : List ℕ → List ℕ → List Member
one name text = (name, text) ∷ []

-- so many revisions, the first of them right behind one
abbrev pub revisions_behind : ℕ → ℕ → List ℕ
revisions_behind last zero = []
revisions_behind last (suc n) = (last + 1) ∷ revisions_behind (last + 1) n

-- an accepted write
unfoldable pub revision_text : ℕ → List ℕ
revision_text revision = line (object_text (one (codes "revision") (decimal revision)))

-- a seal
unfoldable pub sealed_text : List ℕ
sealed_text = line (object_text (one (codes "sealed") (codes "true")))

-- the entry of a read
unfoldable pub entry_text : Form → Entry → List ℕ
entry_text form entry = line (object_text (entry_members form entry []))

-- a history
unfoldable pub history_text : Form → List Entry → List ℕ
history_text form entries = line (object_text (one (codes "entries") (array_text (map (listed_text form) entries))))

-- the keys that match a filter
unfoldable pub keys_text : List (List ℕ) → List ℕ
keys_text keys = line (object_text (one (codes "keys") (array_text (map quoted keys))))

-- a new watch
unfoldable pub watch_text : ℕ → List ℕ
watch_text watch = line (object_text (watch_members watch))

-- an entry that a watch hands out
unfoldable pub taken_entry_text : Form → ℕ → Entry → List ℕ
taken_entry_text form watch entry = line (object_text (entry_members form entry (watch_members watch)))

-- the end of the initial entries of a watch
unfoldable pub marker_text : ℕ → List ℕ
marker_text watch = line (object_text ((codes "marker", codes "true") ∷ watch_members watch))

-- a watch has nothing more to hand out by now
unfoldable pub empty_text : ℕ → List ℕ
empty_text watch = line (object_text ((codes "empty", codes "true") ∷ watch_members watch))

-- a stop: how many items the watch handed out
unfoldable pub stopped_text : ℕ → ℕ → List ℕ
stopped_text watch handed = line (object_text ((codes "handed", decimal handed) ∷ one (codes "stopped")
    (decimal watch)))

-- a compaction to a floor
unfoldable pub compacted_text : ℕ → List ℕ
compacted_text floor = line (object_text (one (codes "compacted") (decimal floor)))

-- a status
unfoldable pub status_text : List ℕ → Status → ℕ → List ℕ
status_text bucket status watches = line (object_text (status_members bucket status watches))

-- the place of a key
unfoldable pub place_text : ℕ → List ℕ
place_text place = line (object_text (one (codes "place") (quoted (place_digits place))))

-- a refusal
unfoldable pub refusal_text : KvError → List ℕ
refusal_text error = line (object_text (refusal_members error []))

-- an accepted batch, by the revisions of its writes
unfoldable pub revisions_text : List ℕ → List ℕ
revisions_text revisions = line (object_text (one (codes "revisions") (array_text (map decimal revisions))))

-- a batch that is refused for the line of this number, from 1
unfoldable pub batch_refusal_text : ℕ → KvError → List ℕ
batch_refusal_text number error = line (object_text ((codes "at", decimal number) ∷ refusal_members error []))

-- an accepted write of a worker of a race
unfoldable pub told_text : ℕ → ℕ → List ℕ
told_text worker revision = line (object_text ((codes "revision", decimal revision) ∷ worker_members worker))

-- a refusal of a worker of a race
unfoldable pub worker_refusal_text : ℕ → KvError → List ℕ
worker_refusal_text worker error = line (object_text (refusal_members error (worker_members worker)))
