-- The compact text of the JSON of each answer is the answer's text.
use Rattle.std.proofs.Common.{◌≡◌, ℕ, List, [], ◌∷◌, Bool, true, false, cond, map, codes, decimal, Option, Some, None, refl, ap}
use Rattle.std.specs.Str.{is_utf8}
use Rattle.base64.specs.Engines.{standard}
use Rattle.base64.specs.GeneralPurpose.{encode_of}
use Rattle.json.specs.Print.{quoted}
use Rattle.serde_json.specs.Data.{boolean, object, Members, no_members}
use Rattle.serde_json.specs.Written.{compact_text}
use Rattle.serde_json.proofs.OnLiterals.{serde_json_on_literals}
use Rattle.kv_keys.specs.declared.error.KvError.{KvError}
use Rattle.kv_keys.specs.declared.error.KvError.TheVariants.{WrongLastRevision, WatchBehind, Lagged}
use Rattle.kv_model.specs.declared.status.Status.{Status}
use Rattle.kv_model.specs.Given.{Entry}
use Rattle.kv_script.specs.inside.Fields.{number_field, base64_field, base64_fields, value_field, value_fields, entry_fields, entry_object, entry_items, key_items, watch_field, worker_field, sealed_fields, compacted_fields, marker_fields, empty_fields, stopped_fields, status_fields, place_fields, detail_fields, refusal_fields, told_fields, number_items, list_fields}
use Rattle.kv_script.specs.declared.form.Form.{Form}
use Rattle.kv_script.specs.declared.form.Form.TheVariants.{Base64, Text}
use Rattle.kv_script.specs.Line.{Member, object_text, array_text, line}
use Rattle.kv_script.specs.Text.{truth_text, one, base64_members, value_members, entry_members, detail_members, refusal_members, watch_members, worker_members, status_members, listed_text, place_digits, revision_text, sealed_text, entry_text, history_text, keys_text, watch_text, taken_entry_text, marker_text, empty_text, stopped_text, compacted_text, status_text, place_text, refusal_text, told_text, revisions_text, batch_refusal_text, worker_refusal_text}
use Rattle.kv_script.proofs.Compact.{compact-object, compact-array, AreMembers, AreItems}

pub revision_line : (revision : ℕ) → line (compact_text (object (number_field (codes "revision") revision no_members))) ≡ revision_text revision
unfolding serde_json_on_literals revision_text
revision_line revision = ap line (compact-object (number_field (codes "revision") revision no_members) (one (codes "revision") (decimal revision)) (refl, refl, tt))

pub sealed_line : line (compact_text (object sealed_fields)) ≡ sealed_text
unfolding serde_json_on_literals sealed_text
sealed_line = ap line (compact-object sealed_fields (one (codes "sealed") (codes "true")) (refl, refl, tt))

pub compacted_line : (floor : ℕ) → line (compact_text (object (compacted_fields floor))) ≡ compacted_text floor
unfolding serde_json_on_literals compacted_text
compacted_line floor = ap line (compact-object (compacted_fields floor) (one (codes "compacted") (decimal floor)) (refl, refl, tt))

pub watch_line : (watch : ℕ) → line (compact_text (object (watch_field watch))) ≡ watch_text watch
unfolding serde_json_on_literals watch_text
watch_line watch = ap line (compact-object (watch_field watch) (watch_members watch) (refl, refl, tt))

pub marker_line : (watch : ℕ) → line (compact_text (object (marker_fields watch))) ≡ marker_text watch
unfolding serde_json_on_literals marker_text
marker_line watch = ap line (compact-object (marker_fields watch) ((codes "marker", codes "true") ∷ watch_members watch) (refl, refl, (refl, refl, tt)))

pub empty_line : (watch : ℕ) → line (compact_text (object (empty_fields watch))) ≡ empty_text watch
unfolding serde_json_on_literals empty_text
empty_line watch = ap line (compact-object (empty_fields watch) ((codes "empty", codes "true") ∷ watch_members watch) (refl, refl, (refl, refl, tt)))

pub stopped_line : (watch handed : ℕ) → line (compact_text (object (stopped_fields watch handed))) ≡ stopped_text watch handed
unfolding serde_json_on_literals stopped_text
stopped_line watch handed = ap line (compact-object (stopped_fields watch handed) ((codes "handed", decimal handed) ∷ one (codes "stopped") (decimal watch)) (refl, refl, (refl, refl, tt)))

pub told_line : (worker revision : ℕ) → line (compact_text (object (number_field (codes "revision") revision (worker_field worker)))) ≡ told_text worker revision
unfolding serde_json_on_literals told_text
told_line worker revision = ap line (compact-object (number_field (codes "revision") revision (worker_field worker)) ((codes "revision", decimal revision) ∷ worker_members worker) (refl, refl, (refl, refl, tt)))

truth_compact : (b : Bool) → compact_text (boolean b) ≡ truth_text b
unfolding serde_json_on_literals
truth_compact true = refl
truth_compact false = refl

pub status_line : (bucket : List ℕ) (status : Status) (watches : ℕ) → line (compact_text (object (status_fields bucket status watches))) ≡ status_text bucket status watches
unfolding serde_json_on_literals status_text
status_line bucket status watches =
    ap line (compact-object (status_fields bucket status watches) (status_members bucket status watches)
    (refl, refl, (refl, refl, (refl, refl, (refl, truth_compact status.sealed, (refl, refl, (refl, refl, (refl, refl, tt))))))))

pub place_line : (place : ℕ) → line (compact_text (object (place_fields place))) ≡ place_text place
unfolding serde_json_on_literals place_text
place_line place = ap line (compact-object (place_fields place) (one (codes "place") (quoted (place_digits place))) (refl, refl, tt))

value_are : (form : Form) (value : Option (List ℕ)) (ms : Members) (members : List Member) → AreMembers ms members
    → AreMembers (value_fields form value ms) (value_members form value members)
unfolding serde_json_on_literals
value_are Base64 None ms members h = h
value_are Text None ms members h = h
value_are Base64 (Some value) ms members h = (refl, refl, h)
value_are Text (Some value) ms members h = by_utf8 (is_utf8 value)
  where
    by_utf8 : (text : Bool) → AreMembers (cond text (value_field value ms) ms) (cond text ((codes "value", quoted value) ∷ members) members)
    by_utf8 true = (refl, refl, h)
    by_utf8 false = h

base64_are : (form : Form) (value : Option (List ℕ)) (ms : Members) (members : List Member) → AreMembers ms members
    → AreMembers (base64_fields form value ms) (base64_members form value members)
unfolding serde_json_on_literals
base64_are Base64 None ms members h = h
base64_are Text None ms members h = h
base64_are Base64 (Some value) ms members h = h
base64_are Text (Some value) ms members h = by_utf8 (is_utf8 value)
  where
    by_utf8 : (text : Bool) → AreMembers (cond text ms (base64_field value ms)) (cond text members ((codes "base64", quoted (encode_of standard value)) ∷ members))
    by_utf8 true = h
    by_utf8 false = (refl, refl, h)

entry_compact : (form : Form) (entry : Entry) (ms : Members) (members : List Member) → AreMembers ms members
    → compact_text (object (entry_fields form entry ms)) ≡ object_text (entry_members form entry members)
unfolding serde_json_on_literals
entry_compact form entry ms members h =
    compact-object (entry_fields form entry ms) (entry_members form entry members)
    (base64_are form entry.value _ _ (refl, refl, (refl, refl, (refl, refl, (refl, refl, value_are form entry.value ms members h)))))

pub entry_line : (form : Form) (entry : Entry) → line (compact_text (entry_object form entry)) ≡ entry_text form entry
unfolding entry_text
entry_line form entry = ap line (entry_compact form entry no_members [] tt)

pub taken_entry_line : (form : Form) (watch : ℕ) (entry : Entry) → line (compact_text (object (entry_fields form entry (watch_field watch)))) ≡ taken_entry_text form watch entry
unfolding serde_json_on_literals taken_entry_text
taken_entry_line form watch entry = ap line (entry_compact form entry (watch_field watch) (watch_members watch) (refl, refl, tt))

entries_are : (form : Form) (entries : List Entry) → AreItems (entry_items form entries) (map (listed_text form) entries)
entries_are form [] = tt
entries_are form (entry ∷ entries) = (entry_compact form entry no_members [] tt, entries_are form entries)

pub history_line : (form : Form) (entries : List Entry) → line (compact_text (object (list_fields (codes "entries") (entry_items form entries)))) ≡ history_text form entries
unfolding serde_json_on_literals history_text
history_line form entries =
    ap line (compact-object (list_fields (codes "entries") (entry_items form entries)) (one (codes "entries") (array_text (map (listed_text form) entries)))
    (refl, compact-array (entry_items form entries) (map (listed_text form) entries) (entries_are form entries), tt))

keys_are : (keys : List (List ℕ)) → AreItems (key_items keys) (map quoted keys)
keys_are [] = tt
keys_are (key ∷ keys) = (refl, keys_are keys)

pub keys_line : (keys : List (List ℕ)) → line (compact_text (object (list_fields (codes "keys") (key_items keys)))) ≡ keys_text keys
unfolding serde_json_on_literals keys_text
keys_line keys =
    ap line (compact-object (list_fields (codes "keys") (key_items keys)) (one (codes "keys") (array_text (map quoted keys)))
    (refl, compact-array (key_items keys) (map quoted keys) (keys_are keys), tt))

detail_are : (error : KvError) (ms : Members) (members : List Member) → AreMembers ms members → AreMembers (detail_fields error ms) (detail_members error members)
unfolding serde_json_on_literals
detail_are (WrongLastRevision last) ms members h = (refl, refl, h)
detail_are (WatchBehind watch) ms members h = (refl, refl, h)
detail_are (Lagged floor) ms members h = (refl, refl, h)
detail_are _ ms members h = h

refusal_compact : (error : KvError) (ms : Members) (members : List Member) → AreMembers ms members
    → compact_text (object (refusal_fields error ms)) ≡ object_text (refusal_members error members)
unfolding serde_json_on_literals
refusal_compact error ms members h =
    compact-object (refusal_fields error ms) (refusal_members error members) (refl, refl, (refl, refl, detail_are error ms members h))

pub refusal_line : (error : KvError) → line (compact_text (object (refusal_fields error no_members))) ≡ refusal_text error
unfolding refusal_text
refusal_line error = ap line (refusal_compact error no_members [] tt)

pub worker_refusal_line : (worker : ℕ) (error : KvError) → line (compact_text (object (refusal_fields error (worker_field worker)))) ≡ worker_refusal_text worker error
unfolding serde_json_on_literals worker_refusal_text
worker_refusal_line worker error = ap line (refusal_compact error (worker_field worker) (worker_members worker) (refl, refl, tt))

pub batch_refusal_line : (number : ℕ) (error : KvError) → line (compact_text (object (told_fields (Some number) error None))) ≡ batch_refusal_text number error
unfolding serde_json_on_literals batch_refusal_text
batch_refusal_line number error =
    ap line (compact-object (told_fields (Some number) error None) ((codes "at", decimal number) ∷ refusal_members error [])
    (refl, refl, (refl, refl, (refl, refl, detail_are error no_members [] tt))))

numbers_are : (ns : List ℕ) → AreItems (number_items ns) (map decimal ns)
unfolding serde_json_on_literals
numbers_are [] = tt
numbers_are (n ∷ ns) = (refl, numbers_are ns)

pub revisions_line : (revisions : List ℕ) → line (compact_text (object (list_fields (codes "revisions") (number_items revisions)))) ≡ revisions_text revisions
unfolding serde_json_on_literals revisions_text
revisions_line revisions =
    ap line (compact-object (list_fields (codes "revisions") (number_items revisions)) (one (codes "revisions") (array_text (map decimal revisions)))
    (refl, compact-array (number_items revisions) (map decimal revisions) (numbers_are revisions), tt))
