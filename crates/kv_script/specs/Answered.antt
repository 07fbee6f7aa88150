-- The lines that the answers of a bucket are written as.
use Rattle.std.specs.Prelude.{ℕ, List, []}
use Rattle.kv_model.specs.Answers.{Answer, Revision, Sealed, AnsweredEntry, Entries, Keys, Numbers, Watching, Marker, Empty, Ended, Compacted, Refused}
use Rattle.kv_script.specs.Text.{revision_text, sealed_text, entry_text, history_text, keys_text, watch_text, taken_entry_text, marker_text, empty_text, stopped_text, compacted_text, status_text, refusal_text}
use Rattle.kv_script.specs.declared.form.Form.{Form}

-- the line of an answer, for the bucket of a name, by how values stand; takes and stops have lines of their own
abbrev pub answer_text : Form → List ℕ → Answer → List ℕ
answer_text form bucket (Revision revision) = revision_text revision
answer_text form bucket Sealed = sealed_text
answer_text form bucket (AnsweredEntry entry) = entry_text form entry
answer_text form bucket (Entries entries) = history_text form entries
answer_text form bucket (Keys keys) = keys_text keys
answer_text form bucket (Numbers status watches) = status_text bucket status watches
answer_text form bucket (Watching number) = watch_text number
answer_text form bucket Marker = []
answer_text form bucket Empty = []
answer_text form bucket (Ended handed) = []
answer_text form bucket (Compacted floor) = compacted_text floor
answer_text form bucket (Refused error) = refusal_text error

-- the line of an answer to a take from the watch of a number
abbrev pub taken_text : Form → ℕ → Answer → List ℕ
taken_text form watch (AnsweredEntry entry) = taken_entry_text form watch entry
taken_text form watch Marker = marker_text watch
taken_text form watch Empty = empty_text watch
taken_text form watch (Refused error) = refusal_text error
taken_text form watch answer = []

-- the line of an answer to a stop of the watch of a number
abbrev pub ended_text : ℕ → Answer → List ℕ
ended_text watch (Ended handed) = stopped_text watch handed
ended_text watch (Refused error) = refusal_text error
ended_text watch answer = []
