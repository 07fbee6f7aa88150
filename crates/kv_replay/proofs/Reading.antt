-- Of the answers to reads.
use Rattle.std.proofs.Common.{◌≡◌, ℕ, List, map, Option, Some, None, Err, sym, ap, ◌∙◌}
use Rattle.std.specs.Borrow.{Bor}
use Rattle.std.proofs.lemmas.Simd.{map-map}
use Rattle.std.specs.Option.{ok_or}
use Rattle.kv_keys.specs.Outcome.{Refuses}
use Rattle.kv_keys.specs.declared.error.KvError.{KvError}
use Rattle.kv_keys.specs.declared.error.KvError.TheVariants.{OutOfMemory, KeyNotFound}
use Rattle.kv_model.specs.Acts.{Write}
use Rattle.kv_model.specs.Answers.{Entries}
use Rattle.kv_model.specs.State.{or_refused, read_entry}
use Rattle.kv_script.specs.Answered.{answer_text}
use Rattle.kv_script.specs.Text.{history_text, refusal_text}
use Rattle.kv_script.specs.declared.form.Form.{Form}
use Rattle.kv_replay.specs.Faults.{IsRefusal}

abbrev pub history_answer : Form → List ℕ → Option (List Write) → List ℕ
history_answer form bucket found = answer_text form bucket (or_refused KeyNotFound (λ ws. Entries (map read_entry ws)) found)

-- the entries of a history that was found
pub history_found : (form : Form) (bucket : List ℕ) (found : Option (List Write)) (writes : List (Bor Write)) → found ≡ Some (map (λ w. w.now) writes)
    → history_text form (map (λ w. read_entry w.now) writes) ≡ history_answer form bucket found
history_found form bucket found writes is =
    ap (history_text form) (sym (map-map read_entry (λ (w : Bor Write). w.now) writes)) ∙ ap (history_answer form bucket) (sym is)

-- a history is refused where there is none
by_outcome : (form : Form) (bucket : List ℕ) (found : Option (List Write)) (error : KvError) → ok_or found KeyNotFound ≡ Err error → refusal_text error ≡ history_answer form bucket found
by_outcome form bucket None error is = let same : KeyNotFound ≡ error = cc in ap refusal_text (sym same)
by_outcome form bucket (Some ws) error is = absurd (let no : ⊥ = cc in no)

-- the refusal of a history
pub history_refused : (form : Form) (bucket : List ℕ) (found : Option (List Write)) (error : KvError) → Refuses error (ok_or found KeyNotFound) → IsRefusal error → refusal_text error ≡ history_answer form bucket found
history_refused form bucket found OutOfMemory refuses is = absurd is
history_refused form bucket found error refuses is = by_outcome form bucket found error refuses
