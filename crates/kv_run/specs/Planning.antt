-- What the lines of a script ask for, where many workers race.
use Rattle.std.specs.Prelude.{ℕ, ◌||◌, Bool, codes, nat_eq, nat_lt, if◌then◌else◌, List, [], ◌∷◌, ◌++◌, length, Result, Ok, Err}
use Rattle.std.specs.Io.BufRead.{strip_last}
use Rattle.std.specs.List.{starts_with}
use Rattle.kv_keys.specs.declared.error.KvError.{KvError}
use Rattle.kv_keys.specs.declared.error.KvError.TheVariants.{BadCommand, NoReader}
use Rattle.kv_model.specs.Requests.{Asked}
use Rattle.kv_model.specs.declared.options.Options.{Options}
use Rattle.kv_script.specs.Commands.{Meaning, Write, Watch, is_skipped, line_command}
use Rattle.kv_script.specs.declared.form.Form.{Form}
use Rattle.kv_script.specs.Text.{refusal_text}

-- the answers to the lines that are refused, and the writes and the watches that the others ask for, each in the order
-- of the lines
pub record Planned : Type 0 where
  pub refused : List ℕ
  pub requests : List Asked
  pub watches : List (List (List ℕ) × Options)

-- before the first line
abbrev pub nothing : Planned
nothing = record { refused = []; requests = []; watches = [] }

-- a refused line is answered by its refusal, and takes no part
abbrev pub refuse : Planned → KvError → Planned
refuse plan error = record {
  refused = plan.refused ++ refusal_text error;
  requests = plan.requests;
  watches = plan.watches;
}

-- every write takes part, however many there are: whether it is accepted is what the bucket answers in the race
abbrev pub add_request : Planned → Asked → Planned
add_request plan request = record {
  refused = plan.refused;
  requests = plan.requests ++ request ∷ [];
  watches = plan.watches;
}

-- there are at most 32 watches
abbrev pub add_watch : Planned → List (List ℕ) × Options → Planned
add_watch plan watch =
    if nat_lt (length plan.watches) 32
    then record {
      refused = plan.refused;
      requests = plan.requests;
      watches = plan.watches ++ watch ∷ [];
    }
    else refuse plan NoReader

-- writes and watches take part in a race, and no other command does
abbrev pub add : Planned → Meaning → Planned
add plan (Write request) = add_request plan request
add plan (Watch filters options) = add_watch plan (filters, options)
add plan meaning = refuse plan BadCommand

abbrev pub add_read : Planned → Result Meaning KvError → Planned
add_read plan (Ok meaning) = add plan meaning
add_read plan (Err error) = refuse plan error

-- a line begins with the word of a command that takes part in a race, and a space
abbrev pub takes_part : List ℕ → Bool
takes_part line =
    ((((starts_with nat_eq line (codes "put ") || starts_with nat_eq line (codes "create "))
    || starts_with nat_eq line (codes "update "))
    || starts_with nat_eq line (codes "delete "))
    || starts_with nat_eq line (codes "purge "))
    || starts_with nat_eq line (codes "watch ")

-- behind a line without its end; a skipped line adds nothing, and one that takes no part is refused as it stands
unfoldable pub after_command : Form → Planned → List ℕ → Planned
after_command form plan line =
    if is_skipped line then plan
    else if takes_part line then add_read plan (line_command form line)
    else refuse plan BadCommand

-- behind a line as it was read: one carriage return at its end is dropped
unfoldable pub after_line : Form → Planned → List ℕ → Planned
after_line form plan line = after_command form plan (strip_last 13 line)

-- behind lines, one after another
abbrev pub after_lines : Form → Planned → List (List ℕ) → Planned
after_lines form plan [] = plan
after_lines form plan (line ∷ lines) = after_lines form (after_line form plan line) lines

-- what these lines ask for
abbrev pub planned : Form → List (List ℕ) → Planned
planned form lines = after_lines form nothing lines
