-- What a line adds to a plan.
use Rattle.std.proofs.Common.{◌≡◌, ℕ, true, false, List, Result, refl}
use Rattle.kv_keys.specs.declared.error.KvError.{KvError}
use Rattle.kv_keys.specs.declared.error.KvError.TheVariants.{BadCommand}
use Rattle.kv_script.specs.Commands.{Meaning, is_skipped, line_command}
use Rattle.kv_script.specs.declared.form.Form.{Form}
use Rattle.kv_run.specs.Planning.{Planned, add_read, after_command, refuse, takes_part}

-- a skipped line adds nothing
pub skipped_adds : (form : Form) (plan : Planned) (line : List ℕ) → is_skipped line ≡ true → plan ≡ after_command form plan line
unfolding after_command
skipped_adds form plan line skips = rw skips refl

-- a line that takes no part is refused
pub other_adds : (form : Form) (plan : Planned) (line : List ℕ) → is_skipped line ≡ false → takes_part line ≡ false → refuse plan BadCommand ≡ after_command form plan line
unfolding after_command
other_adds form plan line reads others = rw (reads, others) refl

-- another line adds what it asks for
pub read_adds : (form : Form) (plan : Planned) (line : List ℕ) (outcome : Result Meaning KvError) → is_skipped line ≡ false → takes_part line ≡ true → line_command form line ≡ outcome
    → add_read plan outcome ≡ after_command form plan line
unfolding after_command
read_adds form plan line outcome reads part is = rw (reads, part, is) refl
