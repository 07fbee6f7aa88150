-- What was read of a line.
use Rattle.std.proofs.Common.{◌≡◌, ◌≢◌, ℕ, true, false, List, [], Result, Ok, Err, refl, subst}
use Rattle.std.specs.Prelude.{OnOk}
use Rattle.kv_keys.specs.declared.error.KvError.{KvError}
use Rattle.kv_keys.specs.declared.error.KvError.TheVariants.{OutOfMemory}
use Rattle.kv_model.specs.State.{State}
use Rattle.kv_script.specs.Commands.{Meaning, Fails, is_skipped, line_command}
use Rattle.kv_script.specs.declared.form.Form.{Form}
use Rattle.kv_replay.specs.Faults.{IsRefusal}
use Rattle.kv_replay.specs.Text.{line_steps, steps_of}

-- a skipped line makes no call
pub line_steps-skipped : (form : Form) (state : State) (line : List ℕ) → is_skipped line ≡ true → line_steps form state line ≡ []
unfolding line_steps
line_steps-skipped form state line skips = rw skips refl

-- another line makes those of what it asks for
pub line_steps-read : (form : Form) (state : State) (line : List ℕ) (outcome : Result Meaning KvError) → is_skipped line ≡ false → line_command form line ≡ outcome → line_steps form state line ≡ steps_of form state outcome
unfolding line_steps
line_steps-read form state line outcome reads is = rw (reads, is) refl

-- a refusal for its own cause is that of the grammar
pub refused_by : (error : KvError) (outcome : Result Meaning KvError) → Fails error outcome → error ≢ OutOfMemory → outcome ≡ Err error
refused_by OutOfMemory outcome fails is = absurd (is refl)
refused_by _ outcome fails is = fails

pub other_than_memory : (error : KvError) → IsRefusal error → error ≢ OutOfMemory
other_than_memory error is = λ memory. subst IsRefusal memory is

-- what two facts of a success bring together
pub on_ok_both : {T F : Type 0} {P Q R : Type 0} (r : Result T F) → (P → Q → R) → OnOk r P → OnOk r Q → OnOk r R
on_ok_both (Ok x) f p q = f p q
on_ok_both (Err e) f p q = tt
