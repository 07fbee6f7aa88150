-- What a turn of a session comes to, where the session stands for what is kept of it.
use Rattle.std.proofs.Common.{◌≡◌, ℕ, ◌+◌, ◌-◌, true, false, cond, List, [], ◌∷◌, ◌++◌, Option, Some, None, Result, Ok, Err, refl, sym, ap, subst, ◌∙◌}
use Rattle.std.specs.Prelude.{option_map}
use Rattle.std.proofs.lemmas.Bool.{ne_eqb}
use Rattle.kv_keys.specs.declared.error.KvError.{KvError}
use Rattle.kv_keys.specs.declared.error.KvError.TheVariants.{BadCommand}
use Rattle.kv_model.specs.Batches.{after_batch}
use Rattle.kv_model.specs.Requests.{Asked}
use Rattle.kv_model.specs.State.{State}
use Rattle.kv_model.specs.declared.batch.BatchRefused.{BatchRefused}
use Rattle.kv_script.specs.Commands.{Meaning, is_skipped, line_command, line_write}
use Rattle.kv_script.specs.declared.form.Form.{Form}
use Rattle.kv_single.specs.Held.{Bucketed, Represents}
use Rattle.kv_replay.specs.Batches.{Asks, all_asked, behind_ask, outcome, outcome_text}
use Rattle.kv_replay.specs.Sessions.{Begun, Session, Turn, batch_ends, batch_goes_on, batch_size, begins, counted_turn, end_text, made, turn}
use Rattle.kv_replay.specs.Text.{steps_of}
use Rattle.kv_replay.specs.inside.Gathering.{Gathered, asked_more, gathered}
use Rattle.kv_replay.specs.inside.Scripted.{Sessioned, Stands}
use Rattle.kv_replay.specs.inside.Written.{Pours, Puts}
use Rattle.kv_replay.proofs.Batched.{all_asked-more}
use Rattle.kv_replay.proofs.Pours.{pours_none}

-- ---- a batch ends, or waits for more lines

ends_there : (s : State) (n : ℕ) (asks : Asks) → n ≡ 0 → batch_goes_on s n asks ≡ batch_ends s asks
ends_there s n asks none = rw none refl

abbrev waiting : State → ℕ → Asks → Turn
waiting s n asks = ([], record { state = s; batch = Some (record { awaited = n; asks = asks }) })

waits_there : (s : State) (n : ℕ) (asks : Asks) → (n ≡ 0 → ⊥) → batch_goes_on s n asks ≡ waiting s n asks
waits_there s n asks some = ap (λ all. cond all (batch_ends s asks) (waiting s n asks)) (ne_eqb n 0 some)

module _ (s : State) (n : ℕ) (asks : Asks) (asked : Result (List Asked) BatchRefused) (is : asked ≡ all_asked asks) (held holds : Option (List ℕ)) (o q : List ℕ) where
  pub turn_ends : (now : Sessioned) → n ≡ 0 → Pours (outcome_text (outcome s asked)) held o holds q × Represents (after_batch s (outcome s asked)) now.bucket → now.batch ≡ None
      → Pours (batch_goes_on s n asks).0 held o holds q × Stands (batch_goes_on s n asks).1 now
  turn_ends now none (poured, stands) empty =
      subst (λ (t : Turn). Pours t.0 held o holds q × Stands t.1 now) (sym (ends_there s n asks none)) (
        subst (λ a. Pours (outcome_text (outcome s a)) held o holds q) is poured,
        record { bucket = subst (λ a. Represents (after_batch s (outcome s a)) now.bucket) is stands; batch = empty },
      )

  pub turn_puts : n ≡ 0 → Puts (o ++ outcome_text (outcome s asked)) held holds → Puts (o ++ (batch_goes_on s n asks).0) held holds
  turn_puts none puts =
      subst (λ (t : Turn). Puts (o ++ t.0) held holds) (sym (ends_there s n asks none))
      (subst (λ a. Puts (o ++ outcome_text (outcome s a)) held holds) is puts)

  pub turn_waits : (now : Sessioned) → (n ≡ 0 → ⊥) → Represents s now.bucket → now.batch ≡ Some (record { awaited = n; asked = asked })
      → Pours (batch_goes_on s n asks).0 held o held o × Stands (batch_goes_on s n asks).1 now
  turn_waits now some stands kept =
      subst (λ (t : Turn). Pours t.0 held o held o × Stands t.1 now) (sym (waits_there s n asks some)) (
        pours_none held o,
        record { bucket = stands; batch = kept ∙ ap (λ a. Some (record { awaited = n; asked = a })) is },
      )

-- ---- one line more

abbrev pub line_more : Form → List ℕ → Begun → Begun
line_more form line b = record { awaited = b.awaited - 1; asks = b.asks ++ line_write form line ∷ [] }

pub one_line : (form : Form) (line : List ℕ) (b : Begun) (begun batch : Gathered) → begun ≡ gathered b
    → batch ≡ record { awaited = begun.awaited - 1; asked = asked_more begun.asked (line_write form line) } → batch ≡ gathered (line_more form line b)
one_line form line b begun batch same took =
    took ∙ ap (λ (g : Gathered). record { awaited = g.awaited - 1; asked = asked_more g.asked (line_write form line) }) same
    ∙ ap (λ a. record { awaited = b.awaited - 1; asked = a }) (sym (all_asked-more b.asks (line_write form line)))

-- the end of the input
pub missing_line : (b : Begun) (begun batch : Gathered) → begun ≡ gathered b → batch ≡ record begun { asked = asked_more begun.asked (Err BadCommand) } → batch.asked ≡ all_asked (b.asks ++ Err BadCommand ∷ [])
missing_line b begun batch same took =
    ap (λ (g : Gathered). g.asked) took ∙ ap (λ (g : Gathered). asked_more g.asked (Err BadCommand)) same ∙ sym (all_asked-more b.asks (Err BadCommand))

-- ---- outside

pub begins_batch : (form : Form) (s : State) (line : List ℕ) (command : Result Meaning KvError) (n : ℕ) → line_command form line ≡ command → batch_size command ≡ Some n
    → counted_turn form s None line ≡ batch_goes_on s n []
begins_batch form s line command n is size = ap (λ c. begins form s c (batch_size c)) is ∙ ap (begins form s command) size

pub begins_none : (form : Form) (s : State) (line : List ℕ) (command : Result Meaning KvError) → line_command form line ≡ command → batch_size command ≡ None
    → counted_turn form s None line ≡ made s (steps_of form s command)
begins_none form s line command is size = ap (λ c. begins form s c (batch_size c)) is ∙ ap (begins form s command) size

-- ---- whether a batch has begun

pub has_begun : (batch : Option Begun) (g : Gathered) → Some g ≡ option_map gathered batch → (b : Begun) × ((batch ≡ Some b) × (g ≡ gathered b))
has_begun None g is = absurd (let no : ⊥ = cc in no)
has_begun (Some b) g is = (b, (refl, cc))

pub none_begun : (batch : Option Begun) → None ≡ option_map gathered batch → batch ≡ None
none_begun None is = refl
none_begun (Some b) is = absurd (let no : ⊥ = cc in no)

pub turn_skipped : (form : Form) (s : Session) (line : List ℕ) → is_skipped line ≡ true → turn form s line ≡ ([], s)
unfolding turn
turn_skipped form s line skips = rw skips refl

pub turn_counted : (form : Form) (s : Session) (line : List ℕ) (batch : Option Begun) → is_skipped line ≡ false → s.batch ≡ batch → turn form s line ≡ counted_turn form s.state batch line
unfolding turn
turn_counted form s line batch reads is = rw (reads, is) refl

pub end_none : (s : Session) → s.batch ≡ None → end_text s ≡ []
unfolding end_text
end_none s is = rw is refl

pub end_missing : (s : Session) (b : Begun) → s.batch ≡ Some b → end_text s ≡ outcome_text (outcome s.state (all_asked (b.asks ++ Err BadCommand ∷ [])))
unfolding end_text
end_missing s b is = rw is refl

-- a batch whose next line is missing changes nothing
all_refused : (asks : Asks) (e : KvError) → (r : BatchRefused) × (all_asked (asks ++ Err e ∷ []) ≡ Err r)
all_refused [] e = (record { at = 0; error = e }, refl)
all_refused (Err error ∷ asks) e = (record { at = 0; error = error }, refl)
all_refused (Ok asked ∷ asks) e =
    let rest = all_refused asks e in
    (record { at = rest.0.at + 1; error = rest.0.error }, ap (behind_ask asked) rest.1)

pub stays : (s : State) (b : Begun) (asked : Result (List Asked) BatchRefused) (bucket : Bucketed) → asked ≡ all_asked (b.asks ++ Err BadCommand ∷ [])
    → Represents (after_batch s (outcome s asked)) bucket → Represents s bucket
stays s b asked bucket is stands =
    let refused = all_refused b.asks BadCommand in
    subst (λ a. Represents (after_batch s (outcome s a)) bucket) (is ∙ refused.1) stands
