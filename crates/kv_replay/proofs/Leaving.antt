-- What a call leaves that ended early.
use Rattle.std.proofs.Common.{◌≡◌, ◌≤◌, ◌<◌, ◌-◌, ◌⊎◌, inl, inr, ℕ, suc, zero, Bool, true, false, cond, List, [], ◌∷◌, ◌++◌, take, append-nil, Option, Some, None, Result, refl, sym, ap, subst, ◌∙◌, arith}
use Rattle.kv_model.specs.Acts.{Act}
use Rattle.kv_model.specs.Batches.{after_batch}
use Rattle.kv_model.specs.Given.{Item}
use Rattle.kv_model.specs.Requests.{Asked}
use Rattle.kv_model.specs.State.{State, Watch, after, after_item, after_take, answer_to, next_of, open_at}
use Rattle.kv_model.specs.declared.batch.BatchRefused.{BatchRefused}
use Rattle.kv_model.specs.declared.call.Call.TheVariants as calls
use Rattle.kv_script.specs.Commands.{Meaning, Write, Get, GetAt, History, Watch as OpenWatch, Take, Stop, Status, Seal, Compact, Place, Batch}
use Rattle.kv_script.specs.Commands as commands
use Rattle.kv_script.specs.declared.form.Form.{Form}
use Rattle.kv_single.specs.Held.{Bucketed, Represents}
use Rattle.kv_replay.specs.Batches.{Asks, all_asked, outcome}
use Rattle.kv_replay.specs.Replaying.{HasActs}
use Rattle.kv_replay.specs.Sessions.{batch_goes_on}
use Rattle.kv_replay.specs.Steps.{EndsEarly}
use Rattle.kv_replay.specs.Text.{Step, hands_out, steps, steps_next, steps_text, takes}
use Rattle.kv_replay.specs.inside.Leaving.{LeavesLine}
use Rattle.kv_replay.specs.inside.Written.{Pours}
use Rattle.kv_replay.proofs.Pours.{pours_out}
use Rattle.kv_replay.proofs.Taking.{Took, steps_next-append}

-- ---- takes are no acts

item_acts : (number : ℕ) (s : State) (w : Watch) (item : Option Item) → (after_item number s w item).acts ≡ s.acts
item_acts number s w None = refl
item_acts number s w (Some item) = refl

take_acts : (number : ℕ) (s : State) (watch : Option Watch) → (after_take number s watch).acts ≡ s.acts
take_acts number s None = refl
take_acts number s (Some w) = item_acts number s w (next_of s.config.history s.acts w)

pub taken_acts : (s : State) (number : ℕ) → (after s (calls.Take number)).acts ≡ s.acts
taken_acts s number = take_acts number s (open_at number s)

-- the first of them, and so all
front_acts : (form : Form) (watch n made : ℕ) (s : State) → (steps_next s (take made (takes form watch n s))).acts ≡ s.acts
unfolding takes
front_acts form watch n zero s = refl
front_acts form watch zero (suc made) s = refl
front_acts form watch (suc n) (suc made) s = goes (hands_out (answer_to s (calls.Take watch))) (front_acts form watch n made (after s (calls.Take watch)))
  where
    none : (m : ℕ) → (steps_next (after s (calls.Take watch)) (take m [])).acts ≡ s.acts
    none zero = taken_acts s watch
    none (suc m) = taken_acts s watch

    goes : (on : Bool) → (steps_next (after s (calls.Take watch)) (take made (takes form watch n (after s (calls.Take watch))))).acts ≡ (after s (calls.Take watch)).acts
        → (steps_next (after s (calls.Take watch)) (take made (cond on (takes form watch n (after s (calls.Take watch))) []))).acts ≡ s.acts
    goes true more = more ∙ taken_acts s watch
    goes false more = none made

takes_acts : (form : Form) (watch n : ℕ) (s : State) → (steps_next s (takes form watch n s)).acts ≡ s.acts
unfolding takes
takes_acts form watch zero s = refl
takes_acts form watch (suc n) s = goes (hands_out (answer_to s (calls.Take watch))) (takes_acts form watch n (after s (calls.Take watch)))
  where
    goes : (on : Bool) → (steps_next (after s (calls.Take watch)) (takes form watch n (after s (calls.Take watch)))).acts ≡ (after s (calls.Take watch)).acts
        → (steps_next (after s (calls.Take watch)) (cond on (takes form watch n (after s (calls.Take watch))) [])).acts ≡ s.acts
    goes true more = more ∙ taken_acts s watch
    goes false more = taken_acts s watch

module _ {form : Form} (state : State) (watch count made : ℕ) (before now : List ℕ) (bucket : Bucketed) (took : Took form state watch count made before now bucket) where
  abbrev others : List Step
  others = takes form watch (count - made) took.current

  current_acts : took.current.acts ≡ state.acts
  current_acts =
      sym (takes_acts form watch (count - made) took.current) ∙ ap (λ (s : State). (steps_next s others).acts) (sym took.next)
      ∙ ap (λ (s : State). s.acts) (sym (steps_next-append state took.done others)) ∙ ap (λ steps. (steps_next state steps).acts) (sym took.parts)
      ∙ takes_acts form watch count state

  -- memory ran out before the next
  pub took_acts : (same : Bucketed) → same ≡ bucket → HasActs state.acts same
  took_acts same is = (took.current, current_acts, subst (Represents took.current) (sym is) took.stands)

  -- the next was made
  pub took_more_acts : (later : Bucketed) → Represents (after took.current (calls.Take watch)) later → HasActs state.acts later
  took_more_acts later stands = (after took.current (calls.Take watch), taken_acts took.current watch ∙ current_acts, stands)

-- ---- one command

pub pours_same : (held : Option (List ℕ)) (out out' : List ℕ) → out' ≡ out → Pours [] held out held out'
pours_same held out out' same = pours_out [] held out out' (same ∙ sym (append-nil out))

module _ (state : State) (before now : List ℕ) (bucket : Bucketed) (held : Option (List ℕ)) where
  abbrev Leaves : List Act → Type 0
  Leaves acts = LeavesLine state.acts acts bucket held before held now

  once_left : (next : State) (text : List ℕ) → EndsEarly state ((text, next) ∷ []) before now bucket → Leaves next.acts
  once_left next text early = by early.made early.answered early.within (early.unfinished (omega arith)) early.appended early.stands
    where
      by : (made answered : ℕ) → made ≤ 1 → answered < 1 → now ≡ before ++ steps_text (take answered ((text, next) ∷ [])) → Represents (steps_next state (take made ((text, next) ∷ []))) bucket → Leaves next.acts
      by zero zero within unfinished text_is stands = inr ((state, refl, stands), pours_same held before now (text_is ∙ append-nil before))
      by (suc zero) answered within unfinished text_is stands = inl (next, refl, stands)
      by (suc (suc made)) answered within unfinished text_is stands = absurd (omega (arith, within))
      by made (suc answered) within unfinished text_is stands = absurd (omega (arith, unfinished))

  takes_left : (form : Form) (watch count : ℕ) → EndsEarly state (takes form watch count state) before now bucket → Leaves (steps_next state (takes form watch count state)).acts
  takes_left form watch count early =
      inl (steps_next state (take early.made (takes form watch count state)), front_acts form watch count early.made state ∙ sym (takes_acts form watch count state), early.stands)

  -- memory ran out
  pub command_left : (form : Form) (meaning : Meaning) → EndsEarly state (steps form state meaning) before now bucket → Leaves (steps_next state (steps form state meaning)).acts
  command_left form (Write asked) early = once_left _ _ early
  command_left form (Get key) early = once_left _ _ early
  command_left form (GetAt key revision) early = once_left _ _ early
  command_left form (History key) early = once_left _ _ early
  command_left form (commands.Keys filters) early = once_left _ _ early
  command_left form (OpenWatch filters options) early = once_left _ _ early
  command_left form (Take watch count) early = takes_left form watch count early
  command_left form (Stop watch) early = once_left _ _ early
  command_left form Status early = once_left _ _ early
  command_left form Seal early = once_left _ _ early
  command_left form (Compact floor) early = once_left _ _ early
  command_left form (Place key) early = once_left _ _ early
  command_left form (Batch count) early = once_left _ _ early

  -- ---- a batch

  pub batch_left : (later : State) → now ≡ before → Represents state bucket ⊎ Represents later bucket → Leaves later.acts
  batch_left later same (inl stands) = inr ((state, refl, stands), pours_same held before now same)
  batch_left later same (inr stands) = inl (later, refl, stands)

-- all was done, and the sink failed
pub made_left : {held holds : Option (List ℕ)} {before now : List ℕ} (state later : State) (bucket : Bucketed) → Represents later bucket → LeavesLine state.acts later.acts bucket held before holds now
made_left {held} {holds} {before} {now} state later bucket stands = inl (later, refl, stands)

-- nothing was done
pub unmade_left : {held : Option (List ℕ)} {before now : List ℕ} (state : State) (acts : List Act) (bucket : Bucketed) → Represents state bucket → now ≡ before → LeavesLine state.acts acts bucket held before held now
unmade_left {held} {before} {now} state acts bucket stands same = inr ((state, refl, stands), pours_same held before now same)

pub goes_on_ends : (s : State) (n : ℕ) (asks : Asks) (asked : Result (List Asked) BatchRefused) → asked ≡ all_asked asks → n ≡ 0 → (batch_goes_on s n asks).1.state ≡ after_batch s (outcome s asked)
goes_on_ends s n asks asked is none = rw (none, is) refl

-- takes that were made in part
pub only_takes : {held holds : Option (List ℕ)} {before now : List ℕ} (form : Form) (watch count : ℕ) (state : State) (bucket : Bucketed) → HasActs state.acts bucket
    → LeavesLine state.acts (steps_next state (takes form watch count state)).acts bucket held before holds now
only_takes {held} {holds} {before} {now} form watch count state bucket acts = inl (acts.0, acts.1 ∙ sym (takes_acts form watch count state), acts.2)
