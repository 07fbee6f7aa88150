-- Takes in a row.
use Rattle.std.proofs.Common.{◌≡◌, ◌⊎◌, inl, inr, ◌≤◌, ◌+◌, ◌-◌, ◌<◌, ℕ, suc, zero, true, false, cond, List, [], ◌∷◌, ◌++◌, length, take, drop, take-append-drop, length-append, append_assoc, append-nil, Option, refl, sym, ap, subst, ◌∙◌, Ok, arith}
use Rattle.std.specs.Io.KnownBytes.{Appends}
use Rattle.std.proofs.lemmas.List.{take_at}
use Rattle.kv_single.specs.Held.{Bucketed, Represents}
use Rattle.kv_model.specs.State.{State, after, answer_to}
use Rattle.kv_model.specs.declared.call.Call.TheVariants as calls
use Rattle.std.specs.Result.{result_unwrap_or}
use Rattle.kv_script.specs.Answered.{taken_text}
use Rattle.kv_script.specs.Commands.{Meaning, Status, Take, line_command}
use Rattle.kv_script.specs.declared.form.Form.{Form}
use Rattle.kv_replay.specs.Steps.{Does, EndsBetween, EndsEarly}
use Rattle.kv_replay.specs.Outcome.{IsWholeLines}
use Rattle.kv_replay.specs.Text.{Step, hands_out, takes, steps_text, steps_next}
use Rattle.kv_replay.specs.inside.Written.{AppendsFront, Pours, PoursFront, Puts}
use Rattle.kv_replay.proofs.Pours.{pours-trans, pours_none, pours_on, pours_out, puts_more, puts_waiting}
use Rattle.kv_replay.proofs.Texts.{AreWhole, steps_text-whole, taken_whole}
use Rattle.kv_replay.proofs.WholeLines.{IsWholeLines-append, IsWholeLines-nil}

pub steps_text-append : (xs ys : List Step) → steps_text (xs ++ ys) ≡ steps_text xs ++ steps_text ys
steps_text-append [] ys = refl
steps_text-append (x ∷ xs) ys = ap (λ t. x.0 ++ t) (steps_text-append xs ys) ∙ sym (append_assoc x.0 (steps_text xs) (steps_text ys))

pub steps_next-append : (s : State) (xs ys : List Step) → steps_next s (xs ++ ys) ≡ steps_next (steps_next s xs) ys
steps_next-append s [] ys = refl
steps_next-append s (x ∷ xs) ys = steps_next-append x.1 xs ys

-- all calls of a list were made and answered
pub does_all : (state : State) (steps : List Step) (before now : List ℕ) (bucket : Bucketed) → now ≡ before ++ steps_text steps → Represents (steps_next state steps) bucket → Does state steps before now bucket
does_all state steps before now bucket text stands = (text, stands)

-- of one call
pub does_once : (state next : State) (text before now : List ℕ) (bucket : Bucketed) → now ≡ before ++ text → Represents next bucket → Does state ((text, next) ∷ []) before now bucket
does_once state next text before now bucket said stands = (said ∙ ap (λ t. before ++ t) (sym (append-nil text)), stands)

-- the first of them were, and there are more if there are any
pub ends_between : (state : State) (all done rest : List Step) (before now : List ℕ) (bucket : Bucketed) → all ≡ done ++ rest → (0 < length all → 0 < length rest) → now ≡ before ++ steps_text done → Represents (steps_next state done) bucket
    → EndsBetween state all before now bucket
ends_between state all done rest before now bucket parts more text stands =
    let first : take (length done) all ≡ done = ap (take (length done)) parts ∙ take_at done rest (length done) refl in
    record {
      made = length done;
      within = omega (arith, ap length parts, length-append done rest);
      unfinished = λ some. omega (arith, more some, ap length parts, length-append done rest);
      appended = text ∙ ap (λ steps. before ++ steps_text steps) (sym first);
      stands = subst (λ steps. Represents (steps_next state steps) bucket) (sym first) stands;
    }

-- of calls that were all answered the last was
pub ends_early : (state : State) (steps : List Step) (before now : List ℕ) (bucket : Bucketed) → EndsBetween state steps before now bucket → EndsEarly state steps before now bucket
ends_early state steps before now bucket between = record {
  answered = between.made;
  made = between.made;
  ordered = omega arith;
  nearly = omega arith;
  within = between.within;
  unfinished = between.unfinished;
  appended = between.appended;
  stands = between.stands;
}

-- so many takes were made of a count: what is left are the takes of the rest
pub record Took (form : Form) (state : State) (watch count made : ℕ) (before now : List ℕ) (bucket : Bucketed) : Type 0 where
  pub current : State
  pub done : List Step
  pub parts : takes form watch count state ≡ done ++ takes form watch (count - made) current
  pub text : now ≡ before ++ steps_text done
  pub next : steps_next state done ≡ current
  pub stands : Represents current bucket

pub took_none : {form : Form} (state : State) (watch count : ℕ) (now : List ℕ) (bucket : Bucketed) → Represents state bucket → Took form state watch count 0 now now bucket
took_none {form} state watch count now bucket stands = record {
  current = state;
  done = [];
  parts = ap (λ n. takes form watch n state) (sym (less_none count));
  text = sym (append-nil now);
  next = refl;
  stands = stands;
}
  where
    less_none : (n : ℕ) → n - 0 ≡ n
    less_none n = omega arith

-- ---- one take more

less_by_one : (count made : ℕ) → made < count → count - made ≡ suc (count - (made + 1))
less_by_one count made inside = omega arith

takes-suc : (form : Form) (watch n : ℕ) (s : State) → takes form watch (suc n) s ≡ (taken_text form watch (answer_to s (calls.Take watch)), after s (calls.Take watch)) ∷ cond (hands_out (answer_to s (calls.Take watch))) (takes form watch n (after s (calls.Take watch))) []
unfolding takes
takes-suc form watch n s = refl

takes-zero : (form : Form) (watch : ℕ) (s : State) → takes form watch 0 s ≡ []
unfolding takes
takes-zero form watch s = refl

takes_one : (form : Form) (watch count made : ℕ) (s : State) → made < count
    → takes form watch (count - made) s ≡ (taken_text form watch (answer_to s (calls.Take watch)), after s (calls.Take watch)) ∷ cond (hands_out (answer_to s (calls.Take watch))) (takes form watch (count - (made + 1)) (after s (calls.Take watch))) []
takes_one form watch count made s inside = ap (λ n. takes form watch n s) (less_by_one count made inside) ∙ takes-suc form watch (count - (made + 1)) s

module _ {form : Form} (state : State) (watch count made : ℕ) (before now : List ℕ) (bucket : Bucketed) (so_far : Took form state watch count made before now bucket) where
  abbrev step : Step
  step = (taken_text form watch (answer_to so_far.current (calls.Take watch)), after so_far.current (calls.Take watch))

  text_more : (now' : List ℕ) → now' ≡ now ++ step.0 → now' ≡ before ++ steps_text (so_far.done ++ step ∷ [])
  text_more now' appended =
      appended ∙ ap (λ t. t ++ step.0) so_far.text ∙ append_assoc before (steps_text so_far.done) step.0
      ∙ ap (λ t. before ++ t) (ap (λ t. steps_text so_far.done ++ t) (sym (append-nil step.0)) ∙ sym (steps_text-append so_far.done (step ∷ [])))

  next_more : steps_next state (so_far.done ++ step ∷ []) ≡ step.1
  next_more = steps_next-append state so_far.done (step ∷ [])

  -- a take that handed out an item
  pub took_one : (now' : List ℕ) (bucket' : Bucketed) → made < count → hands_out (answer_to so_far.current (calls.Take watch)) ≡ true → now' ≡ now ++ step.0 → Represents step.1 bucket'
      → Took form state watch count (made + 1) before now' bucket'
  took_one now' bucket' inside goes_on appended stands = record {
    current = step.1;
    done = so_far.done ++ step ∷ [];
    parts = so_far.parts ∙ ap (λ t. so_far.done ++ t) (takes_one form watch count made so_far.current inside
        ∙ ap (λ b. step ∷ cond b (takes form watch (count - (made + 1)) step.1) []) goes_on) ∙ sym (append_assoc so_far.done (step ∷ []) (takes form watch (count - (made + 1)) step.1));
    text = text_more now' appended;
    next = next_more;
    stands = stands;
  }

  -- one that handed out none, the last
  pub took_last : (now' : List ℕ) (bucket' : Bucketed) → made < count → hands_out (answer_to so_far.current (calls.Take watch)) ≡ false → now' ≡ now ++ step.0 → Represents step.1 bucket'
      → Does state (takes form watch count state) before now' bucket'
  took_last now' bucket' inside stops appended stands =
      let parts : takes form watch count state ≡ so_far.done ++ step ∷ [] = so_far.parts ∙ ap (λ t. so_far.done ++ t) (takes_one form watch count made so_far.current inside
      ∙ ap (λ b. step ∷ cond b (takes form watch (count - (made + 1)) step.1) []) stops) in (
        text_more now' appended ∙ ap (λ steps. before ++ steps_text steps) (sym parts),
        subst (λ s. Represents s bucket') (sym (ap (steps_next state) parts ∙ next_more)) stands,
      )

  -- memory ran out before the next
  pub took_part : made < count → EndsBetween state (takes form watch count state) before now bucket
  took_part inside = ends_between state (takes form watch count state) so_far.done (takes form watch (count - made) so_far.current) before now bucket so_far.parts
      (λ some. omega (arith, ap length (takes_one form watch count made so_far.current inside))) so_far.text
      (subst (λ s. Represents s bucket) (sym so_far.next) so_far.stands)

  -- all were made
  pub took_all : count ≤ made → Does state (takes form watch count state) before now bucket
  took_all full =
      let none : takes form watch (count - made) so_far.current ≡ [] = ap (λ n. takes form watch n so_far.current) (nothing count made full) ∙ takes-zero form watch so_far.current in
      let parts : takes form watch count state ≡ so_far.done = so_far.parts ∙ ap (λ t. so_far.done ++ t) none ∙ append-nil so_far.done in (
        so_far.text ∙ ap (λ steps. before ++ steps_text steps) (sym parts),
        subst (λ s. Represents s bucket) (sym (ap (steps_next state) parts ∙ so_far.next)) so_far.stands,
      )
    where
      nothing : (count made : ℕ) → count ≤ made → count - made ≡ 0
      nothing count made full = omega arith

-- ---- takes whose answers are poured

-- so many takes were made of a count, and what they answered waits or went
pub record Poured (form : Form) (state : State) (watch count made : ℕ) (held : Option (List ℕ)) (waited : List ℕ) (holds : Option (List ℕ)) (waits : List ℕ) (bucket : Bucketed) : Type 0 where
  pub said : List ℕ
  pub took : Took form state watch count made [] said bucket
  pub whole : IsWholeLines said
  pub poured : Pours said held waited holds waits

pub poured_none : {form : Form} (state : State) (watch count : ℕ) (held : Option (List ℕ)) (out : List ℕ) (bucket : Bucketed) → Represents state bucket
    → Poured form state watch count 0 held out held out bucket
poured_none {form} state watch count held out bucket stands = record {
  said = [];
  took = took_none state watch count [] bucket stands;
  whole = IsWholeLines-nil;
  poured = pours_none held out;
}

module _ {form : Form} (state : State) (watch count made : ℕ) (held : Option (List ℕ)) (waited : List ℕ) (holds : Option (List ℕ)) (waits : List ℕ) (bucket : Bucketed)
    (so_far : Poured form state watch count made held waited holds waits bucket) where
  -- what the next take answers
  abbrev next_text : List ℕ
  next_text = taken_text form watch (answer_to so_far.took.current (calls.Take watch))

  next_poured : (waits' : List ℕ) → waits' ≡ waits ++ next_text → Pours (so_far.said ++ next_text) held waited holds waits'
  next_poured waits' added =
      pours-trans so_far.said next_text held holds holds waited waits waits' so_far.poured (pours_out next_text holds waits waits' added)

  pub poured_one : (bucket' : Bucketed) (waits' : List ℕ) (holds' : Option (List ℕ)) (left : List ℕ) → made < count → hands_out (answer_to so_far.took.current (calls.Take watch)) ≡ true
      → waits' ≡ waits ++ next_text → Represents (after so_far.took.current (calls.Take watch)) bucket' → Pours [] holds waits' holds' left
      → Poured form state watch count (made + 1) held waited holds' left bucket'
  poured_one bucket' waits' holds' left inside goes_on added stands pours = record {
    said = so_far.said ++ next_text;
    took = took_one state watch count made [] so_far.said bucket so_far.took (so_far.said ++ next_text) bucket' inside goes_on refl stands;
    whole = IsWholeLines-append so_far.said next_text so_far.whole (taken_whole form watch (answer_to so_far.took.current (calls.Take watch)));
    poured = pours_on (so_far.said ++ next_text) held holds holds' waited waits' left (next_poured waits' added) pours;
  }

  pub poured_last : (bucket' : Bucketed) (waits' : List ℕ) (holds' : Option (List ℕ)) (left : List ℕ) → made < count → hands_out (answer_to so_far.took.current (calls.Take watch)) ≡ false
      → waits' ≡ waits ++ next_text → Represents (after so_far.took.current (calls.Take watch)) bucket' → Pours [] holds waits' holds' left
      → Pours (steps_text (takes form watch count state)) held waited holds' left × Represents (steps_next state (takes form watch count state)) bucket'
  poured_last bucket' waits' holds' left inside stops added stands pours =
      let does = took_last state watch count made [] so_far.said bucket so_far.took (so_far.said ++ next_text) bucket' inside stops refl stands in (
        subst (λ t. Pours t held waited holds' left) does.0
            (pours_on (so_far.said ++ next_text) held holds holds' waited waits' left (next_poured waits' added) pours),
        does.1,
      )

  -- what all takes answer, by what was answered, what the next one answers, and the others
  all_said : made < count → (more : List ℕ) × ((so_far.said ++ next_text) ++ more ≡ steps_text (takes form watch count state))
  all_said inside =
      let rest = cond (hands_out (answer_to so_far.took.current (calls.Take watch))) (takes form watch (count - (made + 1)) (after so_far.took.current (calls.Take watch))) [] in (
        steps_text rest,
        append_assoc so_far.said next_text (steps_text rest) ∙ ap (λ t. t ++ (next_text ++ steps_text rest)) so_far.took.text
            ∙ ap (λ steps. steps_text so_far.took.done ++ steps_text steps) (sym (takes_one form watch count made so_far.took.current inside))
            ∙ sym (steps_text-append so_far.took.done (takes form watch (count - made) so_far.took.current)) ∙ ap steps_text (sym so_far.took.parts),
      )

  -- the sink failed
  pub poured_fault : (waits' : List ℕ) (holds' : Option (List ℕ)) → made < count → waits' ≡ waits ++ next_text → (n : ℕ) × Appends holds holds' (take n waits')
      → Puts (waited ++ steps_text (takes form watch count state)) held holds'
  poured_fault waits' holds' inside added part =
      let said = all_said inside in
      subst (λ t. Puts (waited ++ t) held holds') said.1
      (puts_more (so_far.said ++ next_text) said.0 held holds' waited
      (puts_waiting (so_far.said ++ next_text) held holds holds' waited waits' (next_poured waits' added) part))

  -- memory ran out before the next
  pub poured_part : PoursFront (steps_text (takes form watch count state)) held waited holds waits
  poured_part =
      let others = takes form watch (count - made) so_far.took.current in
      record {
        front = so_far.said;
        rest = steps_text others;
        parts = ap steps_text so_far.took.parts ∙ steps_text-append so_far.took.done others ∙ ap (λ t. t ++ steps_text others) (sym so_far.took.text);
        whole = so_far.whole;
        poured = so_far.poured;
      }

  -- all were made
  pub poured_all : count ≤ made → Pours (steps_text (takes form watch count state)) held waited holds waits × Represents (steps_next state (takes form watch count state)) bucket
  poured_all full =
      let does = took_all state watch count made [] so_far.said bucket so_far.took full in
      (subst (λ t. Pours t held waited holds waits) does.0 so_far.poured, does.1)

-- ---- lines of one call

-- nothing was made
pub between_at_once : (state : State) (steps : List Step) (before now : List ℕ) (bucket : Bucketed) → now ≡ before → Represents state bucket → EndsBetween state steps before now bucket
between_at_once state steps before now bucket same stands = ends_between state steps [] steps before now bucket refl (λ some. some) (same ∙ sym (append-nil before)) stands

pub ends_at_once : (state : State) (steps : List Step) (before now : List ℕ) (bucket : Bucketed) → now ≡ before → Represents state bucket → EndsEarly state steps before now bucket
ends_at_once state steps before now bucket same stands = ends_early state steps before now bucket (between_at_once state steps before now bucket same stands)

-- one call was made or not, and it was not answered
pub ends_once : (state next : State) (text before now : List ℕ) (bucket : Bucketed) → now ≡ before → Represents state bucket ⊎ Represents next bucket → EndsEarly state ((text, next) ∷ []) before now bucket
ends_once state next text before now bucket same (inl stands) = ends_at_once state ((text, next) ∷ []) before now bucket same stands
ends_once state next text before now bucket same (inr stands) = record {
  answered = 0;
  made = 1;
  ordered = omega arith;
  nearly = omega arith;
  within = omega arith;
  unfinished = λ some. some;
  appended = same ∙ sym (append-nil before);
  stands = stands;
}

-- ---- what is a take

watch_of : Meaning → ℕ
watch_of (Take watch count) = watch
watch_of meaning = 0

count_of : Meaning → ℕ
count_of (Take watch count) = count
count_of meaning = 0

-- of the same take
pub same_take : (form : Form) (state : State) (before now : List ℕ) (bucket : Bucketed) (watch count watch' count' : ℕ) → Take watch count ≡ Take watch' count'
    → EndsBetween state (takes form watch count state) before now bucket → EndsBetween state (takes form watch' count' state) before now bucket
unfolding watch_of count_of
same_take form state before now bucket watch count watch' count' same between =
    subst (λ n. EndsBetween state (takes form watch' n state) before now bucket) (ap count_of same)
    (subst (λ w. EndsBetween state (takes form w count state) before now bucket) (ap watch_of same) between)

-- what is read of a line that is a take
pub read_take : (form : Form) (line : List ℕ) (meaning : Meaning) (watch count : ℕ) → line_command form line ≡ Ok meaning → line_command form line ≡ Ok (Take watch count) → meaning ≡ Take watch count
read_take form line meaning watch count read same = ap (λ outcome. result_unwrap_or outcome Status) (sym read ∙ same)

whole_take : (n : ℕ) (steps : List Step) → AreWhole steps → AreWhole (take n steps)
whole_take zero steps whole = tt
whole_take (suc n) [] whole = tt
whole_take (suc n) (one ∷ steps) (first, rest) = (first, whole_take n steps rest)

-- a beginning of calls is answered by a beginning of their text, of whole lines
pub early_front : (state : State) (steps : List Step) (before now : List ℕ) (bucket : Bucketed) → AreWhole steps → EndsEarly state steps before now bucket → AppendsFront (steps_text steps) before now
early_front state steps before now bucket whole early = record {
  front = steps_text (take early.answered steps);
  rest = steps_text (drop early.answered steps);
  parts = ap steps_text (sym (take-append-drop early.answered steps)) ∙ steps_text-append (take early.answered steps) (drop early.answered steps);
  whole = steps_text-whole (take early.answered steps) (whole_take early.answered steps whole);
  appended = early.appended;
}
