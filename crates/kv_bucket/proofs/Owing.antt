-- What a feed learned is reached, and handed out.
use Rattle.std.proofs.Common.{◌≡◌, ◌⊎◌, ⊎_elim, List, [], ◌∷◌, Option, None, Some, length, ◌<◌, sym, ap, subst, arith}
use Rattle.kv_model.specs.Acceptance.{IsLawful}
use Rattle.kv_model.specs.Acts.{Act, Write, IsPrefix}
use Rattle.kv_model.specs.Given.{Item}
use Rattle.kv_bucket.specs.FeedState.{FeedState, given_by, next_of, IsRefreshed, IsNotRefreshed, HasLearned, WentOn, HandsNext, HasGoneOn, after_item, IsStep, Step, IsRun, last_of, items_of}
use Rattle.kv_bucket.specs.Owed.{Owes, HasOnce}
use Rattle.kv_bucket.proofs.Feeds.{ends}
use Rattle.kv_bucket.proofs.Follow.{run_hands_out}
use Rattle.kv_bucket.proofs.Once.{all_has_once}
use Rattle.kv_publish.proofs.Prefixes.{prefix_self, prefix_trans}

-- what a feed was told and went on to only grows
abbrev pub HasGrown : FeedState → FeedState → Type 0
HasGrown before after = IsPrefix before.reader.told after.reader.told × IsPrefix before.acts after.acts

same_grown : (before after : FeedState) → after.reader.told ≡ before.reader.told → after.acts ≡ before.acts → HasGrown before after
same_grown before after told acts = (
  subst (λ (xs : List Act). IsPrefix before.reader.told xs) (sym told) (prefix_self before.reader.told),
  subst (λ (xs : List Act). IsPrefix before.acts xs) (sym acts) (prefix_self before.acts),
)

after_grown : (before : FeedState) (item : Option Item) → HasGrown before (after_item before item)
after_grown before None = (prefix_self before.reader.told, prefix_self before.acts)
after_grown before (Some item) = (prefix_self before.reader.told, prefix_self before.acts)

went_grown : (before after : FeedState) → WentOn before after → HasGrown before after
went_grown before after step = (subst (λ (xs : List Act). IsPrefix before.reader.told xs) (sym step.reader.1) (prefix_self before.reader.told), step.grows)

step_grown : (before after : FeedState) (item : Option Item) → IsStep before item after → HasGrown before after
step_grown before after item step =
    let Passed : Type 0 = (item ≡ None) × WentOn before after in
    let Next : Type 0 = HandsNext before item after in
    let Taken : Type 0 = (item ≡ next_of before) × (after ≡ after_item before item) in
    let Learned : Type 0 = (item ≡ None) × ((told : List Act) × HasLearned told before after) in
    let Refused : Type 0 = (item ≡ None) × IsNotRefreshed before after in
    let Refreshed : Type 0 = (item ≡ None) × IsRefreshed before after in
    let Goal : Type 0 = HasGrown before after in
    let by_passed : Passed → Goal = λ s. went_grown before after s.1 in
    let by_next : Next → Goal = λ s.
    let first = went_grown before s.went s.goes in
    let rest : HasGrown s.went after = subst (HasGrown s.went) (sym s.counts) (after_grown s.went item) in (
      prefix_trans before.reader.told s.went.reader.told after.reader.told first.0 rest.0,
      prefix_trans before.acts s.went.acts after.acts first.1 rest.1,
    ) in
    let by_taken : Taken → Goal = λ s. subst (HasGrown before) (sym s.1) (after_grown before item) in
    let by_learned : Learned → Goal = λ s. (
      s.1.1.former,
      subst (λ (xs : List Act). IsPrefix before.acts xs) (sym (ap (λ (f : FeedState). f.acts) s.1.1.same)) (prefix_self before.acts),
    ) in
    let by_refused : Refused → Goal = λ s. same_grown before after s.1.reader.1 (ap (λ (f : FeedState). f.acts) s.1.same) in
    let by_refreshed : Refreshed → Goal = λ s. (subst (λ (xs : List Act). IsPrefix before.reader.told xs) (sym s.1.reader.1) (prefix_self before.reader.told), s.1.grows) in
    let by_waited : Next ⊎ Passed → Goal = ⊎_elim by_next by_passed in
    let by_handed : Taken ⊎ (Next ⊎ Passed) → Goal = ⊎_elim by_taken by_waited in
    let by_stayed : Learned ⊎ (Taken ⊎ (Next ⊎ Passed)) → Goal = ⊎_elim by_learned by_handed in
    ⊎_elim by_refreshed (⊎_elim by_refused by_stayed) step

run_grown : (feed : FeedState) (steps : List Step) → IsRun feed steps → HasGrown feed (last_of feed steps)
run_grown feed [] run = (prefix_self feed.reader.told, prefix_self feed.acts)
run_grown feed (step ∷ steps) run =
    let first = step_grown feed step.after step.item run.0 in
    let rest = run_grown step.after steps run.1 in (
      prefix_trans feed.reader.told step.after.reader.told (last_of step.after steps).reader.told first.0 rest.0,
      prefix_trans feed.acts step.after.acts (last_of step.after steps).acts first.1 rest.1,
    )

reaches : (before after : FeedState) → HasGoneOn before after → IsPrefix before.reader.told after.acts
reaches before after gone =
    ⊎_elim (λ (step : IsRefreshed before after). step.told) (λ (step : WentOn before after × (length before.acts < length after.acts)).
    ⊎_elim (λ (told : IsPrefix before.reader.told after.acts). told) (λ (stayed : after.acts ≡ before.acts). absurd (omega (arith, step.1, ap (λ (acts : List Act). length acts) stayed))) step.0.told) gone

pub reached : (receipt : List Act) (feed learned refreshed : FeedState) (between later : List Step) → HasLearned receipt feed learned → IsRun learned between → HasGoneOn (last_of learned between) refreshed → IsRun refreshed later
    → IsPrefix receipt (last_of refreshed later).acts
reached receipt feed learned refreshed between later learning run went more =
    let middle = last_of learned between in
    let told : IsPrefix receipt middle.reader.told = prefix_trans receipt learned.reader.told middle.reader.told learning.learned (run_grown learned between run).0 in
    let there : IsPrefix receipt refreshed.acts = prefix_trans receipt middle.reader.told refreshed.acts told (reaches middle refreshed went) in
    prefix_trans receipt refreshed.acts (last_of refreshed later).acts there (run_grown refreshed later more).1

pub told_once : (feed : FeedState) (steps : List Step) (told : List Act) (w : Write) → IsPrefix feed.began feed.acts → feed.handed ≡ 0 → IsRun feed steps → IsLawful feed.reader.config (last_of feed steps).acts
    → next_of (last_of feed steps) ≡ None → Owes (last_of feed steps) told w → HasOnce (last_of feed steps) w (items_of steps)
told_once feed steps told w prefix none run lawful end owes =
    let last = last_of feed steps in
    let hands = run_hands_out feed steps prefix none run in
    let all : last.handed ≡ length (given_by last) = (ends (given_by last) last.handed hands.within).0 end in
    subst (λ (items : List Item). HasOnce last w items) (sym hands.first) (all_has_once feed.reader.config last told w lawful hands.prefix all owes)
