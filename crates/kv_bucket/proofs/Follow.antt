-- What calls on a feed hand out.
use Rattle.std.proofs.Common.{◌≡◌, ℕ, ◌+◌, ◌≤◌, ◌⊎◌, ⊎_elim, List, [], ◌∷◌, ◌++◌, Option, Some, None, length, take, slice_get, refl, sym, ap, ◌∙◌, subst, arith, append_assoc, length-append}
use Rattle.std.specs.Option.{option_to_list}
use Rattle.std.proofs.lemmas.List.{take-append-le, take_more, append-nil}
use Rattle.std.proofs.lemmas.Option.{slice_get_within, get_or_from_slice_get}
use Rattle.kv_model.specs.Acts.{Act, IsPrefix}
use Rattle.kv_model.specs.Configuration.{Configuration}
use Rattle.kv_model.specs.Given.{Item, given}
use Rattle.kv_model.proofs.GivenLaws.{given_goes_on}
use Rattle.kv_bucket.specs.FeedState.{FeedState, given_by, next_of, IsRefreshed, IsNotRefreshed, HasLearned, WentOn, HandsNext, after_item, IsStep, Step, IsRun, last_of, items_of, HandsOut}
use Rattle.kv_bucket.proofs.Going.{went_by_refresh}
use Rattle.kv_publish.proofs.Prefixes.{prefix_trans}

-- items that are the first of a list are the first of each list that begins with it
still_first : (n : ℕ) (items xs ys : List Item) → IsPrefix xs ys → n ≤ length xs → items ≡ take n xs → (n ≤ length ys) × (items ≡ take n ys)
still_first n items xs ys p within first =
    let longer : n ≤ length (xs ++ p.0) = omega (arith, length-append xs p.0) in
    subst (λ (zs : List Item). (n ≤ length zs) × (items ≡ take n zs)) p.1 (longer, first ∙ sym (take-append-le n xs p.0 within))

-- one item more
take_push : (xs : List Item) (n : ℕ) (x : Item) → slice_get xs n ≡ Some x → take (n + 1) xs ≡ take n xs ++ x ∷ []
take_push xs n x at =
    take_more xs n x (slice_get_within xs n x at) ∙ ap (λ y. take n xs ++ y ∷ []) (get_or_from_slice_get xs n x x at)

went_on : (before after : FeedState) (items : List Item) → WentOn before after → HandsOut before items → HandsOut after items
went_on before after items step hands =
    let to : FeedState = record before { reader = after.reader; acts = after.acts } in
    let goes_on : IsPrefix (given_by before) (given_by to) =
    subst (λ (c : Configuration). IsPrefix (given_by before) (given c.history before.began after.acts before.filters before.options)) (sym step.reader.2)
    (given_goes_on before.reader.config.history before.began before.acts after.acts before.filters before.options hands.prefix step.grows) in
    let more = still_first before.handed items (given_by before) (given_by to) goes_on hands.within hands.first in
    let there : HandsOut to items = record {
      prefix = prefix_trans before.began before.acts after.acts hands.prefix step.grows;
      within = more.0;
      first = more.1;
    } in
    subst (λ (f : FeedState). HandsOut f items) (sym step.same) there

refreshed : (before after : FeedState) (items : List Item) → IsRefreshed before after → HandsOut before items → HandsOut after items
refreshed before after items step hands = went_on before after items (went_by_refresh before after step) hands

-- another reader changes nothing of what was handed out
with_reader : (before after : FeedState) (items : List Item) → after.reader.config ≡ before.reader.config → after ≡ record before { reader = after.reader } → HandsOut before items → HandsOut after items
with_reader before after items config same hands =
    let parts = subst (λ (c : Configuration). let xs : List Item = given c.history before.began before.acts before.filters before.options in (before.handed ≤ length xs) × (items ≡ take before.handed xs)) (sym config) (hands.within, hands.first) in
    let there : HandsOut (record before { reader = after.reader }) items = record { prefix = hands.prefix; within = parts.0; first = parts.1 } in
    subst (λ (f : FeedState). HandsOut f items) (sym same) there

taken : (before : FeedState) (items : List Item) (item : Option Item) → item ≡ next_of before → HandsOut before items → HandsOut (after_item before item) (items ++ option_to_list item)
taken before items None is hands = subst (λ (xs : List Item). HandsOut before xs) (sym (append-nil items)) hands
taken before items (Some x) is hands =
    let at : slice_get (given_by before) before.handed ≡ Some x = sym is in
    let inside = slice_get_within (given_by before) before.handed x at in record {
      prefix = hands.prefix;
      within = omega arith;
      first = ap (λ xs. xs ++ x ∷ []) hands.first ∙ sym (take_push (given_by before) before.handed x at);
    }

nothing_more : (feed : FeedState) (items : List Item) (item : Option Item) → item ≡ None → HandsOut feed items → HandsOut feed (items ++ option_to_list item)
nothing_more feed items item none hands =
    subst (λ (i : Option Item). HandsOut feed (items ++ option_to_list i)) (sym none) (subst (λ (xs : List Item). HandsOut feed xs) (sym (append-nil items)) hands)

one_step : (before after : FeedState) (items : List Item) (item : Option Item) → IsStep before item after → HandsOut before items → HandsOut after (items ++ option_to_list item)
one_step before after items item step hands =
    let Goal : Type 0 = HandsOut after (items ++ option_to_list item) in
    let Passed : Type 0 = (item ≡ None) × WentOn before after in
    let Next : Type 0 = HandsNext before item after in
    let Taken : Type 0 = (item ≡ next_of before) × (after ≡ after_item before item) in
    let Learned : Type 0 = (item ≡ None) × ((told : List Act) × HasLearned told before after) in
    let Refused : Type 0 = (item ≡ None) × IsNotRefreshed before after in
    let Refreshed : Type 0 = (item ≡ None) × IsRefreshed before after in
    let by_passed : Passed → Goal = λ s. nothing_more after items item s.0 (went_on before after items s.1 hands) in
    let by_next : Next → Goal = λ s.
    subst (λ (f : FeedState). HandsOut f (items ++ option_to_list item)) (sym s.counts) (taken s.went items item s.value (went_on before s.went items s.goes hands)) in
    let by_taken : Taken → Goal = λ s. subst (λ (f : FeedState). HandsOut f (items ++ option_to_list item)) (sym s.1) (taken before items item s.0 hands) in
    let by_learned : Learned → Goal = λ s. nothing_more after items item s.0 (with_reader before after items s.1.1.config s.1.1.same hands) in
    let by_refused : Refused → Goal = λ s. nothing_more after items item s.0 (with_reader before after items s.1.reader.2 s.1.same hands) in
    let by_refreshed : Refreshed → Goal = λ s. nothing_more after items item s.0 (refreshed before after items s.1 hands) in
    let by_waited : Next ⊎ Passed → Goal = ⊎_elim by_next by_passed in
    let by_handed : Taken ⊎ (Next ⊎ Passed) → Goal = ⊎_elim by_taken by_waited in
    let by_stayed : Learned ⊎ (Taken ⊎ (Next ⊎ Passed)) → Goal = ⊎_elim by_learned by_handed in
    ⊎_elim by_refreshed (⊎_elim by_refused by_stayed) step

items_of_first : (item : Option Item) (after : FeedState) (steps : List Step) → option_to_list item ++ items_of steps ≡ items_of (record { item = item; after = after } ∷ steps)
items_of_first None after steps = refl
items_of_first (Some x) after steps = refl

run_from : (feed : FeedState) (steps : List Step) (items : List Item) → IsRun feed steps → HandsOut feed items → HandsOut (last_of feed steps) (items ++ items_of steps)
run_from feed [] items run hands = subst (λ (xs : List Item). HandsOut feed xs) (sym (append-nil items)) hands
run_from feed (step ∷ steps) items run hands =
    let rest = run_from step.after steps (items ++ option_to_list step.item) run.1 (one_step feed step.after items step.item run.0 hands) in
    subst (λ (xs : List Item). HandsOut (last_of step.after steps) xs) (joined items step.item (items_of steps) ∙ ap (λ xs. items ++ xs) (items_of_first step.item step.after steps)) rest
  where
    joined : (items : List Item) (item : Option Item) (more : List Item) → (items ++ option_to_list item) ++ more ≡ items ++ (option_to_list item ++ more)
    joined items item more = append_assoc items (option_to_list item) more

-- calls on a feed that has handed out nothing
pub run_hands_out : (feed : FeedState) (steps : List Step) → IsPrefix feed.began feed.acts → feed.handed ≡ 0 → IsRun feed steps → HandsOut (last_of feed steps) (items_of steps)
run_hands_out feed steps prefix none run =
    let begun : HandsOut feed [] = record {
      prefix = prefix;
      within = omega arith;
      first = rw none refl;
    } in
    run_from feed steps [] run begun
