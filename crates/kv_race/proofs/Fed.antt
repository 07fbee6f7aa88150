-- What a feed has handed out when it goes on, and when it hands out one item more.
use Rattle.std.proofs.Common.{◌≡◌, ℕ, zero, suc, ◌+◌, ◌-◌, ◌<◌, ◌≤◌, ◌⊎◌, ⊎_elim, List, [], ◌∷◌, ◌++◌, Option, Some, None, length, take, get_or, refl, sym, ap, subst, ◌∙◌, arith}
use Rattle.std.specs.List.{slice_get}
use Rattle.std.specs.Option.{option_map}
use Rattle.std.proofs.lemmas.List.{take_more}
use Rattle.std.proofs.lemmas.Option.{slice_get_cases}
use Rattle.kv_model.specs.Acts.{Act, IsPrefix}
use Rattle.kv_model.specs.Configuration.{Configuration}
use Rattle.kv_model.specs.Given.{Item, given}
use Rattle.kv_model.proofs.GivenLaws.{given_goes_on}
use Rattle.kv_single.specs.Replies.{answer_of}
use Rattle.kv_single.specs.declared.reply.Reply.{Reply}
use Rattle.kv_bucket.specs.FeedState.{FeedState, IsRefreshed, IsNotRefreshed, given_by, next_of, after_item}
use Rattle.kv_race.specs.Watching.{HandsOut, reply_to}

take_prefix : {X : Type 0} (n : ℕ) (xs ys : List X) → n ≤ length xs → take n (xs ++ ys) ≡ take n xs
take_prefix zero xs ys l = refl
take_prefix (suc n) [] ys l = absurd (omega arith)
take_prefix (suc n) (x ∷ xs) ys l = ap (λ zs. x ∷ zs) (take_prefix n xs ys (omega arith))

-- what was handed out stays
pub went_on : (before after : FeedState) → IsPrefix before.began before.acts → before.handed ≤ length (given_by before) → IsRefreshed before after
    → take after.handed (given_by after) ≡ take before.handed (given_by before)
went_on before after began within r =
    let later = after.reader.seen in
    let grows : IsPrefix before.acts later = subst (λ (acts : List Act). IsPrefix before.acts acts) (ap (λ (f : FeedState). f.acts) r.same) r.grows in
    let more = given_goes_on before.reader.config.history before.began before.acts later before.filters before.options began grows in
    ap (λ (f : FeedState). take f.handed (given_by f)) r.same
    ∙ (ap (λ (c : Configuration). take before.handed (given c.history before.began later before.filters before.options)) r.reader.2
    ∙ (ap (take before.handed) (sym more.1) ∙ take_prefix before.handed (given_by before) more.0 within))

-- another reader of the configuration changes nothing of it
pub same_handed : (before after : FeedState) → after.reader.config ≡ before.reader.config → after ≡ record before { reader = after.reader } → take after.handed (given_by after) ≡ take before.handed (given_by before)
same_handed before after config same =
    ap (λ (f : FeedState). take f.handed (given_by f)) same
    ∙ ap (λ (c : Configuration). take before.handed (given c.history before.began before.acts before.filters before.options)) config

pub stayed : (before after : FeedState) → IsNotRefreshed before after → take after.handed (given_by after) ≡ take before.handed (given_by before)
stayed before after r = same_handed before after r.reader.2 r.same

handed_next : (feed : FeedState) (reply : Option Reply) (next : Option Item) → slice_get (given_by feed) feed.handed ≡ next → option_map answer_of reply ≡ option_map reply_to next
    → ((x : Item) × (feed.handed < length (given_by feed)) × (slice_get (given_by feed) feed.handed ≡ Some x) × (get_or (given_by feed) feed.handed x ≡ x)) ⊎ ((length (given_by feed) ≤ feed.handed) × (slice_get (given_by feed) feed.handed ≡ None))
    → HandsOut (take feed.handed (given_by feed)) (length (given_by feed) - feed.handed) reply (take (after_item feed next).handed (given_by (after_item feed next))) (length (given_by (after_item feed next)) - (after_item feed next).handed)
handed_next feed None None is e cases =
    let some : ((x : Item) × (feed.handed < length (given_by feed)) × (slice_get (given_by feed) feed.handed ≡ Some x) × (get_or (given_by feed) feed.handed x ≡ x)) → length (given_by feed) - feed.handed ≡ 0 = λ t. absurd (cc (t.2, is)) in
    let past : ((length (given_by feed) ≤ feed.handed) × (slice_get (given_by feed) feed.handed ≡ None)) → length (given_by feed) - feed.handed ≡ 0 = λ p. omega (arith, p.0) in
    (refl, ⊎_elim some past cases)
handed_next feed None (Some item) is e cases = absurd (cc e)
handed_next feed (Some reply) None is e cases = absurd (cc e)
handed_next feed (Some reply) (Some item) is e cases =
    let xs = given_by feed in
    let Out : Type 0 = HandsOut (take feed.handed xs) (length xs - feed.handed) (Some reply) (take (feed.handed + 1) xs) (length xs - (feed.handed + 1)) in
    let some : ((x : Item) × (feed.handed < length xs) × (slice_get xs feed.handed ≡ Some x) × (get_or xs feed.handed x ≡ x)) → Out = λ t.
    let same : t.0 ≡ item = cc (t.2, is) in (
      omega (arith, t.1),
      (item, (cc e, take_more xs feed.handed t.0 t.1 ∙ ap (λ x. take feed.handed xs ++ x ∷ []) (t.3 ∙ same))),
    ) in
    let past : ((length xs ≤ feed.handed) × (slice_get xs feed.handed ≡ None)) → Out = λ p. absurd (cc (p.1, is)) in
    ⊎_elim some past cases

-- one item more was handed out, or there was none
pub handed_on : (feed after : FeedState) (reply : Option Reply) → after ≡ after_item feed (next_of feed) → option_map answer_of reply ≡ option_map reply_to (next_of feed)
    → HandsOut (take feed.handed (given_by feed)) (length (given_by feed) - feed.handed) reply (take after.handed (given_by after)) (length (given_by after) - after.handed)
handed_on feed after reply same e =
    subst (λ (f : FeedState). HandsOut (take feed.handed (given_by feed)) (length (given_by feed) - feed.handed) reply (take f.handed (given_by f)) (length (given_by f) - f.handed)) (sym same)
    (handed_next feed reply (next_of feed) refl e (slice_get_cases (given_by feed) feed.handed).1)
