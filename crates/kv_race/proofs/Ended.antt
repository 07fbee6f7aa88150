-- The end of a watch.
use Rattle.std.proofs.Common.{◌≡◌, ℕ, ◌-◌, ◌≤◌, List, [], All, length, map, take, refl, sym, ap, subst, ◌∙◌, arith, take_all}
use Rattle.kv_model.specs.Acts.{Act, IsPrefix}
use Rattle.kv_model.specs.Configuration.{Configuration}
use Rattle.kv_store.specs.Standing.{StandsFor}
use Rattle.kv_store.specs.Stored.{Stored}
use Rattle.kv_model.specs.declared.options.Options.{Options}
use Rattle.kv_model.specs.Given.{given}
use Rattle.kv_single.specs.declared.reply.Reply.{Reply}
use Rattle.kv_bucket.specs.FeedState.{FeedState, HasLearned, IsRefreshed, given_by}
use Rattle.kv_race.specs.Telling.{Answered, BeginAll, HasLast, IsEnded, IsFollowed, IsShown}
use Rattle.kv_race.specs.Watching.{Are, Place, Watch, WritesDown, reply_to}
use Rattle.kv_race.proofs.Fed.{same_handed, went_on}
use Rattle.kv_race.proofs.Hearing.{begin_all_later}

abbrev pub watch_of : FeedState → Watch
watch_of feed = record { config = feed.reader.config; began = feed.began; filters = feed.filters; options = feed.options }

abbrev pub place_of : FeedState → Place
place_of feed = record { acts = feed.acts; seen = feed.reader.seen; told = feed.reader.told }

-- a feed that went on once it was told of all answers shows a version with the writes of these
pub shown : (config : Configuration) (answers : List (List Answered)) (heard went : FeedState) (version : Stored) → BeginAll heard.reader.told answers → IsRefreshed heard went
    → StandsFor went.acts version × (version.config ≡ config) → IsShown config answers went.acts version
shown config answers heard went version tells goes shows = record {
  same_config = shows.1;
  stands = shows.0;
  told = begin_all_later heard.reader.told went.acts answers goes.told tells;
}

pub last_shown : (config : Configuration) (answers : List (List Answered)) (acts : List Act) (version : Stored) → IsShown config answers acts version → HasLast config answers [] version
last_shown config answers acts version shows = record { acts = acts; shown = shows; same = λ k d l. absurd (omega (arith, l)) }

-- it is the last one where each of these has seen its acts
pub agreed : (config : Configuration) (answers : List (List Answered)) (acts : List Act) (each : List (List Act)) (shows version : Stored) → IsShown config answers acts shows → version ≡ shows
    → All (λ seen. seen ≡ acts) each → HasLast config answers each version
agreed config answers acts each shows version shown is same = record { acts = acts; shown = subst (IsShown config answers acts) (sym is) shown; same = same }

module _ (config : Configuration) (answers : List (List Answered)) (first heard went last : FeedState) (seen : List Act)
    (hears : HasLearned [] first heard) (tells : BeginAll heard.reader.told answers) (goes : IsRefreshed heard went) (place : place_of last ≡ place_of went)
    (handed_back : seen ≡ last.reader.seen) where
  pub seen_is : last.acts ≡ seen
  seen_is = ap (λ (p : Place). p.acts) place ∙ (ap (λ (f : FeedState). f.acts) goes.same ∙ (sym (ap (λ (p : Place). p.seen) place) ∙ sym handed_back))

  same_given : watch_of last ≡ watch_of went → given_by last ≡ given_by (record first { acts = last.acts })
  same_given watch =
      let same : last.reader.config ≡ first.reader.config = ap (λ (w : Watch). w.config) watch ∙ (goes.reader.2 ∙ hears.config) in
      let began : last.began ≡ first.began = ap (λ (w : Watch). w.began) watch ∙ (ap (λ (f : FeedState). f.began) goes.same ∙ ap (λ (f : FeedState). f.began) hears.same) in
      let filters : last.filters ≡ first.filters = ap (λ (w : Watch). w.filters) watch ∙ (ap (λ (f : FeedState). f.filters) goes.same ∙ ap (λ (f : FeedState). f.filters) hears.same) in
      let options : last.options ≡ first.options = ap (λ (w : Watch). w.options) watch ∙ (ap (λ (f : FeedState). f.options) goes.same ∙ ap (λ (f : FeedState). f.options) hears.same) in
      ap (λ (c : Configuration). given c.history last.began last.acts last.filters last.options) same
      ∙ (ap (λ (acts : List Act). given first.reader.config.history acts last.acts last.filters last.options) began
      ∙ (ap (λ (fs : List (List ℕ)). given first.reader.config.history first.began last.acts fs last.options) filters
      ∙ ap (λ (o : Options). given first.reader.config.history first.began last.acts first.filters o) options))

  same_acts : last.acts ≡ went.acts
  same_acts = ap (λ (p : Place). p.acts) place

  pub ended : (before after : List Reply) (version : Stored) → StandsFor last.acts version × (version.config ≡ config)
      → IsPrefix heard.began heard.acts → heard.handed ≤ length (given_by heard) → watch_of last ≡ watch_of went
      → WritesDown (take went.handed (given_by went)) before (take last.handed (given_by last)) after
      → length (given_by last) - last.handed ≡ 0
      → IsEnded config answers first before seen version after
  ended before after version shows began within watch writes none = subst (λ (acts : List Act). IsEnded config answers first before acts version after) seen_is record {
    shown = subst (λ (acts : List Act). IsShown config answers acts version) (sym same_acts)
        (shown config answers heard went version tells goes (subst (λ (acts : List Act). StandsFor acts version) same_acts shows.0, shows.1));
    all = λ h.
        let e₁ : take heard.handed (given_by heard) ≡ take first.handed (given_by first) = same_handed first heard hears.config hears.same in
        let e₂ = went_on heard went began within goes in
        let h₂ : Are before (take went.handed (given_by went)) = h ∙ ap (map reply_to) (sym (e₂ ∙ e₁)) in
        writes h₂ ∙ ap (map reply_to) (take_all last.handed (given_by last) (omega (arith, none)) ∙ same_given watch);
  }

-- a watch was followed
pub followed : (before after : FeedState) (seen : List Reply) → watch_of after ≡ watch_of before
    → WritesDown (take before.handed (given_by before)) [] (take after.handed (given_by after)) seen → IsFollowed before after seen
followed before after seen watch writes = record {
  config = ap (λ (w : Watch). w.config) watch;
  began = ap (λ (w : Watch). w.began) watch;
  filters = ap (λ (w : Watch). w.filters) watch;
  options = ap (λ (w : Watch). w.options) watch;
  written = λ none. writes (rw none refl);
}
