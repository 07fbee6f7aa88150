-- What the threads of a race did comes to what a race promises.
use Rattle.std.proofs.Common.{◌≡◌, ℕ, List, [], ◌∷◌, Result, Ok, Err, All, IfOk, map, take, sym, ap, subst, ◌∙◌}
use Rattle.std.specs.List.{AllZip}
use Rattle.std.proofs.lemmas.List.Elements.{All-head, All-tail}
use Rattle.std.proofs.lemmas.Simd.{map-map}
use Rattle.kv_keys.specs.declared.error.KvError.{KvError}
use Rattle.kv_model.specs.Acceptance.{IsLawful}
use Rattle.kv_model.specs.Acts.{Act, IsPrefix}
use Rattle.kv_model.specs.Configuration.{Configuration}
use Rattle.kv_model.specs.Requests.{Asked}
use Rattle.kv_store.specs.Stored.{Stored}
use Rattle.kv_model.specs.declared.options.Options.{Options}
use Rattle.kv_model.specs.Given.{given}
use Rattle.kv_single.specs.Replies.{answer_of}
use Rattle.kv_single.specs.declared.reply.Reply.{Reply}
use Rattle.kv_bucket.specs.FeedState.{FeedState, given_by}
use Rattle.kv_race.specs.Openings.{IsFresh}
use Rattle.kv_race.specs.Racing.{AreNumbered, EachReply, IsSeen, IsWritten, IsWatched, IsRaced}
use Rattle.kv_race.specs.Telling.{Answered, Begin, BeginAll, IsTold, IsFollowed, IsEnded, IsShown, HasLast, reply_of}
use Rattle.kv_race.specs.Watching.{Are, reply_to}
use Rattle.kv_race.proofs.Once.{told, told_once, told_stands}
use Rattle.kv_race.proofs.Zips.{zip_same, zip_trans, zip_map_left, zip_map_right, zip_unmap_right}

-- ---- the replies of one worker, and of all

seen_one : (config : Configuration) (acts : List Act) (filters : List (List ℕ)) (options : Options) → IsLawful config acts → (request : Asked) (answer : Answered)
    → IsTold config request answer → IfOk answer (λ t. IsPrefix t.1 acts) → IsSeen filters options (given config.history [] acts filters options) request (reply_of answer)
seen_one config acts filters options lawful request (Ok t) h p = told_once config.history request t.0 acts filters options (told config request t.0 h.0 t.1 acts h.1 p lawful)
seen_one config acts filters options lawful request (Err e) h p = tt

written_one : (config : Configuration) (acts : List Act) → IsLawful config acts → (request : Asked) (answer : Answered)
    → IsTold config request answer → IfOk answer (λ t. IsPrefix t.1 acts) → IsWritten config acts request (reply_of answer)
written_one config acts lawful request (Ok t) h p = told_stands request t.0 acts (told config request t.0 h.0 t.1 acts h.1 p lawful)
written_one config acts lawful request (Err e) h p = h

module _ (config : Configuration) (acts : List Act) (P : Asked → Result ℕ KvError → Type 0)
    (one : (request : Asked) (answer : Answered) → IsTold config request answer → IfOk answer (λ t. IsPrefix t.1 acts) → P request (reply_of answer)) where
  each : (requests : List Asked) (answers : List Answered) → AllZip (IsTold config) requests answers → Begin acts answers → AllZip P requests (map reply_of answers)
  each [] [] h b = tt
  each [] (a ∷ answers) h b = absurd h
  each (r ∷ requests) [] h b = absurd h
  each (r ∷ requests) (a ∷ answers) h b = (one r a h.0 (All-head (λ x. IfOk x (λ t. IsPrefix t.1 acts)) a answers b), each requests answers h.1 (All-tail (λ x. IfOk x (λ t. IsPrefix t.1 acts)) a answers b))

  each_all : (scripts : List (List Asked)) (answers : List (List Answered)) → AllZip (AllZip (IsTold config)) scripts answers → BeginAll acts answers → EachReply P scripts (map (map reply_of) answers)
  each_all [] [] h b = tt
  each_all [] (a ∷ answers) h b = absurd h
  each_all (s ∷ scripts) [] h b = absurd h
  each_all (s ∷ scripts) (a ∷ answers) h b = (each s a h.0 (All-head (λ some. Begin acts some) a answers b), each_all scripts answers h.1 (All-tail (λ some. Begin acts some) a answers b))

pub all_written : (config : Configuration) (acts : List Act) (scripts : List (List Asked)) (answers : List (List Answered)) → IsLawful config acts
    → AllZip (AllZip (IsTold config)) scripts answers → BeginAll acts answers → EachReply (IsWritten config acts) scripts (map (map reply_of) answers)
all_written config acts scripts answers lawful h b = each_all config acts (IsWritten config acts) (written_one config acts lawful) scripts answers h b

all_seen : (config : Configuration) (acts : List Act) (filters : List (List ℕ)) (options : Options) (scripts : List (List Asked)) (answers : List (List Answered)) → IsLawful config acts
    → AllZip (AllZip (IsTold config)) scripts answers → BeginAll acts answers → EachReply (IsSeen filters options (given config.history [] acts filters options)) scripts (map (map reply_of) answers)
all_seen config acts filters options scripts answers lawful h b =
    each_all config acts (IsSeen filters options (given config.history [] acts filters options)) (seen_one config acts filters options lawful) scripts answers h b

-- ---- the watches

lawful_shown : (config : Configuration) (answers : List (List Answered)) (acts : List Act) (version : Stored) → IsShown config answers acts version → IsLawful config acts
lawful_shown config answers acts version shows = subst (λ (c : Configuration). IsLawful c acts) shows.same_config shows.stands.lawful

module _ (config : Configuration) (acts : List Act) (scripts : List (List Asked)) (answers : List (List Answered)) (told_all : AllZip (AllZip (IsTold config)) scripts answers) {W E : Type 0} (feed_of : W → FeedState) (before_of : W → List Reply) (acts_of : E → List Act) (version_of : E → Stored) (seen_of : E → List Reply) where
  -- a watch that was followed from its beginning
  abbrev pub Begun : List (List ℕ) × Options → W → Type 0
  Begun watch w = ((feed_of w).reader.config ≡ config) × (((feed_of w).began ≡ []) × (((feed_of w).filters ≡ watch.0) × (((feed_of w).options ≡ watch.1) × Are (before_of w) (take (feed_of w).handed (given_by (feed_of w))))))

  begun : (watch : List (List ℕ) × Options) (feed : FeedState) (w : W) → IsFresh config watch feed → IsFollowed feed (feed_of w) (before_of w) → Begun watch w
  begun watch feed w fresh followed =
      (followed.config ∙ fresh.same_config, (followed.began ∙ fresh.began, (followed.filters ∙ fresh.filters, (followed.options ∙ fresh.options, followed.written fresh.handed))))

  ended : (watch : List (List ℕ) × Options) (w : W) (e : E) → Begun watch w → IsEnded config answers (feed_of w) (before_of w) acts (version_of e) (seen_of e) → IsWatched config acts scripts (map (map reply_of) answers) watch (map answer_of (seen_of e))
  ended watch w e b ends =
      let feed = feed_of w in
      let same : given_by (record feed { acts = acts }) ≡ given config.history [] acts watch.0 watch.1 =
      ap (λ (c : Configuration). given c.history feed.began acts feed.filters feed.options) b.0
      ∙ (ap (λ (began : List Act). given config.history began acts feed.filters feed.options) b.1.0
      ∙ (ap (λ (filters : List (List ℕ)). given config.history [] acts filters feed.options) b.1.1.0
      ∙ ap (λ (options : Options). given config.history [] acts watch.0 options) b.1.1.1.0)) in record {
        all = ends.all b.1.1.1.1 ∙ ap (map reply_to) same;
        once = all_seen config acts watch.0 watch.1 scripts answers (lawful_shown config answers acts (version_of e) ends.shown) told_all ends.shown.told;
      }

  pub all_watched : (watches : List (List (List ℕ) × Options)) (feeds : List FeedState) (ws : List W) (es : List E) → AllZip (IsFresh config) watches feeds
      → AllZip (λ feed w. IsFollowed feed (feed_of w) (before_of w)) feeds ws
      → AllZip (λ w e. IsEnded config answers (feed_of w) (before_of w) (acts_of e) (version_of e) (seen_of e)) ws es
      → All (λ seen. seen ≡ acts) (map acts_of es)
      → AllZip (IsWatched config acts scripts (map (map reply_of) answers)) watches (map (λ e. map answer_of (seen_of e)) es)
  all_watched watches feeds ws es fresh followed ends same =
      zip_map_right (IsWatched config acts scripts (map (map reply_of) answers)) (λ e. map answer_of (seen_of e)) watches es
      (zip_trans Begun (λ w e. IsEnded config answers (feed_of w) (before_of w) acts (version_of e) (seen_of e)) (λ watch e. IsWatched config acts scripts (map (map reply_of) answers) watch (map answer_of (seen_of e))) ended watches ws es
      (zip_trans (IsFresh config) (λ feed w. IsFollowed feed (feed_of w) (before_of w)) Begun begun watches feeds ws fresh followed)
      (zip_same (λ w e seen. IsEnded config answers (feed_of w) (before_of w) seen (version_of e) (seen_of e)) acts_of acts ws es ends same))

-- ---- all of it

replies_of_told : {A R : Type 0} (answers_of : A → List Answered) (replies_of : R → List (Result ℕ KvError)) (answers : List A) (replies : List R)
    → map replies_of replies ≡ map (λ some. map reply_of (answers_of some)) answers → map (map reply_of) (map answers_of answers) ≡ map replies_of replies
replies_of_told answers_of replies_of answers replies e = map-map (map reply_of) answers_of answers ∙ sym e

module _ (config : Configuration) {S A : Type 0} (script_of : S → List Asked) (answers_of : A → List Answered) where
  -- the answers of all workers, none of which lacked memory before it began
  told_scripts : (scripts : List S) (worked : List (Result A KvError)) (answers : List A)
      → AllZip (λ script one. IfOk one (λ some. AllZip (IsTold config) (script_of script) (answers_of some))) scripts worked → worked ≡ map Ok answers
      → AllZip (AllZip (IsTold config)) (map script_of scripts) (map answers_of answers)
  told_scripts scripts worked answers h e =
      let Fits : S → Result A KvError → Type 0 = λ script one. IfOk one (λ some. AllZip (IsTold config) (script_of script) (answers_of some)) in
      zip_map_left (AllZip (IsTold config)) script_of scripts (map answers_of answers)
      (zip_map_right (λ script some. AllZip (IsTold config) (script_of script) some) answers_of scripts answers
      (zip_unmap_right Fits Ok scripts answers (subst (λ (ones : List (Result A KvError)). AllZip Fits scripts ones) e h)))

  -- what the parts of a race did comes to what it promises
  pub raced : {R W E V : Type 0} (replies_of : R → List (Result ℕ KvError)) (feed_of : W → FeedState) (before_of : W → List Reply) (acts_of : E → List Act) (version_of : E → Stored) (seen_of : E → List Reply) (items_of : V → List Reply)
      (scripts : List S) (watches : List (List (List ℕ) × Options)) (feeds : List FeedState) (worked : List (Result A KvError)) (ws : List W) (answers : List A) (es : List E) (ss : List V) (version : Stored) (replies : List R)
      → AllZip (IsFresh config) watches feeds
      → AllZip (λ script one. IfOk one (λ some. AllZip (IsTold config) (script_of script) (answers_of some))) scripts worked → worked ≡ map Ok answers
      → AllZip (λ feed w. IsFollowed feed (feed_of w) (before_of w)) feeds ws
      → AllZip (λ w e. IsEnded config (map answers_of answers) (feed_of w) (before_of w) (acts_of e) (version_of e) (seen_of e)) ws es
      → HasLast config (map answers_of answers) (map acts_of es) version
      → AreNumbered (map replies_of replies) version.last
      → map replies_of replies ≡ map (λ some. map reply_of (answers_of some)) answers
      → map items_of ss ≡ map seen_of es
      → IsRaced config (map script_of scripts) watches (map replies_of replies) (map (λ s. map answer_of (items_of s)) ss) version
  raced replies_of feed_of before_of acts_of version_of seen_of items_of scripts watches feeds worked ws answers es ss version replies fresh fits all followed ends last numbered same saw =
      let told = told_scripts scripts worked answers fits all in
      let lawful : IsLawful config last.acts = lawful_shown config (map answers_of answers) last.acts version last.shown in
      let shown : map (λ e. map answer_of (seen_of e)) es ≡ map (λ s. map answer_of (items_of s)) ss =
      sym (map-map (map answer_of) seen_of es) ∙ (ap (map (map answer_of)) (sym saw) ∙ map-map (map answer_of) items_of ss) in
      let rs : List (List (Result ℕ KvError)) = map (map reply_of) (map answers_of answers) in
      let is : rs ≡ map replies_of replies = replies_of_told answers_of replies_of answers replies same in
      let saw_all : AllZip (IsWatched config last.acts (map script_of scripts) rs) watches (map (λ e. map answer_of (seen_of e)) es) =
      all_watched config last.acts (map script_of scripts) (map answers_of answers) told feed_of before_of acts_of version_of seen_of watches feeds ws es fresh followed ends last.same in record {
        same_config = last.shown.same_config;
        acts = last.acts;
        stands = last.shown.stands;
        numbered = subst (λ (n : ℕ). AreNumbered (map replies_of replies) n) last.shown.stands.last numbered;
        written = subst (λ (some : List (List (Result ℕ KvError))). EachReply (IsWritten config last.acts) (map script_of scripts) some) is
            (all_written config last.acts (map script_of scripts) (map answers_of answers) lawful told last.shown.told);
        watched = subst (λ (some : List (List (Result ℕ KvError))). AllZip (IsWatched config last.acts (map script_of scripts) some) watches (map (λ s. map answer_of (items_of s)) ss)) is
            (subst (λ (seen : List _). AllZip (IsWatched config last.acts (map script_of scripts) rs) watches seen) shown saw_all);
      }
