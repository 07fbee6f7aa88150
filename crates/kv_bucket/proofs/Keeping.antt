-- What an act and a quiet call make of what lies under the lock.
use Rattle.std.proofs.Common.{◌≡◌, ℕ, ◌+◌, true, false, cond, List, [], ◌∷◌, ◌++◌, Option, Some, None, Result, Ok, Err, length, refl, sym, ap, ◌∙◌, subst, length-append}
use Rattle.std.specs.Prelude.{IfOk, IfErr, OnErr, MatchResult}
use Rattle.kv_keys.specs.declared.error.KvError.{KvError}
use Rattle.kv_model.specs.Acceptance.{accept}
use Rattle.kv_model.specs.Acts.{Act, Wrote, Seal, Compact, Write, writes_of, is_compaction}
use Rattle.kv_model.specs.Compaction.{is_bad_floor}
use Rattle.kv_model.specs.Configuration.{Configuration}
use Rattle.kv_model.specs.Requests.{Asked, asked, write_for}
use Rattle.kv_model.specs.declared.request.Request.{Request}
use Rattle.kv_store.specs.Standing.{StandsFor}
use Rattle.kv_store.specs.Stored.{Stored}
use Rattle.kv_model.proofs.Numbered.{accepted_is_next, writes_of-wrote}
use Rattle.kv_model.proofs.Storing.{floor_of-compact}
use Rattle.kv_model.specs.declared.options.Options.{Options}
use Rattle.kv_model.specs.Given.{Item}
use Rattle.kv_model.specs.declared.call.Call.{Call}
use Rattle.kv_model.specs.declared.call.Call.TheVariants as calls
use Rattle.kv_model.specs.Answers.{Answer, Revision, Sealed, Compacted, Refused}
use Rattle.kv_single.specs.Held.{Bucketed, Represents}
use Rattle.kv_bucket.specs.Keeping.{KeeperState, kept_of, IsAt, state_of, IsSomewhere, IsKeptStep, PublishesWrite}
use Rattle.kv_model.specs.State.{State, Watch, add_act, add_watch, opened, open_at, has_room, next_of, after, after_write, after_stop, after_item, after_take, after_compact, answer_to, answer_write, may_compact}
use Rattle.kv_single.specs.Stepping.{IsStep}
use Rattle.kv_single.proofs.Answering.{write_done}
use Rattle.kv_single.proofs.Later.{later}
use Rattle.kv_single.proofs.Least.{compact_done}
use Rattle.kv_single.proofs.Representing.{represents_act}

-- the value under the lock after one more act, which the store shows
abbrev pub kept_after : KeeperState → Act → Stored → KeeperState
kept_after old act version = record { bucket = record old.bucket { version = version }; published = old.published ++ act ∷ [] }

abbrev pub posted_after : KeeperState → Act → List Act
posted_after old act = old.published ++ act ∷ []

pub kept_same : (old : KeeperState) (bucket new : Bucketed) (act : Act) (version : Stored) (posted : List Act) → old.bucket ≡ bucket → posted ≡ posted_after old act → new ≡ record bucket { version = version }
    → kept_after old act version ≡ kept_of new posted
kept_same old bucket new act version posted is more put =
    ap (λ (b : Bucketed). kept_of (record b { version = version }) (posted_after old act)) is
    ∙ (ap (λ (b : Bucketed). kept_of b (posted_after old act)) (sym put)
    ∙ ap (λ (p : List Act). kept_of new p) (sym more))

-- the bucket with this version is at the state after the act
abbrev pub GoesOn : KeeperState → Act → Stored → Type 0
GoesOn old act version = (state : State) → IsAt state old → Represents (add_act act state) (record old.bucket { version = version })

-- so it is where the version stands for the acts with a write or a seal more
pub goes_on : (old : KeeperState) (act : Act) (version : Stored) → is_compaction act ≡ false → version.config ≡ old.bucket.version.config → StandsFor (old.published ++ act ∷ []) version → GoesOn old act version
goes_on old act version plain same stands = λ state at.
    represents_act later state old.bucket act version plain at.represents same (subst (λ (acts : List Act). StandsFor (acts ++ act ∷ []) version) at.published stands)

-- and where it stands for them with a compaction more, which the state allows
pub goes_on_compacted : (old : KeeperState) (floor : ℕ) (version : Stored) → ((state : State) → IsAt state old → may_compact floor state ≡ Ok floor) → version.config ≡ old.bucket.version.config
    → StandsFor (old.published ++ Compact floor ∷ []) version → GoesOn old (Compact floor) version
goes_on_compacted old floor version may same stands = λ state at.
    let own : StandsFor (state.acts ++ Compact floor ∷ []) version = subst (λ (acts : List Act). StandsFor (acts ++ Compact floor ∷ []) version) at.published stands in
    let done = compact_done state old.bucket floor version at.represents (may state at) same own (own.floor ∙ floor_of-compact state.acts floor) in
    subst (λ r. Represents (after_compact state r) (record old.bucket { version = version })) (may state at) done.1

pub at_act : (state : State) (old : KeeperState) (act : Act) (version : Stored) → GoesOn old act version → IsAt state old → IsAt (add_act act state) (kept_after old act version)
at_act state old act version on at = record {
  represents = on state at;
  published = ap (λ (acts : List Act). acts ++ act ∷ []) at.published;
}

-- a compaction that is made is one step
pub at_compact : (state : State) (old : KeeperState) (floor : ℕ) (version : Stored) → GoesOn old (Compact floor) version → may_compact floor state ≡ Ok floor → IsAt state old
    → (Compacted floor ≡ answer_to state (calls.Compact floor)) × IsAt (after state (calls.Compact floor)) (kept_after old (Compact floor) version)
at_compact state old floor version on may at = rw may (refl, at_act state old (Compact floor) version on at)

-- it is still at some state
pub somewhere_act : (config : Configuration) (old : KeeperState) (act : Act) (version : Stored) → GoesOn old act version → IsSomewhere config old → IsSomewhere config (kept_after old act version)
somewhere_act config old act version on some = (some.0, at_act (state_of config old.published some.0) old act version on some.1)

-- what is published stands for the bucket's version
pub published_stands : (config : Configuration) (old : KeeperState) → IsSomewhere config old → StandsFor old.published old.bucket.version
published_stands config old some = some.1.represents.version

pub same_config : (config : Configuration) (old : KeeperState) → IsSomewhere config old → old.bucket.version.config ≡ config
same_config config old some = some.1.represents.config

-- a write that was accepted is one step
pub at_write : (state : State) (old : KeeperState) (request : Asked) (w : Write) (version : Stored) (revision : ℕ) → IsAt state old → version.config ≡ old.bucket.version.config
    → ((acts : List Act) → StandsFor acts old.bucket.version → (w : Write) × ((accept old.bucket.version.config request acts ≡ Ok w) × StandsFor (acts ++ Wrote w ∷ []) version))
    → accept old.bucket.version.config request old.published ≡ Ok w → StandsFor (old.published ++ Wrote w ∷ []) version → revision ≡ version.last
    → (Revision revision ≡ answer_write (accept state.config request state.acts)) × IsAt (after_write state (accept state.config request state.acts)) (kept_after old (Wrote w) version)
at_write state old request w version revision at same ok accepted stands last =
    let is : accept state.config request state.acts ≡ Ok w =
    ap (λ (c : Configuration). accept c request state.acts) (sym at.represents.config) ∙ (ap (accept old.bucket.version.config request) (sym at.published) ∙ accepted) in
    let new : KeeperState = kept_after old (Wrote w) version in (
      (write_done state old.bucket request version revision at.represents same ok last).0,
      subst (λ r. IsAt (after_write state r) new) (sym is) (at_act state old (Wrote w) version (goes_on old (Wrote w) version refl same stands) at),
    )

-- ---- calls that accept nothing

-- a call keeps the configuration and the acts
abbrev pub IsQuiet : Call → Type 0
IsQuiet call = (state : State) → ((after state call).config ≡ state.config) × ((after state call).acts ≡ state.acts)

pub quiet_watch : (filters : List (List ℕ)) (options : Options) → IsQuiet (calls.Watch filters options)
quiet_watch filters options state =
    let wider : State = add_watch (opened filters options state) state in
    elim (has_room state) as (λ b. ((cond b wider state).config ≡ state.config) × ((cond b wider state).acts ≡ state.acts)) [ true ↦ (refl, refl) | false ↦ (refl, refl) ]

stop_quiet : (number : ℕ) (state : State) (watch : Option Watch) → ((after_stop number state watch).config ≡ state.config) × ((after_stop number state watch).acts ≡ state.acts)
stop_quiet number state None = (refl, refl)
stop_quiet number state (Some watch) = (refl, refl)

pub quiet_stop : (number : ℕ) → IsQuiet (calls.Stop number)
quiet_stop number state = stop_quiet number state (open_at number state)

item_quiet : (number : ℕ) (state : State) (watch : Watch) (item : Option Item) → ((after_item number state watch item).config ≡ state.config) × ((after_item number state watch item).acts ≡ state.acts)
item_quiet number state watch None = (refl, refl)
item_quiet number state watch (Some item) = (refl, refl)

take_quiet : (number : ℕ) (state : State) (watch : Option Watch) → ((after_take number state watch).config ≡ state.config) × ((after_take number state watch).acts ≡ state.acts)
take_quiet number state None = (refl, refl)
take_quiet number state (Some watch) = item_quiet number state watch (next_of state.config.history state.acts watch)

pub quiet_take : (number : ℕ) → IsQuiet (calls.Take number)
quiet_take number state = take_quiet number state (open_at number state)

-- such a call of the bucket is one step of what lies under the lock
pub step_quiet : (call : Call) (answer : Answer) (old : KeeperState) (bucket : Bucketed) → IsQuiet call → IsStep old.bucket call answer bucket → IsKeptStep old call answer (record old { bucket = bucket })
step_quiet call answer old bucket quiet step state at =
    let done = step state at.represents in
    (done.0, record { represents = done.1; published = at.published ∙ sym (quiet state).1 })

pub somewhere_quiet : {X : Type 0} (call : Call) (answer : X → Answer) (config : Configuration) (old : KeeperState) (bucket : Bucketed) (result : Result X KvError) → IsQuiet call → IsSomewhere config old
    → IfOk result (λ x. IsStep old.bucket call (answer x) bucket) → OnErr result (bucket ≡ old.bucket) → IsSomewhere config (record old { bucket = bucket })
somewhere_quiet call answer config old bucket (Ok x) quiet some ok err =
    let state : State = state_of config old.published some.0 in
    let to : State = after state call in
    let done = step_quiet call (answer x) old bucket quiet ok state some.1 in
    let same : to ≡ state_of config old.published to.watches =
    ap (λ (c : Configuration). let s : State = record { config = c; acts = to.acts; watches = to.watches } in s) (quiet state).0
    ∙ ap (λ (acts : List Act). let s : State = record { config = config; acts = acts; watches = to.watches } in s) (quiet state).1 in
    (to.watches, subst (λ (s : State). IsAt s (record old { bucket = bucket })) same done.1)
somewhere_quiet call answer config old bucket (Err error) quiet some ok err =
    subst (IsSomewhere config) (ap (λ (b : Bucketed). let k : KeeperState = record old { bucket = b } in k) (sym err)) some

pub somewhere_taken : {X : Type 0} (call : Call) (answer : X → Answer) (config : Configuration) (old : KeeperState) (bucket : Bucketed) (result : Result X KvError) → IsQuiet call → IsSomewhere config old
    → MatchResult result (λ x. IsStep old.bucket call (answer x) bucket) (λ e. bucket ≡ old.bucket) → IsSomewhere config (record old { bucket = bucket })
somewhere_taken call answer config old bucket (Ok x) quiet some h = somewhere_quiet call answer config old bucket (Ok x) quiet some h tt
somewhere_taken call answer config old bucket (Err e) quiet some h = somewhere_quiet call answer config old bucket (Err e) quiet some tt h

-- ---- what a write publishes

-- the revision of a version that has one write more is one more than there were writes before it
counts_on : (acts : List Act) (w : Write) (version : Stored) (revision : ℕ) → StandsFor (acts ++ Wrote w ∷ []) version → revision ≡ version.last → revision ≡ length (writes_of acts) + 1
counts_on acts w version revision stands last = last ∙ (stands.last ∙ (ap length (writes_of-wrote acts w) ∙ length-append (writes_of acts) (w ∷ [])))

pub publishes : (config : Configuration) (old : KeeperState) (request : Asked) (w : Write) (version : Stored) (revision : ℕ) (published : List Act) → IsSomewhere config old
    → accept old.bucket.version.config request old.published ≡ Ok w → StandsFor (old.published ++ Wrote w ∷ []) version → revision ≡ version.last → published ≡ old.published ++ Wrote w ∷ []
    → PublishesWrite config request revision old.published published
publishes config old request w version revision published some accepted stands last is =
    let number : w.revision ≡ length (writes_of old.published) + 1 = ap (λ (v : Write). v.revision) (sym (accepted_is_next old.bucket.version.config request old.published w accepted)) in
    (w, ((ap (λ (c : Configuration). accept c request old.published) (sym (same_config config old some)) ∙ accepted), number ∙ sym (counts_on old.published w version revision stands last), is))

-- ---- what an act that is kept makes of what lies under the lock

kept_put : (was bucket : Bucketed) (before posted : List Act) (act ghost_act : Act) (version : Stored) → ghost_act ≡ act → (posted ≡ before ++ ghost_act ∷ []) × (bucket ≡ record was { version = version }) → kept_after (kept_of was before) act version ≡ kept_of bucket posted
kept_put was bucket before posted act ghost_act version same kept = kept_same (kept_of was before) was bucket act version posted refl (kept.0 ∙ ap (posted_after (kept_of was before)) same) kept.1

kept_step : (call : Call) (answer : Answer) (old now next new : KeeperState) → old ≡ now → next ≡ new → IsKeptStep old call answer next → IsKeptStep now call answer new
kept_step call answer old now next new is put step = subst (λ (k : KeeperState). IsKeptStep k call answer new) is (subst (λ (k : KeeperState). IsKeptStep old call answer k) put step)

pub seals_kept : (config : Configuration) (now : KeeperState) (was bucket : Bucketed) (before posted : List Act) (ghost_act : Act) (seen version : Stored) → kept_of was before ≡ now → IsSomewhere config (kept_of was before) → seen ≡ was.version
    → version ≡ record seen { sealed = true } → ((acts : List Act) → StandsFor acts seen → StandsFor (acts ++ Seal ∷ []) version) → ghost_act ≡ Seal → (posted ≡ before ++ ghost_act ∷ []) × (bucket ≡ record was { version = version })
    → IsSomewhere config (kept_of bucket posted) × IsKeptStep now calls.Seal Sealed (kept_of bucket posted)
seals_kept config now was bucket before posted ghost_act seen version is some value sealed stands same kept =
    let old : KeeperState = kept_of was before in
    let put : kept_after old Seal version ≡ kept_of bucket posted = kept_put was bucket before posted Seal ghost_act version same kept in
    let own : version.config ≡ was.version.config = ap (λ (v : Stored). v.config) sealed ∙ ap (λ (v : Stored). v.config) value in
    let on : GoesOn old Seal version = goes_on old Seal version refl own (stands before (subst (StandsFor before) (sym value) (published_stands config old some))) in
    let step : IsKeptStep old calls.Seal Sealed (kept_after old Seal version) = λ state at. (refl, at_act state old Seal version on at) in (
      subst (IsSomewhere config) put (somewhere_act config old Seal version on some),
      kept_step calls.Seal Sealed old now (kept_after old Seal version) (kept_of bucket posted) is put step,
    )

pub compacts_kept : (config : Configuration) (now : KeeperState) (was bucket : Bucketed) (before posted : List Act) (floor : ℕ) (ghost_act : Act) (seen version : Stored) → kept_of was before ≡ now → IsSomewhere config (kept_of was before) → seen ≡ was.version
    → version.config ≡ seen.config → ((acts : List Act) → StandsFor acts seen → (is_bad_floor floor acts ≡ false) × StandsFor (acts ++ Compact floor ∷ []) version)
    → ((state : State) → Represents state was → may_compact floor state ≡ Ok floor) → ghost_act ≡ Compact floor → (posted ≡ before ++ ghost_act ∷ []) × (bucket ≡ record was { version = version })
    → IsSomewhere config (kept_of bucket posted) × IsKeptStep now (calls.Compact floor) (Compacted floor) (kept_of bucket posted)
compacts_kept config now was bucket before posted floor ghost_act seen version is some value same_config stands may same kept =
    let old : KeeperState = kept_of was before in
    let call : Call = calls.Compact floor in
    let put : kept_after old (Compact floor) version ≡ kept_of bucket posted = kept_put was bucket before posted (Compact floor) ghost_act version same kept in
    let own : version.config ≡ was.version.config = same_config ∙ ap (λ (v : Stored). v.config) value in
    let there : (state : State) → IsAt state old → may_compact floor state ≡ Ok floor = λ state at. may state at.represents in
    let on : GoesOn old (Compact floor) version = goes_on_compacted old floor version there own (stands before (subst (StandsFor before) (sym value) (published_stands config old some))).1 in
    let step : IsKeptStep old call (Compacted floor) (kept_after old (Compact floor) version) = λ state at. at_compact state old floor version on (there state at) at in (
      subst (IsSomewhere config) put (somewhere_act config old (Compact floor) version on some),
      kept_step call (Compacted floor) old now (kept_after old (Compact floor) version) (kept_of bucket posted) is put step,
    )

-- the write that is accepted is the one for the request at the revision of the version that has it
accepted_for : (config : Configuration) (request : Asked) (acts : List Act) (w : Write) (version : Stored) (revision : ℕ) → accept config request acts ≡ Ok w → StandsFor (acts ++ Wrote w ∷ []) version → revision ≡ version.last → Wrote (write_for request revision) ≡ Wrote w
accepted_for config request acts w version revision accepted stands number =
    ap (λ (r : ℕ). Wrote (write_for request r)) (counts_on acts w version revision stands number) ∙ ap Wrote (accepted_is_next config request acts w accepted)

pub wrote_stands : (config : Configuration) (was : Bucketed) (before : List Act) (request : Request) (ghost_act : Act) (revision : ℕ) (seen version : Stored) → IsSomewhere config (kept_of was before) → seen ≡ was.version
    → ((acts : List Act) → StandsFor acts seen → (w : Write) × ((accept seen.config (asked request) acts ≡ Ok w) × StandsFor (acts ++ Wrote w ∷ []) version))
    → ghost_act ≡ Wrote (write_for (asked request) revision) → revision ≡ version.last → StandsFor (before ++ ghost_act ∷ []) version
wrote_stands config was before request ghost_act revision seen version some value accepts told number =
    let accepted = accepts before (subst (StandsFor before) (sym value) (published_stands config (kept_of was before) some)) in
    let same = told ∙ accepted_for seen.config (asked request) before accepted.0 version revision accepted.1.0 accepted.1.1 number in
    subst (λ (act : Act). StandsFor (before ++ act ∷ []) version) (sym same) accepted.1.1

pub writes_kept : (config : Configuration) (now : KeeperState) (was bucket : Bucketed) (before posted : List Act) (request : Request) (ghost_act : Act) (revision : ℕ) (seen version : Stored) → kept_of was before ≡ now → IsSomewhere config (kept_of was before)
    → seen ≡ was.version → version.config ≡ seen.config
    → ((acts : List Act) → StandsFor acts seen → (w : Write) × ((accept seen.config (asked request) acts ≡ Ok w) × StandsFor (acts ++ Wrote w ∷ []) version))
    → ghost_act ≡ Wrote (write_for (asked request) revision) → revision ≡ version.last → (posted ≡ before ++ ghost_act ∷ []) × (bucket ≡ record was { version = version })
    → IsSomewhere config (kept_of bucket posted) × (IsKeptStep now (calls.Write request) (Revision revision) (kept_of bucket posted) × PublishesWrite config (asked request) revision now.published posted)
writes_kept config now was bucket before posted request ghost_act revision seen version is some value same_config accepts told number kept =
    let old : KeeperState = kept_of was before in
    let call : Call = calls.Write request in
    let ok : (acts : List Act) → StandsFor acts was.version → (w : Write) × ((accept was.version.config (asked request) acts ≡ Ok w) × StandsFor (acts ++ Wrote w ∷ []) version) =
    subst (λ (v : Stored). (acts : List Act) → StandsFor acts v → (w : Write) × ((accept v.config (asked request) acts ≡ Ok w) × StandsFor (acts ++ Wrote w ∷ []) version)) value accepts in
    let accepted = ok before (published_stands config old some) in
    let act : Act = Wrote accepted.0 in
    let same : ghost_act ≡ act = told ∙ accepted_for was.version.config (asked request) before accepted.0 version revision accepted.1.0 accepted.1.1 number in
    let put : kept_after old act version ≡ kept_of bucket posted = kept_put was bucket before posted act ghost_act version same kept in
    let own : version.config ≡ was.version.config = same_config ∙ ap (λ (v : Stored). v.config) value in
    let on : GoesOn old act version = goes_on old act version refl own accepted.1.1 in
    let step : IsKeptStep old call (Revision revision) (kept_after old act version) = λ state at. at_write state old (asked request) accepted.0 version revision at own ok accepted.1.0 accepted.1.1 number in
    let shown : posted ≡ before ++ act ∷ [] = kept.0 ∙ ap (posted_after old) same in (
      subst (IsSomewhere config) put (somewhere_act config old act version on some),
      (
        kept_step call (Revision revision) old now (kept_after old act version) (kept_of bucket posted) is put step,
        subst (λ (k : KeeperState). PublishesWrite config (asked request) revision k.published posted) is
            (publishes config old (asked request) accepted.0 version revision posted some accepted.1.0 accepted.1.1 number shown),
      ),
    )

-- ---- the same of calls that accept nothing

pub quiet_ok : {X : Type 0} (call : Call) (answer : X → Answer) (now : KeeperState) (was bucket : Bucketed) (before : List Act) (result : Result X KvError) → kept_of was before ≡ now → IsQuiet call
    → IfOk result (λ x. IsStep was call (answer x) bucket) → IfOk result (λ x. IsKeptStep now call (answer x) (kept_of bucket before))
quiet_ok call answer now was bucket before (Ok x) is quiet step = subst (λ (k : KeeperState). IsKeptStep k call (answer x) (kept_of bucket before)) is (step_quiet call (answer x) (kept_of was before) bucket quiet step)
quiet_ok call answer now was bucket before (Err error) is quiet step = tt

pub quiet_refused : {X : Type 0} (call : Call) (now : KeeperState) (was bucket : Bucketed) (before : List Act) (refusal : KvError) (result : Result X KvError) → kept_of was before ≡ now → IsQuiet call
    → IfErr result (λ e. (e ≡ refusal) × IsStep was call (Refused e) bucket) → IfErr result (λ e. (e ≡ refusal) × IsKeptStep now call (Refused e) (kept_of bucket before))
quiet_refused call now was bucket before refusal (Ok x) is quiet step = tt
quiet_refused call now was bucket before refusal (Err error) is quiet step = (step.0, subst (λ (k : KeeperState). IsKeptStep k call (Refused error) (kept_of bucket before)) is (step_quiet call (Refused error) (kept_of was before) bucket quiet step.1))

pub quiet_unchanged : {X : Type 0} (now : KeeperState) (was bucket : Bucketed) (before : List Act) (result : Result X KvError) → kept_of was before ≡ now → OnErr result (bucket ≡ was) → OnErr result (kept_of bucket before ≡ now)
quiet_unchanged now was bucket before (Ok x) is same = tt
quiet_unchanged now was bucket before (Err error) is same = ap (λ (b : Bucketed). kept_of b before) same ∙ is

pub quiet_taken : {X : Type 0} (call : Call) (answer : X → Answer) (now : KeeperState) (was bucket : Bucketed) (before : List Act) (result : Result X KvError) → kept_of was before ≡ now → IsQuiet call
    → MatchResult result (λ x. IsStep was call (answer x) bucket) (λ e. bucket ≡ was) → MatchResult result (λ x. IsKeptStep now call (answer x) (kept_of bucket before)) (λ e. kept_of bucket before ≡ now)
quiet_taken call answer now was bucket before (Ok x) is quiet step = quiet_ok call answer now was bucket before (Ok x) is quiet step
quiet_taken call answer now was bucket before (Err error) is quiet same = ap (λ (b : Bucketed). kept_of b before) same ∙ is

pub answers_ok : {X : Type 0} (call : Call) (answer : X → Answer) (now : KeeperState) (was : Bucketed) (before : List Act) (result : Result X KvError) → kept_of was before ≡ now
    → IfOk result (λ x. (state : State) → Represents state was → answer x ≡ answer_to state call) → IfOk result (λ x. (state : State) → IsAt state now → answer x ≡ answer_to state call)
answers_ok call answer now was before (Ok x) is answers = λ state at. answers state (subst (IsAt state) (sym is) at).represents
answers_ok call answer now was before (Err error) is answers = tt

pub answers_refused : {X : Type 0} (call : Call) (now : KeeperState) (was : Bucketed) (before : List Act) (refusal : KvError) (result : Result X KvError) → kept_of was before ≡ now
    → IfErr result (λ e. (e ≡ refusal) × ((state : State) → Represents state was → Refused e ≡ answer_to state call)) → IfErr result (λ e. (e ≡ refusal) × ((state : State) → IsAt state now → Refused e ≡ answer_to state call))
answers_refused call now was before refusal (Ok x) is answers = tt
answers_refused call now was before refusal (Err error) is answers = (answers.0, λ state at. answers.1 state (subst (IsAt state) (sym is) at).represents)

-- ---- a write of the bucket alone is one step

pub write_steps : (bucket : Bucketed) (request : Request) (revision : ℕ) (seen version : Stored) → seen ≡ bucket.version → version.config ≡ seen.config
    → ((acts : List Act) → StandsFor acts seen → (w : Write) × ((accept seen.config (asked request) acts ≡ Ok w) × StandsFor (acts ++ Wrote w ∷ []) version))
    → revision ≡ version.last → IsStep bucket (calls.Write request) (Revision revision) (record bucket { version = version })
write_steps bucket request revision seen version value same accepts number = λ state r.
    let ok : (acts : List Act) → StandsFor acts bucket.version → (w : Write) × ((accept bucket.version.config (asked request) acts ≡ Ok w) × StandsFor (acts ++ Wrote w ∷ []) version) =
    subst (λ (v : Stored). (acts : List Act) → StandsFor acts v → (w : Write) × ((accept v.config (asked request) acts ≡ Ok w) × StandsFor (acts ++ Wrote w ∷ []) version)) value accepts in
    write_done state bucket (asked request) version revision r (same ∙ ap (λ (v : Stored). v.config) value) ok number
