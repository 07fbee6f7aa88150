-- What a batch makes of what lies under the lock.
use Rattle.std.proofs.Common.{◌≡◌, ℕ, suc, ◌+◌, ◌<◌, ◌≤◌, ◌^◌, ◌⊎◌, ⊎_elim, inl, inr, List, [], ◌∷◌, ◌++◌, Ok, length, map, take, refl, sym, ap, ◌∙◌, subst, arith, length-append}
use Rattle.std.proofs.Math.Seq.{take-append_seam}
use Rattle.std.proofs.lemmas.List.{take-map}
use Rattle.kv_keys.specs.declared.error.KvError.{KvError}
use Rattle.kv_keys.specs.declared.error.KvError.TheVariants.{OutOfMemory}
use Rattle.kv_model.specs.Acceptance.{accept}
use Rattle.kv_model.specs.Acts.{Act, Wrote, Write, IsPrefix, writes_of}
use Rattle.kv_model.specs.Batches.{IsRefusedAt, accept_all, after_all, after_batch, first_revision}
use Rattle.kv_model.specs.Configuration.{Configuration}
use Rattle.kv_model.specs.Requests.{Asked, asked, write_for}
use Rattle.kv_model.specs.State.{State}
use Rattle.kv_model.specs.declared.batch.BatchRefused.{BatchRefused}
use Rattle.kv_model.specs.declared.call.Call.{Call}
use Rattle.kv_model.specs.declared.call.Call.TheVariants as calls
use Rattle.kv_model.specs.declared.request.Request.{Request}
use Rattle.kv_model.proofs.Batching.{accept_take, after_none, as_many, batch_runs, memory_at, none_stays, refused_at, rest_of, split_ok}
use Rattle.kv_model.proofs.Numbered.{accepted_is_next, writes_of-wrote}
use Rattle.kv_publish.specs.Openings.{Opening}
use Rattle.kv_publish.specs.Steps.{acts_from}
use Rattle.kv_publish.proofs.Prefixes.{prefix_trans}
use Rattle.kv_store.specs.Batches.{Leaves, LeavesEach}
use Rattle.kv_store.specs.Standing.{StandsFor}
use Rattle.kv_store.specs.Stored.{Stored}
use Rattle.kv_single.specs.Batches.{IsBatch, LeadThere}
use Rattle.kv_single.specs.Held.{Bucketed, Represents}
use Rattle.kv_single.proofs.Batching.{batch_done, batch_refused}
use Rattle.kv_bucket.specs.Batches.{ComeNext, IsKeptBatch, PublishesAll, ReadyBatch, WritesAllSomewhere, RefusedAllSomewhere}
use Rattle.kv_bucket.specs.Histories.{IsPublishedHistory}
use Rattle.kv_bucket.specs.Keeping.{KeeperState, kept_of, kept_with, IsAt, IsSomewhere, state_of}
use Rattle.kv_bucket.specs.inside.Beginnings.{HasBeginnings}
use Rattle.kv_bucket.proofs.Histories.{lawful_under}
use Rattle.kv_bucket.proofs.Keeping.{published_stands, same_config}
use Rattle.kv_bucket.proofs.Somewhere.{lawful_there}

-- ---- histories

split_prefix : {A : Type 0} (xs ys zs : List A) → IsPrefix xs (ys ++ zs) → IsPrefix xs ys ⊎ ((more : List A) × (IsPrefix more zs × (xs ≡ ys ++ more)))
split_prefix xs [] zs p = inr (xs, (p, refl))
split_prefix [] (y ∷ ys) zs p = inl (y ∷ ys, refl)
split_prefix {A} (x ∷ xs) (y ∷ ys) zs p =
    let head : x ≡ y = cc (p.1) in
    ⊎_elim (λ (q : IsPrefix xs ys). inl (q.0, cc (head, q.1)))
    (λ (q : (more : List A) × (IsPrefix more zs × (xs ≡ ys ++ more))). inr (q.0, (q.1.0, cc (head, q.1.1))))
    (split_prefix xs ys zs (p.0, cc (p.1)))

-- several acts more need a version for each of their beginnings
pub goes_on_by_all : (opening : Opening) (acts more : List Act) (version : Stored) → IsPublishedHistory opening acts → version.config ≡ opening.config → StandsFor (acts ++ more) version → HasBeginnings opening.config acts more → IsPublishedHistory opening (acts ++ more)
goes_on_by_all opening acts more version before same stands each = record {
  lawful = lawful_under opening.config (acts ++ more) version same stands;
  begins = prefix_trans opening.book.began acts (acts ++ more) before.begins (more, refl);
  versions = λ beginning from p. ⊎_elim
      (λ (q : IsPrefix beginning acts). before.versions beginning from q)
      (λ (q : (part : List Act) × (IsPrefix part more × (beginning ≡ acts ++ part))).
      let there = each q.0 q.1.0 in (there.0, (there.1.0, subst (λ (l : List Act). StandsFor l there.0) (sym q.1.1) there.1.1)))
      (split_prefix beginning acts more p);
}

prefix_is_take : {A : Type 0} (xs ys : List A) → IsPrefix xs ys → take (length xs) ys ≡ xs
prefix_is_take xs ys p = ap (take (length xs)) (sym p.1) ∙ take-append_seam xs p.0

-- ---- the writes of a batch are those for its requests

pub all_from : (config : Configuration) (requests : List Request) (acts : List Act) (ws : List Write) → accept_all config (map asked requests) acts ≡ Ok ws → acts_from (length (writes_of acts) + 1) requests ≡ map Wrote ws
all_from config [] acts ws h = let none : [] ≡ ws = cc in ap (map Wrote) none
all_from config (r ∷ rs) acts ws h =
    let one = split_ok (accept config (asked r) acts) (rest_of config (map asked rs) acts) ws h in
    let w = one.0 in
    let first : write_for (asked r) (length (writes_of acts) + 1) ≡ w = accepted_is_next config (asked r) acts w one.2 in
    let total : length (writes_of (acts ++ Wrote w ∷ [])) ≡ length (writes_of acts) + 1 = ap length (writes_of-wrote acts w) ∙ length-append (writes_of acts) (w ∷ []) in
    let rest : acts_from (length (writes_of acts) + 1 + 1) rs ≡ map Wrote one.1 = ap (λ n. acts_from (n + 1) rs) (sym total) ∙ all_from config rs (acts ++ Wrote w ∷ []) one.1 one.3 in
    ap (λ (v : Write). Wrote v ∷ acts_from (length (writes_of acts) + 1 + 1) rs) first ∙ (ap (λ (more : List Act). Wrote w ∷ more) rest ∙ ap (map Wrote) (sym one.4))

module _ (config : Configuration) (was : Bucketed) (before : List Act) (requests : List Request) (first : Request) (rest : List Request) (next : Stored) (revision : ℕ)
    (some : IsSomewhere config (kept_of was before)) (seen : Stored) (value : seen ≡ was.version) (split : requests ≡ first ∷ rest) (same_seen : next.config ≡ seen.config)
    (leaves_seen : Leaves (asked first ∷ map asked rest) seen next) (number_seen : (acts : List Act) → StandsFor acts seen → revision ≡ length (writes_of acts) + 1)
    (each_seen : LeavesEach (asked first ∷ map asked rest) (length rest + 1) seen) where
  abbrev all : List Asked
  all = map asked requests

  same : next.config ≡ was.version.config
  same = same_seen ∙ ap (λ (v : Stored). v.config) value

  leaves : Leaves (asked first ∷ map asked rest) was.version next
  leaves = subst (λ (v : Stored). Leaves (asked first ∷ map asked rest) v next) value leaves_seen

  number : (acts : List Act) → StandsFor acts was.version → revision ≡ length (writes_of acts) + 1
  number = subst (λ (v : Stored). (acts : List Act) → StandsFor acts v → revision ≡ length (writes_of acts) + 1) value number_seen

  each : LeavesEach (asked first ∷ map asked rest) (length rest + 1) was.version
  each = subst (LeavesEach (asked first ∷ map asked rest) (length rest + 1)) value each_seen

  abbrev old : KeeperState
  old = kept_of was before

  stands_before : StandsFor before was.version
  stands_before = published_stands config old some

  pub next_config : next.config ≡ config
  next_config = same ∙ same_config config old some

  wrote : (ws : List Write) × ((accept_all was.version.config (asked first ∷ map asked rest) before ≡ Ok ws) × StandsFor (after_all before ws) next)
  wrote = leaves before stands_before

  abbrev ws : List Write
  ws = wrote.0

  accepted : accept_all was.version.config all before ≡ Ok ws
  accepted = ap (λ (rs : List Request). accept_all was.version.config (map asked rs) before) split ∙ wrote.1.0

  acts_are : acts_from revision requests ≡ map Wrote ws
  acts_are = ap (λ n. acts_from n requests) (number before stands_before) ∙ all_from was.version.config requests before ws accepted

  pub stands_after : StandsFor (before ++ acts_from revision requests) next
  stands_after = subst (λ (more : List Act). StandsFor (before ++ more) next) (sym acts_are) wrote.1.1

  as_long : length ws ≡ length rest + 1
  as_long = let n = as_many was.version.config (asked first ∷ map asked rest) before ws wrote.1.0 in omega (arith, n, length_map rest)
    where
      length_map : (rs : List Request) → length (map asked rs) ≡ length rs
      length_map [] = refl
      length_map (r ∷ rs) = ap suc (length_map rs)

  beginnings : HasBeginnings config before (map Wrote ws)
  beginnings = λ part p.
      let k = length part in
      let is : part ≡ map Wrote (take k ws) = sym (prefix_is_take part (map Wrote ws) p) ∙ take-map Wrote k ws in
      let few : k ≤ length rest + 1 = omega (arith, as_long, sym (ap length p.1) ∙ length-append part p.0, length_wrote ws) in
      let there = each k few in
      let part_of = there.1.1 before stands_before in
      let same_part : Ok part_of.0 ≡ Ok (take k ws) = sym part_of.1.0 ∙ accept_take was.version.config (asked first ∷ map asked rest) before ws k wrote.1.0 in
      let are : part_of.0 ≡ take k ws = cc in (
        there.0,
        (
          there.1.0 ∙ same_config config old some,
          subst (λ (more : List Act). StandsFor (before ++ more) there.0) (ap (map Wrote) are ∙ sym is) part_of.1.1,
        ),
      )
    where
      length_wrote : (us : List Write) → length (map Wrote us) ≡ length us
      length_wrote [] = refl
      length_wrote (u ∷ us) = ap suc (length_wrote us)

  pub has_beginnings : HasBeginnings config before (acts_from revision requests)
  has_beginnings = subst (HasBeginnings config before) (sym acts_are) beginnings

  pub leads : (cs : List Call) × LeadThere cs was (record was { version = next })
  leads = (
    map calls.Write requests,
    λ state r.
        let done = batch_done was requests first rest next revision split same leaves number state r in
        subst (λ (s : State). Represents s (record was { version = next })) (sym (batch_runs state requests done.0 done.1.0)) done.1.1.1,
  )

  -- what was kept
  pub batch_kept : (now : KeeperState) (bucket : Bucketed) (posted : List Act) → old ≡ now → (posted ≡ before ++ acts_from revision requests) × (bucket ≡ record was { version = next })
      → IsSomewhere config (kept_of bucket posted) × (IsKeptBatch now requests revision (kept_of bucket posted) × PublishesAll config all revision now.published posted)
  batch_kept now bucket posted is kept =
      let at_after : (state : State) → IsAt state old → (us : List Write) × ((accept_all state.config all state.acts ≡ Ok us) × ((revision ≡ first_revision state.acts us) × IsAt (after_batch state (Ok us)) (kept_of bucket posted))) =
      λ state at.
      let done = batch_done was requests first rest next revision split same leaves number state at.represents in
      let us = done.0 in
      let acts : acts_from revision requests ≡ map Wrote us = ap (λ n. acts_from n requests) (number state.acts at.represents.version) ∙ all_from state.config requests state.acts us done.1.0 in
      let shown : posted ≡ after_all state.acts us = kept.0 ∙ (ap (λ (l : List Act). l ++ acts_from revision requests) at.published ∙ ap (λ (l : List Act). state.acts ++ l) acts) in
      (us, (done.1.0, (done.1.1.0, record { represents = subst (Represents (after_batch state (Ok us))) (sym kept.1) done.1.1.1; published = shown }))) in
      let state = state_of config before some.0 in
      let there = at_after state some.1 in
      let shown : posted ≡ after_all before there.0 = there.1.1.1.published in (
        (some.0, subst (λ (l : List Act). IsAt (state_of config l some.0) (kept_of bucket posted)) (sym shown) there.1.1.1),
        (
          subst (λ (k : KeeperState). IsKeptBatch k requests revision (kept_of bucket posted)) is at_after,
          subst (λ (k : KeeperState). PublishesAll config all revision k.published posted) is (there.0, (there.1.0, (there.1.1.0, shown))),
        ),
      )

  -- what was made, and may be published next
  abbrev pub MadeAll : KeeperState → ReadyBatch → Type 0
  MadeAll k r = (IsKeptBatch k requests r.first (kept_with k (acts_from r.first requests) r.version) × PublishesAll config all r.first k.published (k.published ++ acts_from r.first requests))
      × (ComeNext config k requests r × IsBatch k.bucket requests r.first (record k.bucket { version = r.version }))

  pub batch_made : (now : KeeperState) → old ≡ now → revision < 2 ^ 32 → (ready : ReadyBatch) → ready ≡ record { first = revision; version = next } → MadeAll now ready
  batch_made now is small ready made =
      let kept = batch_kept old (record was { version = next }) (before ++ acts_from revision requests) refl (refl, refl) in
      let comes : ComeNext config old requests (record { first = revision; version = next }) = record { small = small; leads = kept.0; each = has_beginnings; steps = leads } in
      let batch : IsBatch was requests revision (record was { version = next }) = batch_done was requests first rest next revision split same leaves number in
      let base : MadeAll old (record { first = revision; version = next }) = (kept.1, (comes, batch)) in
      subst (λ (k : KeeperState). MadeAll k ready) is (subst (MadeAll old) (sym made) base)

  -- want of memory while it is made
  pub memory_refused : (now : KeeperState) (refused : BatchRefused) → old ≡ now → refused ≡ refused_at (length rest) OutOfMemory → (state : State) → IsAt state now → IsRefusedAt state.config all state.acts refused
  memory_refused now refused is why state at =
      let there : IsAt state old = subst (IsAt state) (sym is) at in
      let done = batch_done was requests first rest next revision split same leaves number state there.represents in
      let many = as_many state.config all state.acts done.0 done.1.0 in
      let long : length rest < length all = subst (λ (rs : List Request). length rest < length (map asked rs)) (sym split) (last_within rest) in
      subst (IsRefusedAt state.config all state.acts) (sym why) (memory_at state.config all state.acts done.0 (length rest) done.1.0 long)
    where
      last_within : (rs : List Request) → length rs < length (asked first ∷ map asked rs)
      last_within [] = omega arith
      last_within (r ∷ rs) = let l = last_within rs in omega arith

-- a batch of no requests
none_of : {A : Type 0} (xs : List A) → length xs ≡ 0 → xs ≡ []
none_of [] e = refl
none_of (x ∷ xs) e = absurd (omega (arith, e))

pub none_kept : (config : Configuration) (was : Bucketed) (before : List Act) (requests : List Request) (revision : ℕ) (now : KeeperState) (seen : Stored) → IsSomewhere config (kept_of was before) → kept_of was before ≡ now → seen ≡ was.version → length requests ≡ 0
    → ((acts : List Act) → StandsFor acts seen → revision ≡ length (writes_of acts)) → IsKeptBatch now requests revision now × PublishesAll config (map asked requests) revision now.published now.published
none_kept config was before requests revision now seen some is value empty last_seen =
    let old : KeeperState = kept_of was before in
    let none : requests ≡ [] = none_of requests empty in
    let last : (acts : List Act) → StandsFor acts was.version → revision ≡ length (writes_of acts) = subst (λ (v : Stored). (acts : List Act) → StandsFor acts v → revision ≡ length (writes_of acts)) value last_seen in
    let at_after : IsKeptBatch old requests revision old = λ state at. (
      [],
      (
        ap (λ (rs : List Request). accept_all state.config (map asked rs) state.acts) none,
        (last state.acts at.represents.version, subst (λ (s : State). IsAt s old) (sym (none_stays state)) at),
      ),
    ) in
    let published : PublishesAll config (map asked requests) revision before before = (
      [],
      (
        ap (λ (rs : List Request). accept_all config (map asked rs) before) none,
        (last before (published_stands config old some), sym (after_none before)),
      ),
    ) in (
      subst (λ (k : KeeperState). IsKeptBatch k requests revision k) is at_after,
      subst (λ (k : KeeperState). PublishesAll config (map asked requests) revision k.published k.published) is published,
    )

-- a refusal is its place and its error
pub told_at : (refused : BatchRefused) (at : ℕ) (error : KvError) → refused.at ≡ at → refused.error ≡ error → refused ≡ refused_at at error
told_at refused at error here why = ap (λ n. refused_at n refused.error) here ∙ ap (refused_at at) why

-- a batch that is refused
pub batch_denied : (config : Configuration) (was : Bucketed) (before : List Act) (requests : List Request) (first : Request) (rest : List Request) (now : KeeperState) (refused : BatchRefused) (seen : Stored) → kept_of was before ≡ now → seen ≡ was.version → requests ≡ first ∷ rest
    → ((acts : List Act) → StandsFor acts seen → IsRefusedAt seen.config (asked first ∷ map asked rest) acts refused) → (state : State) → IsAt state now → IsRefusedAt state.config (map asked requests) state.acts refused
batch_denied config was before requests first rest now refused seen is value split why state at =
    let there : IsAt state (kept_of was before) = subst (IsAt state) (sym is) at in
    let own : (acts : List Act) → StandsFor acts was.version → IsRefusedAt was.version.config (asked first ∷ map asked rest) acts refused =
    subst (λ (v : Stored). (acts : List Act) → StandsFor acts v → IsRefusedAt v.config (asked first ∷ map asked rest) acts refused) value why in
    batch_refused was requests first rest refused split own state there.represents

-- ---- what the lock tells

pub all_somewhere : (config : Configuration) (old : KeeperState) (requests : List Asked) (first : ℕ) (later : List Act) → IsSomewhere config old → PublishesAll config requests first old.published later → WritesAllSomewhere config requests first later
all_somewhere config old requests first later some wrote = (old.published, (lawful_there config old some, wrote))

pub refused_all_somewhere : (config : Configuration) (old : KeeperState) (requests : List Asked) (refused : BatchRefused) → IsSomewhere config old → ((state : State) → IsAt state old → IsRefusedAt state.config requests state.acts refused) → RefusedAllSomewhere config requests refused
refused_all_somewhere config old requests refused some refuses = (old.published, (lawful_there config old some, refuses (state_of config old.published some.0) some.1))

-- ---- what is published next

pub all_each : (config : Configuration) (now : KeeperState) (was : Bucketed) (before : List Act) (requests : List Request) (ready : ReadyBatch) → kept_of was before ≡ now → ComeNext config now requests ready
    → (first : ℕ) → first ≡ ready.first → HasBeginnings config before (acts_from first requests)
all_each config now was before requests ready is comes first same =
    subst (λ n. HasBeginnings config before (acts_from n requests)) (sym same) (subst (λ (k : KeeperState). HasBeginnings config k.published (acts_from ready.first requests)) (sym is) comes.each)
