-- What a batch keeps of a bucket that represents a state.
use Rattle.std.proofs.Common.{◌≡◌, ℕ, ◌+◌, ◌≤◌, false, List, [], ◌∷◌, ◌++◌, Some, Ok, length, map, refl, sym, ap, ◌∙◌, subst, arith}
use Rattle.kv_model.specs.Acts.{Act, Wrote, Write, writes_of, floor_of}
use Rattle.kv_model.specs.Batches.{IsRefusedAt, accept_all, after_all, after_batch}
use Rattle.kv_model.specs.Configuration.{Configuration}
use Rattle.kv_model.specs.Given.{is_behind}
use Rattle.kv_model.specs.Requests.{asked}
use Rattle.kv_model.specs.State.{State, Watch, open_at}
use Rattle.kv_model.specs.declared.batch.BatchRefused.{BatchRefused}
use Rattle.kv_model.specs.declared.request.Request.{Request}
use Rattle.kv_model.proofs.Batching.{after_more, after_none, as_many, first_number, none_stays}
use Rattle.kv_model.proofs.Storing.{floor_of-wrote, floor_within}
use Rattle.kv_store.specs.Batches.{Leaves}
use Rattle.kv_store.specs.Standing.{StandsFor}
use Rattle.kv_store.specs.Stored.{Stored}
use Rattle.kv_single.specs.Batches.{IsBatch}
use Rattle.kv_single.specs.Held.{Bucketed, Represents, held_at}
use Rattle.kv_single.proofs.Later.{later}
use Rattle.kv_single.proofs.Representing.{held_later, none_behind_floor}

-- writes leave the floor where it is
floor_stays : (acts : List Act) (ws : List Write) → floor_of (after_all acts ws) ≡ floor_of acts
floor_stays acts [] = ap floor_of (after_none acts)
floor_stays acts (w ∷ ws) = ap floor_of (sym (after_more acts w ws)) ∙ (floor_stays (acts ++ Wrote w ∷ []) ws ∙ floor_of-wrote acts w)

pub represents_all : (state : State) (bucket : Bucketed) (ws : List Write) (version : Stored) → Represents state bucket → version.config ≡ bucket.version.config → StandsFor (after_all state.acts ws) version
    → Represents (after_batch state (Ok ws)) (record bucket { version = version })
represents_all state bucket ws version r same stands =
    let floor : version.floor ≡ bucket.version.floor = stands.floor ∙ floor_stays state.acts ws ∙ sym r.version.floor in
    let low : version.floor ≤ length (writes_of state.acts) = omega (arith, floor, r.version.floor, floor_within bucket.version.config state.acts r.version.lawful) in
    let ahead : (number : ℕ) (w : Watch) → open_at number state ≡ Some w → is_behind version.floor w.handed state.config.history w.began state.acts w.filters w.options ≡ false =
    λ number w is. ap (λ f. is_behind f w.handed state.config.history w.began state.acts w.filters w.options) floor ∙ none_behind_floor state bucket r number w is in
    record {
      config = same ∙ r.config;
      version = stands;
      opened = r.opened;
      held = λ n. held_later later state.config.history state.acts (after_all state.acts ws) bucket.version version (held_at n bucket.watches) (open_at n state) (ap (λ (c : Configuration). c.history) r.config) stands (map Wrote ws, refl) same low (ahead n) (r.held n);
      once = r.once;
      open_count = r.open_count;
    }

-- a batch that was accepted
pub batch_done : (bucket : Bucketed) (requests : List Request) (first : Request) (rest : List Request) (version : Stored) (revision : ℕ) → requests ≡ first ∷ rest → version.config ≡ bucket.version.config
    → Leaves (asked first ∷ map asked rest) bucket.version version → ((acts : List Act) → StandsFor acts bucket.version → revision ≡ length (writes_of acts) + 1) → IsBatch bucket requests revision (record bucket { version = version })
batch_done bucket requests first rest version revision split same leaves number = λ state r.
    let all = asked first ∷ map asked rest in
    let wrote = leaves state.acts r.version in
    let ws = wrote.0 in
    let is : accept_all state.config all state.acts ≡ Ok ws = ap (λ (c : Configuration). accept_all c all state.acts) (sym r.config) ∙ wrote.1.0 in
    let some : ws ≡ [] → ⊥ = λ e. omega (arith, as_many state.config all state.acts ws is, ap (λ (us : List Write). length us) e) in (
      ws,
      (
        ap (λ (rs : List Request). accept_all state.config (map asked rs) state.acts) split ∙ is,
        (
          number state.acts r.version ∙ sym (first_number state.config all state.acts ws is some),
          represents_all state bucket ws version r same wrote.1.1,
        ),
      ),
    )

-- one of no requests
pub none_done : (bucket : Bucketed) (requests : List Request) (revision : ℕ) → requests ≡ [] → ((acts : List Act) → StandsFor acts bucket.version → revision ≡ length (writes_of acts)) → IsBatch bucket requests revision bucket
none_done bucket requests revision none number = λ state r. (
  [],
  (
    ap (λ (rs : List Request). accept_all state.config (map asked rs) state.acts) none,
    (number state.acts r.version, subst (λ (s : State). Represents s bucket) (sym (none_stays state)) r),
  ),
)

-- one that was refused
pub batch_refused : (bucket : Bucketed) (requests : List Request) (first : Request) (rest : List Request) (refused : BatchRefused) → requests ≡ first ∷ rest
    → ((acts : List Act) → StandsFor acts bucket.version → IsRefusedAt bucket.version.config (asked first ∷ map asked rest) acts refused) → (state : State) → Represents state bucket → IsRefusedAt state.config (map asked requests) state.acts refused
batch_refused bucket requests first rest refused split why = λ state r.
    subst (λ (rs : List Request). IsRefusedAt state.config (map asked rs) state.acts refused) (sym split)
    (subst (λ (c : Configuration). IsRefusedAt c (asked first ∷ map asked rest) state.acts refused) r.config (why state.acts r.version))
