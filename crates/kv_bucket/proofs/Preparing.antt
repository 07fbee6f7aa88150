-- What is made for the value under the lock, and may be published next.
use Rattle.std.proofs.Common.{◌≡◌, ℕ, true, false, List, [], ◌∷◌, ◌++◌, Ok, refl, sym, subst}
use Rattle.kv_keys.specs.Outcome.{Refuses}
use Rattle.kv_keys.specs.declared.error.KvError.{KvError}
use Rattle.kv_model.specs.Acceptance.{accept}
use Rattle.kv_model.specs.Acts.{Act, Compact, Seal, Wrote, Write}
use Rattle.kv_model.specs.Answers.{Answer, Compacted, Revision, Sealed}
use Rattle.kv_model.specs.Compaction.{is_bad_floor}
use Rattle.kv_model.specs.Configuration.{Configuration}
use Rattle.kv_model.specs.Requests.{Asked, asked, write_for}
use Rattle.kv_model.specs.State.{State, may_compact}
use Rattle.kv_model.specs.declared.call.Call.{Call}
use Rattle.kv_model.specs.declared.call.Call.TheVariants as calls
use Rattle.kv_model.specs.declared.request.Request.{Request}
use Rattle.kv_single.specs.Held.{Bucketed, Represents}
use Rattle.kv_single.specs.Stepping.{IsStep}
use Rattle.kv_single.proofs.Acting.{compact_steps, seal_steps}
use Rattle.kv_store.specs.Standing.{StandsFor}
use Rattle.kv_store.specs.Stored.{Stored}
use Rattle.kv_bucket.specs.Keeping.{ComesNext, IsAt, IsKeptStep, IsSomewhere, KeeperState, PublishesWrite, Ready, kept_of, kept_with}
use Rattle.kv_bucket.proofs.Keeping.{compacts_kept, seals_kept, write_steps, writes_kept}

abbrev pub ready_of : Act → Stored → Ready
ready_of act version = record { act = act; version = version }

-- a call makes an act of a value, and it may be published next
abbrev pub Makes : Configuration → KeeperState → Call → Answer → Ready → Type 0
Makes config kept call answer ready = IsKeptStep kept call answer (kept_with kept (ready.act ∷ []) ready.version) × ComesNext config kept ready

-- a request is accepted behind all acts that the bucket's version stands for, under its configuration
abbrev pub Accepts : Request → KeeperState → Ready → Type 0
Accepts request kept ready = (ready.version.config ≡ kept.bucket.version.config)
    × ((acts : List Act) → StandsFor acts kept.bucket.version → (w : Write) × ((accept kept.bucket.version.config (asked request) acts ≡ Ok w) × StandsFor (acts ++ Wrote w ∷ []) ready.version))

module _ (config : Configuration) (now : KeeperState) (was : Bucketed) (before : List Act) (is : kept_of was before ≡ now) (some : IsSomewhere config (kept_of was before)) where
  pub write_made : (request : Request) (act : Act) (revision : ℕ) (seen version : Stored) → seen ≡ was.version → version.config ≡ seen.config
      → ((acts : List Act) → StandsFor acts seen → (w : Write) × ((accept seen.config (asked request) acts ≡ Ok w) × StandsFor (acts ++ Wrote w ∷ []) version))
      → act ≡ Wrote (write_for (asked request) revision) → revision ≡ version.last → (ready : Ready) → ready ≡ ready_of act version
      → (Makes config now (calls.Write request) (Revision ready.version.last) ready × PublishesWrite config (asked request) ready.version.last now.published (now.published ++ ready.act ∷ [])) × Accepts request now ready
  write_made request act revision seen version value same accepts told number ready made =
      let kept = writes_kept config (kept_of was before) was (record was { version = version }) before (before ++ act ∷ []) request act revision seen version refl some value same accepts told number (refl, refl) in
      let comes : ComesNext config (kept_of was before) (ready_of act version) = record {
        leads = kept.0;
        step = (calls.Write request, (Revision revision, write_steps was request revision seen version value same accepts number));
      } in
      let own : Accepts request (kept_of was before) (ready_of act version) =
      subst (λ (v : Stored). (version.config ≡ v.config) × ((acts : List Act) → StandsFor acts v → (w : Write) × ((accept v.config (asked request) acts ≡ Ok w) × StandsFor (acts ++ Wrote w ∷ []) version))) value (same, accepts) in
      let all : (kept : KeeperState) (r : Ready) (n : ℕ) → Type 0 =
      λ kept r n. (Makes config kept (calls.Write request) (Revision n) r × PublishesWrite config (asked request) n kept.published (kept.published ++ r.act ∷ [])) × Accepts request kept r in
      let base : all (kept_of was before) (ready_of act version) revision = (((kept.1.0, comes), kept.1.1), own) in
      subst (λ (k : KeeperState). all k ready ready.version.last) is
      (subst (λ (r : Ready). all (kept_of was before) r r.version.last) (sym made) (subst (all (kept_of was before) (ready_of act version)) number base))

  pub seal_made : (act : Act) (seen version : Stored) → seen ≡ was.version → version ≡ record seen { sealed = true } → ((acts : List Act) → StandsFor acts seen → StandsFor (acts ++ Seal ∷ []) version) → act ≡ Seal
      → (ready : Ready) → ready ≡ ready_of act version → (ready.act ≡ Seal) × (Makes config now calls.Seal Sealed ready × IsStep now.bucket calls.Seal Sealed (record now.bucket { version = ready.version }))
  seal_made act seen version value sealed stands told ready made =
      let kept = seals_kept config (kept_of was before) was (record was { version = version }) before (before ++ act ∷ []) act seen version refl some value sealed stands told (refl, refl) in
      let comes : ComesNext config (kept_of was before) (ready_of act version) = record {
        leads = kept.0;
        step = (calls.Seal, (Sealed, seal_steps was seen version value sealed stands));
      } in
      let all : (kept : KeeperState) (r : Ready) → Type 0 = λ kept r. (r.act ≡ Seal) × (Makes config kept calls.Seal Sealed r × IsStep kept.bucket calls.Seal Sealed (record kept.bucket { version = r.version })) in
      let base : all (kept_of was before) (ready_of act version) = (told, ((kept.1, comes), seal_steps was seen version value sealed stands)) in
      subst (λ (k : KeeperState). all k ready) is (subst (all (kept_of was before)) (sym made) base)

  pub compaction_made : (floor : ℕ) (act : Act) (seen version : Stored) → seen ≡ was.version → version.config ≡ seen.config
      → ((acts : List Act) → StandsFor acts seen → (is_bad_floor floor acts ≡ false) × StandsFor (acts ++ Compact floor ∷ []) version)
      → ((state : State) → Represents state was → may_compact floor state ≡ Ok floor) → act ≡ Compact floor
      → (ready : Ready) → ready ≡ ready_of act version → (ready.act ≡ Compact floor) × (Makes config now (calls.Compact floor) (Compacted floor) ready × IsStep now.bucket (calls.Compact floor) (Compacted floor) (record now.bucket { version = ready.version }))
  compaction_made floor act seen version value same stands may told ready made =
      let kept = compacts_kept config (kept_of was before) was (record was { version = version }) before (before ++ act ∷ []) floor act seen version refl some value same stands may told (refl, refl) in
      let comes : ComesNext config (kept_of was before) (ready_of act version) = record {
        leads = kept.0;
        step = (calls.Compact floor, (Compacted floor, compact_steps was floor seen version value same stands may));
      } in
      let all : (kept : KeeperState) (r : Ready) → Type 0 =
      λ kept r. (r.act ≡ Compact floor) × (Makes config kept (calls.Compact floor) (Compacted floor) r × IsStep kept.bucket (calls.Compact floor) (Compacted floor) (record kept.bucket { version = r.version })) in
      let base : all (kept_of was before) (ready_of act version) = (told, ((kept.1, comes), compact_steps was floor seen version value same stands may)) in
      subst (λ (k : KeeperState). all k ready) is (subst (all (kept_of was before)) (sym made) base)

-- what the version refuses is refused
pub write_refused : (config : Configuration) (now : KeeperState) (was : Bucketed) (before : List Act) (request : Asked) (error : KvError) (seen : Stored) → kept_of was before ≡ now → seen ≡ was.version
    → ((acts : List Act) → StandsFor acts seen → Refuses error (accept seen.config request acts)) → (state : State) → IsAt state now → Refuses error (accept state.config request state.acts)
write_refused config now was before request error seen is value refuses state at =
    let there : IsAt state (kept_of was before) = subst (IsAt state) (sym is) at in
    let own : (acts : List Act) → StandsFor acts was.version → Refuses error (accept was.version.config request acts) =
    subst (λ (v : Stored). (acts : List Act) → StandsFor acts v → Refuses error (accept v.config request acts)) value refuses in
    subst (λ (c : Configuration). Refuses error (accept c request state.acts)) there.represents.config (own state.acts there.represents.version)
