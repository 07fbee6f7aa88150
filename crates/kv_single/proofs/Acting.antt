-- A seal and a compaction of a bucket's version are one step of the model.
use Rattle.std.proofs.Common.{◌≡◌, ℕ, true, false, List, [], ◌∷◌, ◌++◌, Ok, refl, sym, ap, ◌∙◌, subst}
use Rattle.kv_model.specs.Acts.{Act, Seal, Compact}
use Rattle.kv_model.specs.Answers.{Compacted, Sealed}
use Rattle.kv_model.specs.Compaction.{is_bad_floor}
use Rattle.kv_model.specs.State.{State, may_compact}
use Rattle.kv_model.specs.declared.call.Call.TheVariants as calls
use Rattle.kv_model.proofs.Storing.{floor_of-compact}
use Rattle.kv_store.specs.Standing.{StandsFor}
use Rattle.kv_store.specs.Stored.{Stored}
use Rattle.kv_single.specs.Held.{Bucketed, Represents}
use Rattle.kv_single.specs.Stepping.{IsStep}
use Rattle.kv_single.proofs.Later.{later}
use Rattle.kv_single.proofs.Least.{compact_done}
use Rattle.kv_single.proofs.Representing.{represents_act}

pub seal_steps : (bucket : Bucketed) (seen version : Stored) → seen ≡ bucket.version → version ≡ record seen { sealed = true }
    → ((acts : List Act) → StandsFor acts seen → StandsFor (acts ++ Seal ∷ []) version) → IsStep bucket calls.Seal Sealed (record bucket { version = version })
seal_steps bucket seen version value sealed stands = λ state r.
    (refl, represents_act later state bucket Seal version refl r (ap (λ (v : Stored). v.config) sealed ∙ ap (λ (v : Stored). v.config) value) (stands state.acts (subst (StandsFor state.acts) (sym value) r.version)))

pub compact_steps : (bucket : Bucketed) (floor : ℕ) (seen version : Stored) → seen ≡ bucket.version → version.config ≡ seen.config
    → ((acts : List Act) → StandsFor acts seen → (is_bad_floor floor acts ≡ false) × StandsFor (acts ++ Compact floor ∷ []) version)
    → ((state : State) → Represents state bucket → may_compact floor state ≡ Ok floor) → IsStep bucket (calls.Compact floor) (Compacted floor) (record bucket { version = version })
compact_steps bucket floor seen version value same stands may = λ state r.
    let own : StandsFor (state.acts ++ Compact floor ∷ []) version = (stands state.acts (subst (StandsFor state.acts) (sym value) r.version)).1 in
    compact_done state bucket floor version r (may state r) (same ∙ ap (λ (v : Stored). v.config) value) own (own.floor ∙ floor_of-compact state.acts floor)
