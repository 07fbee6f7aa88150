-- What stands before the entries of a file.
use Rattle.std.proofs.Common.{◌≡◌, ℕ, Bool, true, false, List, [], ◌∷◌, ◌++◌, Option, Some, None, map, refl, sym, ap, ◌∙◌, subst}
use Rattle.std.specs.Prelude.{Result, Ok, Err, IfErr}
use Rattle.std.proofs.lemmas.Bool.{true≢false}
use Rattle.kv_frames.specs.Frames.{ArePayloads, Splits, frames, offset_after}
use Rattle.kv_model.specs.Acceptance.{IsLawful}
use Rattle.kv_model.specs.Acts.{Act, Write}
use Rattle.kv_model.specs.Configuration.{Configuration, IsLegal}
use Rattle.kv_store.specs.Standing.{StandsFor}
use Rattle.kv_store.specs.Stored.{Stored}
use Rattle.kv_journal.specs.Checkpoints.{Checkpoint, checkpoint_of, checkpoint_payloads, numbers_payload, stored_payload}
use Rattle.kv_journal.specs.Entries.{Entry, payloads_of}
use Rattle.kv_journal.specs.Restored.{IsOnly, IsRestored}
use Rattle.kv_journal.proofs.Restored.{stands_again}
use Rattle.kv_durable.specs.Bases.{Base, IsBaseOf, KnowsBase, acts_before, base_payloads, fresh, replaced_by}
use Rattle.kv_durable.specs.Starts.{IsStarted}

-- a checkpoint has a payload
not_nothing : (c : Checkpoint) → checkpoint_payloads c ≡ [] → ⊥
not_nothing c e = by c.writes e
  where
    by : (ws : List Write) → map stored_payload ws ++ numbers_payload c ∷ [] ≡ [] → ⊥
    by [] e = absurd cc
    by (w ∷ ws) e = absurd cc

abbrev pub based : Configuration → Option (List Act) → Base
based config replaced = record { config = config; replaced = replaced }

-- what holds of each base with this configuration
pub over_bases : (config : Configuration) (P : Base → Type 0) → ((replaced : Option (List Act)) → P (based config replaced)) → (base : Base) → base.config ≡ config → P base
over_bases config P on base same = subst P (sym (ap (λ (c : Configuration). based c base.replaced) same)) (on base.replaced)

-- where there is no payload there is no act before
pub none_before : (base : Base) → base_payloads base ≡ [] → acts_before base ≡ []
none_before base none = by base.replaced none
  where
    by : (replaced : Option (List Act)) → base_payloads (based base.config replaced) ≡ [] → acts_before (based base.config replaced) ≡ []
    by None e = refl
    by (Some acts) e = absurd (not_nothing (checkpoint_of base.config acts) e)

-- and no checkpoint
pub no_checkpoint : (base : Base) → base_payloads base ≡ [] → base ≡ fresh base.config
no_checkpoint base none = by base.replaced none
  where
    by : (replaced : Option (List Act)) → base_payloads (based base.config replaced) ≡ [] → based base.config replaced ≡ fresh base.config
    by None e = refl
    by (Some acts) e = absurd (not_nothing (checkpoint_of base.config acts) e)

-- that of a file with no checkpoint is known
pub knows_fresh : (config : Configuration) (checkpointed : Bool) → KnowsBase config [] checkpointed
knows_fresh config checkpointed = (fresh config, record { same = refl; lawful = tt; stands = refl }, λ _. refl)

pub plain_start : (config : Configuration) (seed at : ℕ) (bytes : List ℕ) (empty : Stored) → empty.config ≡ config → StandsFor [] empty
    → ((c : Checkpoint) (rest : List ℕ) → ArePayloads (checkpoint_payloads c) → bytes ≡ frames seed at (checkpoint_payloads c) ++ rest → ⊥)
    → IsStarted config seed at bytes [] bytes (record { version = empty; offset = at; checkpointed = false })
plain_start config seed at bytes empty same stands none = record {
  same = same;
  whole = refl;
  fit = tt;
  offset = refl;
  plain = λ _. refl;
  some = λ e _. true≢false (sym e);
  knows = knows_fresh config false;
  stands = λ base is. subst (λ (acts : List Act). StandsFor acts empty) (sym (none_before base is.stands)) stands;
  front = λ acts left lawful each whole. absurd (none (checkpoint_of config acts) left each whole);
  none = λ entries left splits. refl;
}

module _ (config : Configuration) (seed at : ℕ) (bytes : List ℕ) (legal : IsLegal config) (no_entries : (entries : List Entry) (rest : List ℕ) → Splits seed at bytes (payloads_of entries) rest → ⊥)
    (c : Checkpoint) (rest : List ℕ) (whole : bytes ≡ frames seed at (checkpoint_payloads c) ++ rest) (fit : ArePayloads (checkpoint_payloads c)) (only : IsOnly config seed at bytes c) where
  stands_for : (version : Stored) → IsRestored config c version → (replaced : Option (List Act)) → IsBaseOf config (checkpoint_payloads c) (based config replaced) → StandsFor (acts_before (based config replaced)) version
  stands_for version is None b = absurd (not_nothing c (sym b.stands))
  stands_for version is (Some acts) b =
      let same = only acts rest b.lawful (subst ArePayloads (sym b.stands) fit) (whole ∙ ap (λ (ps : List (List ℕ)). frames seed at ps ++ rest) (sym b.stands)) in
      stands_again config acts version legal b.lawful (subst (λ (d : Checkpoint). IsRestored config d version) (sym same) is)

  pub is_started : (version : Stored) (offset : ℕ) → KnowsBase config (checkpoint_payloads c) true → IsRestored config c version → offset ≡ offset_after at (checkpoint_payloads c)
      → IsStarted config seed at bytes (checkpoint_payloads c) rest (record { version = version; offset = offset; checkpointed = true })
  is_started version offset knows is there = record {
    same = is.same;
    whole = whole;
    fit = fit;
    offset = there;
    plain = λ e. absurd (true≢false e);
    some = λ _. not_nothing c;
    knows = knows;
    stands = λ base b. over_bases config (λ (d : Base). IsBaseOf config (checkpoint_payloads c) d → StandsFor (acts_before d) version) (stands_for version is) base b.same b;
    front = λ acts left lawful each stands. ap checkpoint_payloads (only acts left lawful each stands);
    none = λ entries left splits. absurd (no_entries entries left splits);
  }

-- lawful acts are known in whose place their checkpoint stands
pub knows_acts : (config : Configuration) (acts : List Act) → IsLawful config acts → KnowsBase config (checkpoint_payloads (checkpoint_of config acts)) true
knows_acts config acts lawful = (replaced_by config acts, record { same = refl; lawful = lawful; stands = refl }, λ e. absurd (true≢false e))

-- what holds of whatever error is answered
pub any_err : {T E : Type 0} (r : Result T E) (P : E → Type 0) → ((e : E) → P e) → IfErr r P
any_err (Ok x) P on = tt
any_err (Err e) P on = on e
