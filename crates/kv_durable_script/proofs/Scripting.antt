-- The script of a file, by what was recovered of its bytes.
use Rattle.std.proofs.Common.{◌≡◌, ℕ, Bool, true, false, inl, inr, List, [], ◌∷◌, ◌++◌, Option, Some, None, refl, sym, ap, ◌∙◌}
use Rattle.kv_model.specs.Acts.{Act}
use Rattle.kv_model.specs.Configuration.{Configuration}
use Rattle.kv_journal.specs.Checkpoints.{checkpoint_of, numbers_payload}
use Rattle.kv_journal.specs.Entries.{Entry, acts_of}
use Rattle.kv_durable.specs.Bases.{Base, IsBaseOf, base_payloads, fresh}
use Rattle.kv_durable.specs.Openings.{IsRecovered}
use Rattle.kv_durable.specs.declared.recovery.Recovered.{Recovered}
use Rattle.kv_durable.proofs.Finding.{is_fresh}
use Rattle.kv_durable.proofs.Starting.{based}
use Rattle.kv_durable_script.specs.Dumps.{dump_text}
use Rattle.kv_durable_script.specs.Scripts.{CanBeScript, IsScript, script_of}
use Rattle.kv_durable_script.specs.Stored.{stored_text}
use Rattle.kv_durable_script.specs.inside.StoredText.{IsStoredText}

some_payload : (ps : List (List ℕ)) (p : List ℕ) → ps ++ p ∷ [] ≡ [] → ⊥
some_payload [] p e = absurd cc
some_payload (q ∷ ps) p e = absurd cc

-- with no payload there is no checkpoint
pub plain_of : (base : Base) (entries : List Entry) → base_payloads base ≡ [] → dump_text entries ≡ script_of base entries
plain_of base entries none = by base.replaced none
  where
    by : (replaced : Option (List Act)) → base_payloads (based base.config replaced) ≡ [] → dump_text entries ≡ script_of (based base.config replaced) entries
    by None e = refl
    by (Some acts) e = let c = checkpoint_of base.config acts in absurd (some_payload _ (numbers_payload c) e)

pub both_never : {P : Type 0} (b : Bool) → b ≡ false → b ≡ true → P
both_never {P} b e f = absurd (let no : ⊥ = cc (e, f) in no)

module _ (config : Configuration) (bytes : List ℕ) (payloads : List (List ℕ)) (entries : List Entry) (rest : List ℕ) (recovered : Recovered) (is : IsRecovered config bytes payloads entries rest recovered) where
  pub stored_of : (text : List ℕ) → recovered.checkpointed ≡ true → IsStoredText recovered.version text → (c : Configuration) (replaced : Option (List Act)) → IsBaseOf config payloads (based c replaced)
      → text ≡ script_of (based c replaced) entries
  stored_of text some stored c None b = absurd (is.tells.some some (sym b.stands))
  stored_of text some stored c (Some acts) b =
      stored.of_acts (acts ++ acts_of entries) (is.stands (based c (Some acts)) b)
      ∙ ap (λ (d : Configuration). stored_text d.history (acts ++ acts_of entries)) (is.same ∙ sym b.same)

  abbrev pub plain_script : recovered.checkpointed ≡ false → IsScript config bytes (dump_text entries)
  plain_script plain = record {
    payloads = payloads;
    checkpointed = recovered.checkpointed;
    seed = recovered.framing.seed;
    entries = entries;
    rest = rest;
    tells = is.tells;
    reads = is.reads;
    script = λ base b. plain_of base entries (b.stands ∙ is.tells.plain plain);
    commands = λ some. both_never recovered.checkpointed plain some;
  }

  abbrev pub stored_script : (text : List ℕ) → recovered.checkpointed ≡ true → IsStoredText recovered.version text → IsScript config bytes text
  stored_script text some stored = record {
    payloads = payloads;
    checkpointed = recovered.checkpointed;
    seed = recovered.framing.seed;
    entries = entries;
    rest = rest;
    tells = is.tells;
    reads = is.reads;
    script = λ base b. stored_of text some stored base.config base.replaced b;
    commands = λ _. (stored.writes, stored.sealed, stored.commands);
  }

-- what a dump writes can be the script of a file
pub can_be_script : (config : Configuration) (bytes text : List ℕ) → IsScript config bytes text → CanBeScript config text
can_be_script config bytes text is = by is.checkpointed refl
  where
    by : (b : Bool) → is.checkpointed ≡ b → CanBeScript config text
    by true e = inr (is.commands e)
    by false e =
        let b = is_fresh config is.payloads (is.tells.plain e) in
        inl (is.entries, (is.reads (fresh config) b).lawful, is.script (fresh config) b)
