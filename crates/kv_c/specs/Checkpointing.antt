-- The file of a bucket is replaced by one that has what the bucket stores, in place of the acts that led to it.
use Rattle.std.specs.Prelude.{◌≡◌, ℕ, Bool, true, false, List, [], Option, Some, None, is_some}
use Rattle.kv_c.specs.Filing.{durable_of}
use Rattle.kv_c.specs.Lending.{lends, never_fails}
use Rattle.kv_c.specs.Waiting.{Waiting}
use Rattle.kv_c.specs.declared.content.Content.{Content}
use Rattle.kv_c.specs.declared.content.Content.TheVariants.{Bucket, Made}
use Rattle.kv_c.specs.declared.filed.Filed.{Filed}
use Rattle.kv_durable.specs.Bases.{opening, replaced_by}
use Rattle.kv_durable.specs.Durables.{IsAt}
use Rattle.kv_journal.specs.Entries.{Entry}
use Rattle.kv_model.specs.Acts.{Act}
use Rattle.kv_model.specs.State.{State}
use Rattle.kv_single.specs.Held.{Bucketed}
use Rattle.kv_store.specs.Standing.{StandsFor}

-- The bucket goes on with another file, under the same number and with the same syncs. That has a seed of its own, all of it is on
-- the disk, and a checkpoint stands in place of all acts.
pub record GoesOnIn (seed : ℕ) (b : Bucketed) (old new : Filed) : Type 0 where
  pub number : new.number ≡ old.number
  pub works : new.has_failed ≡ false
  pub seeded : new.journal.value.framing.seed ≡ seed
  pub sync : new.journal.value.appender.sync ≡ old.journal.value.appender.sync
  pub at_last : (state : State) (kept loose : List Entry) → IsAt lends never_fails state kept loose (durable_of b old) →
      (next : IsAt lends never_fails state [] [] (durable_of b new)) × (next.base ≡ replaced_by state.config state.acts)

-- these bytes are those of such a file, whichever acts the bucket's version stands for
pub record IsReplacement (seed : ℕ) (b : Bucketed) (old new : Filed) (bytes : List ℕ) : Type 0 where
  pub goes_on : GoesOnIn seed b old new
  pub checkpoint : (acts : List Act) → StandsFor acts b.version → b.version.config ≡ old.journal.value.config.config →
      bytes ≡ opening seed (replaced_by b.version.config acts)

-- A checkpoint was made: the shell writes the new file from its front, and brings all of it onto the disk. Until it is settled the
-- former file is in use.
pub record MakesCheckpoint (seed : ℕ) (b : Bucketed) (f : Filed) (w : Waiting) : Type 0 where
  pub bucket : w.bucket ≡ b
  pub next : w.next ≡ None
  pub former : w.former ≡ Some f
  pub at : w.at ≡ 0
  pub syncs : w.syncs.behind ≡ true
  pub replacement : IsReplacement seed b f w.filed w.bytes

-- what a handle holds can go on with such a file
abbrev pub CanReplace : ℕ → Content → Filed → List ℕ → Type 0
CanReplace seed (Bucket b (Some f) m) new bytes = IsReplacement seed b f new bytes
CanReplace seed content new bytes = ⊥

-- a checkpoint waits for the shell
abbrev pub replaces_in : Option Content → Bool
replaces_in (Some (Made w m)) = is_some w.former
replaces_in held = false

-- before the former file stays in use and after it
abbrev pub KeepsFile : Option Content → Option Content → Type 0
KeepsFile (Some (Made w m)) (Some (Bucket b (Some f) n)) = (n ≡ m) × (b ≡ w.bucket) × (w.former ≡ Some f)
KeepsFile old new = ⊥

-- the bucket that a handle holds goes on with another file
abbrev pub GoesOn : ℕ → Option Content → Option Content → Type 0
GoesOn seed (Some (Bucket b (Some f) m)) (Some (Bucket c (Some g) n)) = (n ≡ m) × (c ≡ b) × GoesOnIn seed b f g
GoesOn seed old new = ⊥
