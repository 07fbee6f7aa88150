-- What a durable bucket has kept while a script runs on it.
use Rattle.std.specs.Prelude.{◌≡◌, ◌⊎◌, ℕ, Bool, true, List, [], ◌++◌}
use Rattle.std.proofs.Common.{refl, sym, ap, ◌∙◌, inl, inr, append_assoc, append-nil}
use Rattle.kv_model.specs.Acts.{Act, IsPrefix}
use Rattle.kv_model.specs.State.{State}
use Rattle.kv_file.specs.declared.appender.Sync.TheVariants.{Each}
use Rattle.kv_journal.specs.Entries.{Entry, acts_of}
use Rattle.kv_single.specs.Held.{Represents}
use Rattle.kv_durable.specs.Bases.{Base, acts_before, replaced_by}
use Rattle.kv_durable.specs.Journals.{IsLeft, Keeps, is_stopped}
use Rattle.kv_keys.specs.declared.error.KvError.{KvError}
use Rattle.kv_keys.specs.declared.error.KvError.TheVariants.{OutOfMemory}
use Rattle.kv_durable.specs.declared.durable.Durable.{Durable}
use Rattle.kv_durable.specs.declared.error.DurableError.{DurableError}
use Rattle.kv_durable.specs.declared.error.DurableError.TheVariants.{Refused}
use Rattle.kv_durable.specs.declared.error.BatchError.{BatchError}
use Rattle.kv_durable.specs.declared.error.BatchError.TheVariants as batches
use Rattle.kv_model.specs.declared.batch.BatchRefused.{BatchRefused}

-- how a script is told of a refusal: one of the rules as it is; every other says that the call could not be made
abbrev pub told_as : DurableError → KvError
told_as (Refused error) = error
told_as error = OutOfMemory

-- and of that of a batch
abbrev pub batch_told_as : BatchError → BatchRefused
batch_told_as (batches.Refused refused) = refused
batch_told_as batches.FileFault = record { at = 0; error = OutOfMemory }

-- Which base it goes on from later. It is the same one: then nothing that was on the disk has gone from behind it, and nothing was
-- taken back. Or a checkpoint of acts that begin with all that were there stands in the file in their place.
abbrev pub IsBasedOn : (base : Base) (kept loose : List Entry) (later : Base) (on_disk behind : List Entry) → Type 0
IsBasedOn base kept loose later on_disk behind =
    ((later ≡ base) × IsPrefix kept on_disk × IsPrefix (kept ++ loose) (on_disk ++ behind))
    ⊎ ((acts : List Act) × (later ≡ replaced_by base.config acts) × IsPrefix (acts_before base ++ acts_of (kept ++ loose)) acts)

module _ {F : Type 0} (has : F → List ℕ → List ℕ → Type 0) (usable : F → Bool) where
  -- The bucket represents a state whose acts are those of its base and of these entries of its file. The file has the first ones
  -- on the disk and the others loose behind them; or it has failed, nothing that was on the disk has gone, and at most one more
  -- act was begun behind them. That file can have another seed than the journal, where it failed while it was replaced.
  pub record HasKept (base : Base) (state : State) (kept loose : List Entry) (durable : Durable F) : Type 0 where
    pub config : base.config ≡ state.config
    pub represents : Represents state durable.bucket
    pub acts : state.acts ≡ acts_before base ++ acts_of (kept ++ loose)
    pub file : Keeps has usable base kept loose durable.journal
        ⊎ ((is_stopped usable durable.journal ≡ true) × ((seed : ℕ) × (told : List Entry)
        × IsLeft has seed base kept (loose ++ told) durable.journal.appender.file))

  -- What it has kept later, behind these entries, with a base of its own: no act that was on the disk has gone, and none was taken
  -- back. Where each act is synced, all are on the disk.
  pub record KeepsMore (base : Base) (old : Durable F) (kept loose : List Entry) (new : Durable F) : Type 0 where
    pub later : State
    pub later_base : Base
    pub on_disk : List Entry
    pub behind : List Entry
    pub grown : IsPrefix (acts_before base ++ acts_of kept) (acts_before later_base ++ acts_of on_disk)
    pub whole : IsPrefix (acts_before base ++ acts_of (kept ++ loose)) (acts_before later_base ++ acts_of (on_disk ++ behind))
    pub based : IsBasedOn base kept loose later_base on_disk behind
    pub sync : new.journal.appender.sync ≡ old.journal.appender.sync
    pub each : old.journal.appender.sync ≡ Each → loose ≡ [] → behind ≡ []
    pub has_kept : HasKept later_base later on_disk behind new

  -- whatever it had kept, it has kept that and more
  abbrev pub KeepsOn : Durable F → Durable F → Type 0
  KeepsOn old new = (base : Base) (state : State) (kept loose : List Entry) → HasKept base state kept loose old → KeepsMore base old kept loose new

  pub keeps_on_itself : (d : Durable F) → KeepsOn d d
  keeps_on_itself d = λ base state kept loose has_kept. record {
    later = state;
    later_base = base;
    on_disk = kept;
    behind = loose;
    grown = ([], append-nil (acts_before base ++ acts_of kept));
    whole = ([], append-nil (acts_before base ++ acts_of (kept ++ loose)));
    based = inl (refl, ([], append-nil kept), ([], append-nil (kept ++ loose)));
    sync = refl;
    each = λ each none. none;
    has_kept = has_kept;
  }

  prefix_on : {X : Type 0} (xs ys zs : List X) → IsPrefix xs ys → IsPrefix ys zs → IsPrefix xs zs
  prefix_on {X} xs ys zs one two = (one.0 ++ two.0, sym (append_assoc xs one.0 two.0) ∙ ap (λ (ws : List X). ws ++ two.0) one.1 ∙ two.1)

  -- all that was there first stands before the base, where it stood behind the one before
  based_on : (first mid last : Base) (kept loose k l on_disk behind : List Entry) → IsBasedOn first kept loose mid k l
      → IsPrefix (acts_before first ++ acts_of (kept ++ loose)) (acts_before mid ++ acts_of (k ++ l)) → IsBasedOn mid k l last on_disk behind → IsBasedOn first kept loose last on_disk behind
  based_on first mid last kept loose k l on_disk behind one whole two =
      let all : List Act = acts_before first ++ acts_of (kept ++ loose) in
      elim one [
        | inl same ↦ elim two [
          | inl still ↦ inl (still.0 ∙ same.0, prefix_on kept k on_disk same.1 still.1, prefix_on (kept ++ loose) (k ++ l) (on_disk ++ behind) same.2 still.2)
          | inr new ↦ inr (new.0, new.1 ∙ ap (λ (b : Base). replaced_by b.config new.0) same.0, prefix_on all (acts_before mid ++ acts_of (k ++ l)) new.0 whole new.2)
        ]
        | inr made ↦ elim two [
          | inl still ↦ inr (made.0, still.0 ∙ made.1, made.2)
          | inr new ↦ inr (new.0, new.1 ∙ ap (λ (b : Base). replaced_by b.config new.0) made.1, prefix_on all (acts_before mid ++ acts_of (k ++ l)) new.0 whole new.2)
        ]
      ]

  pub keeps_on_later : (a b c : Durable F) → KeepsOn a b → KeepsOn b c → KeepsOn a c
  keeps_on_later a b c ab bc = λ base state kept loose has_kept.
      let one = ab base state kept loose has_kept in
      let two = bc one.later_base one.later one.on_disk one.behind one.has_kept in
      record {
        later = two.later;
        later_base = two.later_base;
        on_disk = two.on_disk;
        behind = two.behind;
        grown = prefix_on (acts_before base ++ acts_of kept) (acts_before one.later_base ++ acts_of one.on_disk) (acts_before two.later_base ++ acts_of two.on_disk) one.grown two.grown;
        whole = prefix_on (acts_before base ++ acts_of (kept ++ loose)) (acts_before one.later_base ++ acts_of (one.on_disk ++ one.behind)) (acts_before two.later_base ++ acts_of (two.on_disk ++ two.behind)) one.whole two.whole;
        based = based_on base one.later_base two.later_base kept loose one.on_disk one.behind two.on_disk two.behind one.based one.whole two.based;
        sync = two.sync ∙ one.sync;
        each = λ each none. two.each (one.sync ∙ each) (one.each each none);
        has_kept = two.has_kept;
      }
