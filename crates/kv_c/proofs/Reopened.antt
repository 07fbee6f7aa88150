-- The opening of a file: what was found waits for the shell.
use Rattle.std.proofs.Common.{◌≡◌, ℕ, true, false, List, [], ◌++◌, Option, Some, None, sym, ap, ◌∙◌, subst}
use Rattle.std.specs.Global.{Vec}
use Rattle.std.specs.Prelude.{IfSome}
use Rattle.kv_c.specs.Filing.{durable_of}
use Rattle.kv_c.specs.Lending.{lends, never_fails}
use Rattle.kv_c.specs.Making.{IsFound, IsOpened}
use Rattle.kv_c.specs.Waiting.{Waiting}
use Rattle.kv_c.specs.declared.filed.Filed.{Filed}
use Rattle.kv_c.specs.declared.outbox.Outbox.{Outbox}
use Rattle.kv_durable.specs.Openings.{IsNew, IsReopenedOn}
use Rattle.kv_durable.specs.declared.durable.Durable.{Durable}
use Rattle.kv_durable.specs.declared.journal.Journal.{Journal}
use Rattle.kv_durable.specs.declared.open.Opened.{Opened}
use Rattle.kv_file.specs.declared.appender.Sync.{Sync}
use Rattle.kv_journal.specs.Header.{beginning}
use Rattle.kv_model.specs.Configuration.{Configuration}
use Rattle.kv_single.specs.Held.{Bucketed}

-- a file that was just read has its bytes, however they are parted
pub lends_all : (outbox : Outbox) (found : Vec ℕ) (bytes kept loose : List ℕ) → outbox.found ≡ Some found → outbox.is_clean ≡ true → found.items ≡ bytes → bytes ≡ kept ++ loose → lends outbox kept loose
lends_all outbox found bytes kept loose is clean items split = (
  subst (λ (o : Option (Vec ℕ)). IfSome o (λ v. v.items ≡ kept ++ loose)) (sym is) (items ∙ split),
  λ none. clean,
)

-- a bucket and its file are the durable bucket that was opened
parts_are : (d : Durable Outbox) (b : Bucketed) (f : Filed) → b ≡ d.bucket → f.journal.value ≡ d.journal → durable_of b f ≡ d
parts_are d b f bucket journal =
    ap (λ (x : Bucketed). let r : Durable Outbox = record { bucket = x; journal = f.journal.value } in r) bucket
    ∙ ap (λ (j : Journal Outbox). let r : Durable Outbox = record { bucket = d.bucket; journal = j } in r) journal

-- each file begins with some bytes
begins : (seed : ℕ) (config : Configuration) → beginning seed config ≡ [] → ⊥
begins seed config e = cc

pub opened_so : (config : Configuration) (mode : Sync) (seed of : ℕ) (bytes first : List ℕ) (opened : Opened Outbox) (w : Waiting) → IsFound config mode seed bytes opened
    → (bytes ≡ [] → first ≡ beginning seed config) → ((bytes ≡ [] → ⊥) → first ≡ []) → w.bucket ≡ opened.durable.bucket → w.filed.journal.value ≡ opened.durable.journal
    → w.filed.number ≡ of → w.filed.has_failed ≡ false → w.former ≡ None → w.next ≡ None → w.syncs.behind ≡ true → w.bytes ≡ first
    → (first ≡ [] → w.at ≡ w.filed.journal.value.appender.offset) → ((first ≡ [] → ⊥) → w.at ≡ 0) → IsOpened config mode seed of bytes opened.dropped w
opened_so config mode seed of bytes first opened w found fresh old bucket journal number works former next behind wrote at_offset at_front =
    let same = sym (parts_are opened.durable w.bucket w.filed bucket journal) in
    record {
      next = next;
      behind = behind;
      number = number;
      works = works;
      former = former;
      sync = ap (λ (j : Journal Outbox). j.appender.sync) journal ∙ found.sync;
      new = λ none. (
        subst (λ (d : Durable Outbox). IsNew lends never_fails config seed d opened.dropped) same (found.new none),
        wrote ∙ fresh none,
        at_front (λ e. begins seed config (sym (fresh none) ∙ e)),
      );
      reopened = λ some.
          let there = found.reopened some in (
            opened.checkpointed,
            subst (λ (d : Durable Outbox). IsReopenedOn lends never_fails config bytes d opened.dropped opened.checkpointed) same there,
            wrote ∙ old some,
            at_offset (old some),
          );
    }
