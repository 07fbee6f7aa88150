use Rattle.std.proofs.Common.{◌+◌, true, ap}
use Rattle.kv_store.specs.Stored.{Stored}
use Rattle.kv_model.specs.Acts.{Wrote, Seal, Compact}
use Rattle.kv_model.specs.Requests.{asked, write_for}
use Rattle.kv_journal.specs.Records.{did, closed}
use Rattle.kv_journal.proofs.Redone.{says_so, says_write, says_compaction, says_closed, says_seal, seal_redone, kept_at_ok, ok_is, write_redone, no_write_redone, compaction_redone, no_compaction_redone, end_redone}
use Rattle.kv_journal.proofs.entry.redo_record.Goals as goal

pub returns-in-Write-clause-done : goal.returns-in-Write-clause-done
returns-in-Write-clause-done c = λ e.
    let said = says_so _ c.in_ok-record.field-0 c.in-Some.record c.args.bytes.now c.in_ok-record.ensures.ok c.in-Some.is in
    let says = says_write c.in-Some.record c.in-Write.request c.args.bytes.now said c.in-Write.is in
    let done = c.redo_write.ensures.done e in
    (did (Wrote (write_for (asked c.in-Write.request) (c.args.version.now.last + 1))), write_redone (asked c.in-Write.request) c.args.bytes.now c.args.version.now c.redo_write.new.version (kept_at_ok c.redo_write.result true c.redo_write.ensures.config e) says done)

pub returns-in-Write-clause-not : goal.returns-in-Write-clause-not
returns-in-Write-clause-not c = λ e acts stands act has accepted.
    let said = says_so _ c.in_ok-record.field-0 c.in-Some.record c.args.bytes.now c.in_ok-record.ensures.ok c.in-Some.is in
    let says = says_write c.in-Some.record c.in-Write.request c.args.bytes.now said c.in-Write.is in
    no_write_redone c.args.version.now.config (asked c.in-Write.request) c.args.bytes.now acts says (c.redo_write.ensures.not e acts stands) act has accepted

pub returns-in-Compact-clause-done : goal.returns-in-Compact-clause-done
returns-in-Compact-clause-done c = λ e.
    let said = says_so _ c.in_ok-record.field-0 c.in-Some.record c.args.bytes.now c.in_ok-record.ensures.ok c.in-Some.is in
    let says = says_compaction c.in-Some.record c.in-Compact.floor c.args.bytes.now said c.in-Compact.is in
    let bounds = c.redo_compaction.ensures.bounds in
    let done = c.redo_compaction.ensures.done e in
    (did (Compact c.in-Compact.floor), compaction_redone c.args.bytes.now c.in-Compact.floor c.args.version.now c.redo_compaction.new.version (kept_at_ok c.redo_compaction.result true c.redo_compaction.ensures.config e) bounds.0 bounds.1 says done)

pub returns-in-Compact-clause-not : goal.returns-in-Compact-clause-not
returns-in-Compact-clause-not c = λ e acts stands act has accepted.
    let said = says_so _ c.in_ok-record.field-0 c.in-Some.record c.args.bytes.now c.in_ok-record.ensures.ok c.in-Some.is in
    let says = says_compaction c.in-Some.record c.in-Compact.floor c.args.bytes.now said c.in-Compact.is in
    let bounds = c.redo_compaction.ensures.bounds in
    no_compaction_redone c.args.version.now.config c.args.bytes.now c.in-Compact.floor c.args.version.now.last bounds.0 bounds.1 says acts stands.last (c.redo_compaction.ensures.not e acts stands) act has accepted

pub returns-in_ok-version-in-Seal-clause-done : goal.returns-in_ok-version-in-Seal-clause-done
returns-in_ok-version-in-Seal-clause-done c = λ e.
    let said = says_so _ c.in_ok-record.field-0 c.in-Some.record c.args.bytes.now c.in_ok-record.ensures.ok c.in-Some.is in
    let says = says_seal c.in-Some.record c.args.bytes.now said c.in-Seal.is in
    let new = c.in_ok-version-in-Seal.field-0 in
    (did Seal, seal_redone c.args.bytes.now c.args.version.now new (ap (λ (v : Stored). v.config) c.in_ok-version-in-Seal.ensures.ok) says c.in_ok-version-in-Seal.ensures.stands)

pub returns-in-Closed-clause-done : goal.returns-in-Closed-clause-done
returns-in-Closed-clause-done c = λ e.
    let said = says_so _ c.in_ok-record.field-0 c.in-Some.record c.args.bytes.now c.in_ok-record.ensures.ok c.in-Some.is in
    let says = says_closed c.in-Some.record c.in-Closed.last c.args.bytes.now said c.in-Closed.is in
    let bounds = c.has_written.ensures.bounds in
    (closed c.in-Closed.last, end_redone c.args.bytes.now c.in-Closed.last c.args.version.now bounds.0 bounds.1 says (c.has_written.ensures.yes (ok_is c.has_written.result true e)))
