-- One more write is put back, or no acts lead to it.
use Rattle.std.proofs.Common.{subst, ap, arith}
use Rattle.kv_model.specs.Acts.{Write}
use Rattle.kv_model.specs.Configuration.{Configuration}
use Rattle.kv_model.specs.Requests.{asked, write_for}
use Rattle.kv_store.specs.PuttingBack.{PutsBack}
use Rattle.kv_journal.proofs.GoingOn.{never_above, never_below, never_written, one_more_course}
use Rattle.kv_journal.proofs.course.Course.add.Goals as goal
use Rattle.kv_journal.proofs.course.Course.add.Goals.{then-revision-via-then-revision, then-revision-via-else-revision+then-revision-config}

pub returns-then-revision-clause-never : goal.returns-then-revision-clause-never
returns-then-revision-clause-never c = λ e ws more last count i r.
    let w = write_for (asked c.args.request.now) c.args.revision in
    elim c.then-revision.branch [
      | then-revision-via-then-revision v ↦ never_below ws more last count c.args.self.now w i (omega (arith, v.if-revision.true, c.revision.ensures.value)) r
      | then-revision-via-else-revision+then-revision-config v ↦
          never_above ws more last count c.args.self.now.floor c.args.self.now.config.now w (omega (arith, v.if-revision-config.true, ap (λ (k : Configuration). k.revision_limit) c.config.view_is)) r
    ]

pub returns-then-not-is_writable-clause-never : goal.returns-then-not-is_writable-clause-never
returns-then-not-is_writable-clause-never c = λ e ws more last count i r.
    let w = write_for (asked c.args.request.now) c.args.revision in
    never_written ws more last count c.args.self.now.floor c.args.self.now.config.now w (λ writable. cc (c.is_writable.ensures.no c.args.revision writable, c.if-not-is_writable.true)) r

pub returns-clause-added : goal.returns-clause-added
returns-clause-added c = λ e ws i.
    let w = write_for (asked c.args.request.now) c.args.revision in
    one_more_course ws c.args.self.now w c.put_back.new.self c.push.new.self c.in-Some.past i
    (omega (arith, c.if-revision.false, c.revision.ensures.value))
    (omega (arith, c.if-revision-config.false, ap (λ (k : Configuration). k.revision_limit) c.config.view_is))
    (c.is_writable.ensures.yes c.if-not-is_writable.false c.args.revision)
    (c.in-Some.ensures ws i)
    (subst (λ (x : Write). PutsBack x c.args.self.now.version c.put_back.new.self) c.in_ok-write.ensures.ok c.in_ok-put_back.ensures.ok)
    c.in_ok-push.ensures.items
