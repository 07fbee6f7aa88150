use Rattle.std.proofs.Common.{ℕ, ◌≤◌, subst}
use Rattle.kv_bucket.proofs.reader.Reader.version_from.Goals as goal

pub returns-then-revision-clause-ok : goal.returns-then-revision-clause-ok
returns-then-revision-clause-ok g c =
    (c.in_ok-version.ensures.ok.0, c.in_ok-version.ensures.ok.1, subst (λ (n : ℕ). c.args.revision ≤ n) c.revision.ensures.value c.if-revision.true)
