use Rattle.std.proofs.Common.{◌≡◌, OnOk, subst}
use Rattle.kv_model.specs.Acts.{IsPrefix}
use Rattle.kv_bucket.specs.ReaderState.{ReaderState}
use Rattle.kv_bucket.proofs.reader.Reader.go_on.Goals as goal

pub returns-clause-ok : goal.returns-clause-ok
returns-clause-ok g c =
    let seen = c.go_on-left.new.progress.seen in
    subst (λ (was : ReaderState). OnOk c.go_on-left.result ((c.go_on-left.new.self ≡ seen) × IsPrefix was.told seen)) c.self.view_is
    c.go_on-left.ensures.ok
