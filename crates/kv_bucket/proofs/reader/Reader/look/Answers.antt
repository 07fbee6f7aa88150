use Rattle.std.proofs.Common.{◌≡◌, IfOk, subst}
use Rattle.kv_model.specs.Acts.{IsPrefix}
use Rattle.kv_bucket.specs.ReaderState.{ReaderState}
use Rattle.kv_publish.specs.Publications.{IsOf}
use Rattle.kv_bucket.proofs.reader.Reader.look.Goals as goal

pub returns-clause-ok : goal.returns-clause-ok
returns-clause-ok g c =
    let seen = c.take_in-copy.new.self.seen in
    subst (λ (was : ReaderState). IfOk c.take_in-copy.result (λ s. (s.raw_prefix.acts ≡ seen) × IsOf g.N.LiveName.opening s × IsPrefix was.told seen)) c.self.view_is
    c.take_in-copy.ensures.ok
