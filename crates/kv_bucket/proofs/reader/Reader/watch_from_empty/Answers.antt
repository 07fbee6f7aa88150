use Rattle.std.proofs.Common.{rules, ◌≡◌, ◌++◌, [], ap}
use Rattle.kv_bucket.proofs.reader.Reader.watch_from_empty.Goals as goal

pub begin-requires-clause-seen : goal.begin-requires-clause-seen
begin-requires-clause-seen g c =
    let log : c.in-Ok.publication.raw_prefix.acts ≡ [] = search rules in
    (c.args.self.seen, ap (λ l. l ++ c.args.self.seen) log)
