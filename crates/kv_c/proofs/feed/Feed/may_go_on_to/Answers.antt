use Rattle.std.proofs.Common.{rules}
use Rattle.kv_c.proofs.feed.Feed.may_go_on_to.Goals as goal

pub returns : goal.returns
returns c = search rules
