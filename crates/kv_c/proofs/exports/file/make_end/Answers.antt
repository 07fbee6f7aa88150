use Rattle.kv_c.proofs.Waited.{can_end}
use Rattle.kv_c.proofs.exports.file.make_end.Goals as goal

pub make_end-requires : goal.make_end-requires
make_end-requires c =
    let f = c.in-Some in
    let r = c.in-Ok in
    can_end c.args.content.now r.frame.items f.bucket.now f.filed.now f.ensures.some r.ensures.goes r.ensures.short r.ensures.frame
