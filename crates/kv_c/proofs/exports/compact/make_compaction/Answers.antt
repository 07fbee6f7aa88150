use Rattle.std.proofs.Common.{◌≡◌, rules, ◌∙◌}
use Rattle.kv_keys.specs.Refusals.{code_of}
use Rattle.kv_keys.specs.declared.error.KvError.TheVariants.{WatchBehind}
use Rattle.kv_c.specs.Codes.{accepted}
use Rattle.kv_c.specs.Making.{MakesAct}
use Rattle.kv_c.proofs.Refusing.{code_from, told_watch}
use Rattle.kv_c.proofs.Waited.{act_can, can_make, made_compaction, makes, stands_in}
use Rattle.kv_c.proofs.exports.compact.make_compaction.Goals as goal
use Rattle.kv_model.specs.Acts.{Compact}
use Rattle.kv_model.specs.Answers.{Compacted}
use Rattle.kv_model.specs.declared.call.Call.TheVariants as calls

pub make-requires : goal.make-requires
make-requires c =
    let f = c.in-Some in
    let r = c.in-Ok in
    can_make c.args.content.now r.ready f.bucket.now f.filed.now f.ensures.some
    (act_can r.ready f.bucket.now f.filed.now (calls.Compact c.args.floor) (Compacted c.args.floor) r.ensures.goes r.ensures.short r.ensures.step)

pub returns-in-Ok-clause-made : goal.returns-in-Ok-clause-made
returns-in-Ok-clause-made c = λ made.
    let f = c.in-Some in
    let r = c.in-Ok in
    makes (MakesAct (calls.Compact c.args.floor) (Compacted c.args.floor) (Compact c.args.floor)) c.args.content.now c.make.new.self r.ready f.bucket.now f.filed.now f.ensures.some c.make.ensures
    (λ w waits. made_compaction r.ready f.bucket.now f.filed.now w waits c.args.floor r.ensures.step r.ensures.frame r.ensures.may)

pub returns-in-Err-Refused-clause-code : goal.returns-in-Err-Refused-clause-code
returns-in-Err-Refused-clause-code c = λ state stands other _ _.
    let e = c.in-Err-Refused in
    let refuses = e.ensures.refused e.refusal (search rules) state (stands_in c.args.content.now c.in-Some.bucket.now c.in-Some.filed.now state c.in-Some.ensures.some stands) in
    let same : c.refuse_compaction.result ≡ code_of e.refusal = search rules in
    same ∙ code_from accepted e.refusal _ refuses (λ one. other (same ∙ one))

pub returns-in-Err-Refused-clause-watch : goal.returns-in-Err-Refused-clause-watch
returns-in-Err-Refused-clause-watch c = λ told state stands.
    let e = c.in-Err-Refused in
    let refuses = e.ensures.refused e.refusal (search rules) state (stands_in c.args.content.now c.in-Some.bucket.now c.in-Some.filed.now state c.in-Some.ensures.some stands) in
    let last = c.refuse_compaction.ensures.watch told in
    let is : e.refusal ≡ WatchBehind c.refuse_compaction.new.watch = search rules in
    told_watch e.refusal c.refuse_compaction.new.watch _ refuses is
