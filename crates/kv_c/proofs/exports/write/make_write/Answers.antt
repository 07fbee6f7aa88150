use Rattle.std.proofs.Common.{◌≡◌, rules, Some, refl, sym, ap, subst, ◌∙◌}
use Rattle.std.proofs.lemmas.Result.{IfErr-at_err}
use Rattle.kv_keys.specs.Refusals.{code_of}
use Rattle.kv_keys.specs.declared.error.KvError.TheVariants.{WrongLastRevision}
use Rattle.kv_single.specs.Held.{Bucketed}
use Rattle.kv_c.specs.Calling.{StandsAt}
use Rattle.kv_c.specs.Codes.{accepted}
use Rattle.kv_c.specs.Making.{CanWait, IsMade, Makes, MakesWrite}
use Rattle.kv_c.specs.declared.content.Content.{Content}
use Rattle.kv_c.specs.declared.content.Content.TheVariants.{Bucket}
use Rattle.kv_c.proofs.Refusing.{code_from, told_last}
use Rattle.kv_c.proofs.Waited.{made_write, makes, stands_in, write_can}
use Rattle.kv_c.proofs.exports.write.make_write.Goals as goal

pub make-requires : goal.make-requires
make-requires c =
    let r = c.in-Ok in
    subst (λ (b : Bucketed). CanWait r.ready b c.in-Some.filed) (sym c.ready_write.ensures.same)
    (write_can r.ready c.in-Bucket.bucket c.in-Some.filed c.args.request.now r.ensures.goes r.ensures.short r.ensures.config r.ensures.accepts r.ensures.told)

pub returns-in-Ok-clause-made : goal.returns-in-Ok-clause-made
returns-in-Ok-clause-made c = λ made.
    let b = c.in-Bucket in
    let f = c.in-Some.filed in
    let r = c.in-Ok in
    let held : Content = Bucket b.bucket (Some f) b.field-2 in
    let is : c.args.content.now ≡ held = b.is ∙ ap (λ o. Bucket b.bucket o b.field-2) c.in-Some.is in
    let done : IsMade held r.ready c.make.new.self = subst (λ (x : Bucketed). IsMade (Bucket x (Some f) b.field-2) r.ready c.make.new.self) c.ready_write.ensures.same c.make.ensures in
    subst (λ (x : Content). Makes (MakesWrite c.args.request.now) (Some x) (Some c.make.new.self)) (sym is)
    (makes (MakesWrite c.args.request.now) held c.make.new.self r.ready b.bucket f (refl, refl) done
    (λ w waits. made_write r.ready b.bucket f w waits c.args.request.now r.ensures.config r.ensures.accepts r.ensures.told r.ensures.frame))

pub returns-in-Err-Refused-clause-code : goal.returns-in-Err-Refused-clause-code
returns-in-Err-Refused-clause-code c = λ state stands other _ _.
    let b = c.in-Bucket in
    let f = c.in-Some.filed in
    let e = c.in-Err-Refused in
    let held : Content = Bucket b.bucket (Some f) b.field-2 in
    let is : c.args.content.now ≡ held = b.is ∙ ap (λ o. Bucket b.bucket o b.field-2) c.in-Some.is in
    let there = stands_in held b.bucket f state (refl, refl) (subst (λ (x : Content). StandsAt state (Some x)) is stands) in
    let refuses = IfErr-at_err _ e.is c.ready_write.ensures.refused e.refusal (search rules) state there in
    let same : c.refuse_write.result ≡ code_of e.refusal = search rules in
    same ∙ code_from accepted e.refusal _ refuses (λ one. other (same ∙ one))

pub returns-in-Err-Refused-clause-last : goal.returns-in-Err-Refused-clause-last
returns-in-Err-Refused-clause-last c = λ told state stands.
    let b = c.in-Bucket in
    let f = c.in-Some.filed in
    let e = c.in-Err-Refused in
    let held : Content = Bucket b.bucket (Some f) b.field-2 in
    let is : c.args.content.now ≡ held = b.is ∙ ap (λ o. Bucket b.bucket o b.field-2) c.in-Some.is in
    let there = stands_in held b.bucket f state (refl, refl) (subst (λ (x : Content). StandsAt state (Some x)) is stands) in
    let refuses = IfErr-at_err _ e.is c.ready_write.ensures.refused e.refusal (search rules) state there in
    let last = c.refuse_write.ensures.last told in
    let is_last : e.refusal ≡ WrongLastRevision c.refuse_write.new.last = search rules in
    told_last e.refusal c.refuse_write.new.last _ refuses is_last
