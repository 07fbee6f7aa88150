use Rattle.std.proofs.Common.{◌≡◌, ◌∙◌, List, ℕ, sym, subst}
use Rattle.kv_c.specs.Codes.{IsNamed}
use Rattle.kv_keys.specs.Refusals.{name_of}
use Rattle.kv_c.proofs.Named.{same_name}
use Rattle.kv_c.proofs.exports.code_name.kv_code_name.Goals as goal

pub returns-in-Some-clause-rules : goal.returns-in-Some-clause-rules
returns-in-Some-clause-rules c = λ e is.
    let same = same_name c.in-Some.refusal e (c.in-Some.ensures ∙ sym is) in
    let text : c.as_bytes.result.now ≡ name_of e = c.as_bytes.ensures.value ∙ c.name.ensures ∙ same in
    subst (λ (name : List ℕ). IsNamed name c.args.room.now c.copy_sized.result c.copy_sized.new.size c.copy_sized.new.room) text
    (c.copy_sized.ensures.code, c.copy_sized.ensures.size, c.copy_sized.ensures.copied)
