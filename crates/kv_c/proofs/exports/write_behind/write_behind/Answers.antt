use Rattle.std.proofs.Common.{◌≡◌, rules}
use Rattle.kv_keys.specs.declared.error.KvError.TheVariants.{WrongLastRevision}
use Rattle.kv_c.proofs.Refusing.{told_last}
use Rattle.kv_c.proofs.exports.write_behind.write_behind.Goals as goal

pub returns-in-Err-Refused-clause-last : goal.returns-in-Err-Refused-clause-last
returns-in-Err-Refused-clause-last c = λ told state r.
    let e = c.in-Err-Refused in
    let refuses = e.ensures.refused e.refusal (search rules) state r in
    let last = c.refuse_write.ensures.last told in
    let is : e.refusal ≡ WrongLastRevision c.refuse_write.new.last = search rules in
    told_last e.refusal c.refuse_write.new.last _ refuses is
