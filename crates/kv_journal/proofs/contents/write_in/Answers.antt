use Rattle.std.proofs.Common.{◌<◌, ◌^◌, arith}
use Rattle.kv_model.specs.Requests.{asked, write_for}
use Rattle.kv_journal.proofs.Telling.{stored_so}
use Rattle.kv_journal.proofs.contents.write_in.Goals as goal

pub returns-in-Some-2 : goal.returns-in-Some-2
returns-in-Some-2 c =
    let number = c.in-Some-number_of.ensures in
    let told = rw c.in-Some-2.is at c.in_ok-request.ensures in
    let small : c.from.result < 2 ^ 32 = omega (arith, number.0, c.from.ensures) in (
      stored_so (write_for (asked c.in-Some-2.request) c.from.result) c.in-Some-number_of.revision c.args.payload.now c.in-Some.rest.now c.in-Some-number_of.record.now c.in-Some.ensures number.1 (told c.from.result) c.from.ensures,
      small,
    )
