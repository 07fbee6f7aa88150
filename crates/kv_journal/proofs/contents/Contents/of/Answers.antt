use Rattle.std.proofs.Common.{◌≡◌, ◌+◌, ◌<◌, ◌^◌, length, arith, ◌∙◌}
use Rattle.kv_journal.specs.declared.contents.Contents.{Contents}
use Rattle.kv_journal.specs.inside.Contents.{checkpoint_told, writes_told}
use Rattle.kv_journal.proofs.Telling.{all_told, no_frame, no_numbers, none_told, one_pushed}
use Rattle.kv_journal.proofs.contents.Contents.of.Goals as goal

pub loop-payload-init : goal.loop-payload-init
loop-payload-init c = none_told c.args.framing.now.seed c.args.at c.args.bytes.now c.new-writes.result.items c.new-writes.ensures.items

pub loop-payload-preserved : goal.loop-payload-preserved
loop-payload-preserved c =
    let found = c.in-Some.ensures.some in
    let told = rw c.in-Some-2.is at c.in_ok-write.ensures in
    one_pushed c.args.framing.now.seed c.args.at c.args.bytes.now c.loop-payload.offset c.loop-payload.rest.now c.in-Some.payload.now c.in-Some.after.now found.0 found.1 c.loop-payload.writes.items c.push.new.self.items c.in-Some-2.write c.in_ok-push-in-Some-2.ensures.items c.loop-payload.invariant told.0 told.1

pub returns-in_default-numbers_in-clause-damaged : goal.returns-in_default-numbers_in-clause-damaged
returns-in_default-numbers_in-clause-damaged c = λ _.
    let found = c.in-Some.ensures.some in
    let none = rw c.in-None.is at c.in_ok-write.ensures in
    no_numbers c.args.framing.now.seed c.args.at c.args.bytes.now c.loop-payload.offset c.loop-payload.rest.now c.in-Some.payload.now c.in-Some.after.now found.0 found.1 none (writes_told c.loop-payload.writes.items) c.loop-payload.invariant c.in_default-numbers_in.ensures

pub returns-in-None-clause-ok : goal.returns-in-None-clause-ok
returns-in-None-clause-ok c =
    let found = c.in-Some.ensures.some in
    let none = rw c.in-None.is at c.in_ok-write.ensures in
    let numbers = c.in-Some-numbers_in.numbers in
    let p = c.in-Some.payload.now in
    let offset = c.loop-payload.offset in
    let read : Contents = record { writes = c.loop-payload.writes; numbers = numbers; offset = offset + 8 + length p } in
    let last : numbers.last < 2 ^ 64 = omega arith in
    let values : numbers.values < 2 ^ 64 = omega arith in
    let floor : numbers.floor < 2 ^ 64 = omega arith in
    let end : offset + 8 + length p ≡ offset + (8 + length p) = omega arith in
    let all = all_told c.args.framing.now.seed c.args.at c.args.bytes.now offset c.loop-payload.rest.now p c.in-Some.after.now found.0 found.1 none (checkpoint_told read) c.loop-payload.invariant last values floor c.in-Some-numbers_in.ensures in
    (all.0, all.1, all.2, end ∙ all.3, all.4)

pub returns-clause-damaged : goal.returns-clause-damaged
returns-clause-damaged c = λ _.
    no_frame c.args.framing.now.seed c.args.at c.args.bytes.now (writes_told c.loop-payload.writes.items) c.loop-payload.offset c.loop-payload.rest.now c.loop-payload.invariant c.in_default.ensures.none
