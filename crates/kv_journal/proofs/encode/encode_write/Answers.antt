use Rattle.std.proofs.Common.{◌≡◌, ℕ, ◌+◌, List, length, ap, arith, length-append}
use Rattle.kv_journal.specs.Records.{write_record}
use Rattle.kv_journal.proofs.encode.encode_write.Goals as goal

abbrev len : List ℕ → ℕ
len xs = length xs

pub returns-clause-payload : goal.returns-clause-payload
returns-clause-payload c =
    let front : length c.extend_from_slice.new.self.items ≡ 4 =
    omega (
      arith,
      ap len c.in_ok-extend_from_slice.ensures.items,
      length-append c.in_ok-bytes.bytes.items c.to_be_bytes.result,
      ap len c.in_ok-bytes.ensures.items,
      ap len c.to_be_bytes.ensures,
    ) in
    let all : length c.push_write.new.out.items ≡ 6 + length c.args.key.now + length c.args.value.now =
    omega (
      arith,
      ap len c.in_ok-push_write.ensures.items,
      length-append c.extend_from_slice.new.self.items (write_record c.args.op c.args.key.now c.args.value.now),
      length-append c.args.key.now c.args.value.now,
      front,
    ) in
    (omega (arith, all), omega (arith, all, c.push_write.ensures.fits, c.requires))
