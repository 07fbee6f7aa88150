use Rattle.std.proofs.Common.{ℕ, ◌≤◌, List, length, ap, ◌∙◌, arith}
use Rattle.kv_journal.proofs.Ascii.{key_fits}
use Rattle.kv_journal.proofs.encode.bytes_of.Goals as goal

pub returns-clause-fits : goal.returns-clause-fits
returns-clause-fits c =
    let fits : length c.args.key.now ≤ 255 = key_fits c.args.key.now c.as_str.ensures.key in
    let same = ap (λ (xs : List ℕ). length xs) (c.as_bytes.ensures.value ∙ c.as_str.ensures.value) in
    omega (arith, fits, same)
