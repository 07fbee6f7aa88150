use Rattle.std.proofs.Common.{◌≡◌, ◌-◌, length, drop, sym, ◌∙◌, arith}
use Rattle.std.proofs.lemmas.List.{length-drop, take_all}
use Rattle.kv_journal.specs.Damage.{longest_frame}
use Rattle.kv_journal.proofs.damage.window.Goals as goal

pub returns-then-rest-lt-LONGEST_FRAME : goal.returns-then-rest-lt-LONGEST_FRAME
returns-then-rest-lt-LONGEST_FRAME c =
    let rest = drop c.args.n c.args.bytes.now in
    let long : length rest ≡ length c.args.bytes.now - c.args.n = length-drop c.args.n c.args.bytes.now in
    take_all (length c.args.bytes.now - c.args.n) rest (omega (arith, long)) ∙ sym (take_all longest_frame rest (omega (arith, long, c.if-rest-lt-LONGEST_FRAME.true)))
