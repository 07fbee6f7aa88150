use Rattle.std.proofs.Common.{arith}
use Rattle.std.proofs.lemmas.List.{take_rest, length-drop}
use Rattle.std.proofs.Math.Seq.{take-add}
use Rattle.std.proofs.KnownBytes.{Appends-trans}
use Rattle.kv_replay.proofs.output.write_all.Goals as goal

pub loop-at-preserved : goal.loop-at-preserved
loop-at-preserved g c =
    let bytes = c.args.bytes.now in
    let place = c.loop-at.at in
    let inside = rw (take_rest bytes place) at c.in-Ok.ensures.bound in
    let taken = rw (take_rest bytes place) at c.in-Ok.ensures.bytes in
    record {
      inside = omega (arith, inside, length-drop place bytes);
      written = rw (take-add place c.in-Ok.count bytes) (Appends-trans _ _ _ _ _ c.loop-at.invariant.written taken);
    }
