use Rattle.std.proofs.Common.{◌≡◌, ℕ, List, [], ◌∷◌, ◌++◌, map, length, ◌+◌, ap, ◌∙◌, subst, sym}
use Rattle.std.specs.Global.{Vec}
use Rattle.std.proofs.lemmas.List.{map-append}
use Rattle.kv_frames.proofs.Reading.{IsRead, read_on}
use Rattle.kv_frames.proofs.frame.Framing.read_frames.Goals as goal

pub loop-payload-preserved : goal.loop-payload-preserved
loop-payload-preserved c =
    let found = c.in-Some.ensures.some in
    let p = c.in-Some.payload.now in
    let all = λ (vs : List (Vec ℕ)). map (λ (v : Vec ℕ). v.items) vs in
    let so_far = c.loop-payload.payloads.items in
    let one = c.in_ok-from_slice.field-0 in
    let e : all c.push.new.self.items ≡ all so_far ++ p ∷ [] =
    ap all c.in_ok-push.ensures.items ∙ map-append (λ (v : Vec ℕ). v.items) so_far (one ∷ []) ∙ ap (λ (x : List ℕ). all so_far ++ x ∷ []) c.in_ok-from_slice.ensures.items in
    let on = read_on c.args.self.now.seed c.args.at c.args.bytes.now (all so_far) c.loop-payload.offset c.loop-payload.rest.now p c.in-Some.after.now c.loop-payload.invariant found.0 found.1 in
    subst (λ (ps : List (List ℕ)). IsRead c.args.self.now.seed c.args.at c.args.bytes.now ps (c.loop-payload.offset + (8 + length p)) c.in-Some.after.now) (sym e) on
