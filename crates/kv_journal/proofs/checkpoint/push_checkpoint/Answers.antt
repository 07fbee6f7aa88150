use Rattle.std.proofs.Common.{◌≡◌, List, length, map, arith, ap, ◌∙◌}
use Rattle.kv_model.specs.Acts.{Act, Write}
use Rattle.kv_model.specs.Compaction.{stored_writes}
use Rattle.kv_store.specs.Standing.{StandsFor}
use Rattle.kv_journal.proofs.Pushing.{ArePushed, frames_pushed, payloads_pushed}
use Rattle.kv_journal.proofs.checkpoint.push_checkpoint.Goals as goal

pub returns-clause-items : goal.returns-clause-items
returns-clause-items c =
    let mid = c.push_all_stored.new.out.items in
    let ws : List Write = map (λ f. f.1.now) c.deref.result.now in
    let stored : (acts : List Act) → StandsFor acts c.args.version.now → ws ≡ stored_writes c.args.version.now.config.history acts =
    λ acts s. ap (map (λ f. f.1.now)) c.deref.ensures.value ∙ c.in_ok-writes.ensures acts s in
    let here : c.len.result ≡ length mid = omega (arith, c.len.ensures) in
    let are : ArePushed c.args.framing.now.seed c.args.out.now.items ws mid = record { items = c.in_ok-push_all_stored.ensures.items; payloads = c.in_ok-push_all_stored.ensures.payloads } in
    frames_pushed c.args.framing.now.seed c.args.out.now.items mid c.push_frame.new.out.items c.args.version.now ws stored c.in_ok-payload.payload.items c.len.result are c.in_ok-payload.ensures.items c.push_frame.result here
    (rw c.deref-2.ensures.value at c.push_frame.ensures)

pub returns-clause-payloads : goal.returns-clause-payloads
returns-clause-payloads c =
    let mid = c.push_all_stored.new.out.items in
    let ws : List Write = map (λ f. f.1.now) c.deref.result.now in
    let stored : (acts : List Act) → StandsFor acts c.args.version.now → ws ≡ stored_writes c.args.version.now.config.history acts =
    λ acts s. ap (map (λ f. f.1.now)) c.deref.ensures.value ∙ c.in_ok-writes.ensures acts s in
    let are : ArePushed c.args.framing.now.seed c.args.out.now.items ws mid = record { items = c.in_ok-push_all_stored.ensures.items; payloads = c.in_ok-push_all_stored.ensures.payloads } in
    payloads_pushed c.args.framing.now.seed c.args.out.now.items mid c.push_frame.new.out.items c.args.version.now ws stored c.in_ok-payload.payload.items c.len.result are c.in_ok-payload.ensures.items c.push_frame.result c.in_ok-payload.ensures.payload
