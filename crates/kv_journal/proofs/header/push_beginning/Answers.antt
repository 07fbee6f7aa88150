use Rattle.std.proofs.Common.{◌∙◌, ap, List, ℕ, ◌++◌}
use Rattle.kv_journal.proofs.Front.{begun_with, configuration_fits}
use Rattle.kv_journal.proofs.header.push_beginning.Goals as goal

pub push_frame-requires : goal.push_frame-requires
push_frame-requires c = configuration_fits c.args.config.now c.deref.result.now (c.deref.ensures.value ∙ c.in_ok-payload.ensures) c.requires

pub returns : goal.returns
returns c =
    begun_with c.push_frame.result c.args.framing.now.seed c.args.config.now c.args.out.now.items c.extend_from_slice.new.self.items c.extend_from_slice-2.new.self.items c.push_frame.new.out.items
    c.deref.result.now (c.deref.ensures.value ∙ c.in_ok-payload.ensures) c.in_ok-extend_from_slice.ensures.items
    (c.in_ok-extend_from_slice-2.ensures.items ∙ ap (λ (xs : List ℕ). c.extend_from_slice.new.self.items ++ xs) c.to_be_bytes.ensures) c.push_frame.ensures
