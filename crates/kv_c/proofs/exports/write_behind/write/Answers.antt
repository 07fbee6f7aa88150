use Rattle.std.proofs.Common.{rules, ◌≡◌, Option, Some, ap, subst}
use Rattle.kv_c.specs.Chaining.{WritesBehind}
use Rattle.kv_c.specs.declared.content.Content.{Content}
use Rattle.kv_c.proofs.exports.write_behind.write.Goals as goal

pub returns : goal.returns
returns c = λ what asked.
    let d = c.write_in-done in
    let inner : WritesBehind what (Some c.deref_mut.result.now) c.args.revision.now d.result d.new.revision (Some d.new.content) = record {
      made = λ is. d.ensures.made is what asked;
      refusal = d.ensures.code what asked;
      last = λ is. d.ensures.last is what asked;
      untold = d.ensures.untold;
      refused = λ other. ap (λ (x : Content). Some x) (d.ensures.refused other);
      fault = d.ensures.fault;
      stopped = d.ensures.stopped what asked;
      closed = d.ensures.closed;
    } in
    let old : Some c.deref_mut.result.now ≡ c.args.handle.now.slot.held = search rules in
    let new : Some d.new.content ≡ c.put.new.self.slot.held = search rules in
    subst (λ (o : Option Content). WritesBehind what o c.args.revision.now d.result d.new.revision c.put.new.self.slot.held) old
    (subst (λ (o : Option Content). WritesBehind what (Some c.deref_mut.result.now) c.args.revision.now d.result d.new.revision o) new inner)
