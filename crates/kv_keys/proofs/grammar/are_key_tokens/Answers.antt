use Rattle.std.proofs.Common.{arith, sym, ◌∙◌}
use Rattle.kv_keys.proofs.KeyBytes.{accepted, at_end, goes_on_as_key, refused}
use Rattle.kv_keys.proofs.grammar.are_key_tokens.Goals as goal

pub returns-then-not-may_follow : goal.returns-then-not-may_follow
returns-then-not-may_follow c =
    let denied = sym c.may_follow.ensures ∙ c.if-not-may_follow.true in
    sym (refused c.loop-byte.has_begun c.args.bytes.now c.loop-byte.byte-index (omega arith) denied)
    ∙ (c.loop-byte.invariant ∙ goes_on_as_key c.args.bytes.now)

pub loop-byte-preserved : goal.loop-byte-preserved
loop-byte-preserved c =
    let allowed = sym c.may_follow.ensures ∙ c.if-not-may_follow.false in
    sym (accepted c.loop-byte.has_begun c.args.bytes.now c.loop-byte.byte-index (omega arith) allowed) ∙ c.loop-byte.invariant

pub returns : goal.returns
returns c =
    sym (at_end c.loop-byte.has_begun c.args.bytes.now c.loop-byte.byte-index (omega arith))
    ∙ (c.loop-byte.invariant ∙ goes_on_as_key c.args.bytes.now)
