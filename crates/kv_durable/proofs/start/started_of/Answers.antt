use Rattle.std.proofs.Common.{[]}
use Rattle.kv_durable.proofs.Starting.{any_err, plain_start}
use Rattle.kv_durable.proofs.start.started_of.Goals as goal

pub returns-then-begins_checkpoint-clause-no_entries : goal.returns-then-begins_checkpoint-clause-no_entries
returns-then-begins_checkpoint-clause-no_entries c =
    any_err c.restored_of.result _ (λ e _ entries rest splits. c.begins_checkpoint.ensures.yes c.if-begins_checkpoint.true entries rest splits)

pub returns-clause-ok : goal.returns-clause-ok
returns-clause-ok c = (
  [],
  c.args.bytes.now,
  plain_start c.args.config.now c.args.begun.now.framing.seed c.args.begun.now.offset c.args.bytes.now c.args.empty c.requires.config c.requires.stands (c.begins_checkpoint.ensures.no c.if-begins_checkpoint.false),
)
