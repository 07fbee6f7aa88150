use Rattle.std.proofs.Common.{rules, [], refl, subst, sym, ◌∙◌}
use Rattle.kv_race.specs.Working.{Works}
use Rattle.kv_race.proofs.worker.work.Goals as goal

pub loop-n-init : goal.loop-n-init
loop-n-init g c = record {
  count = c.reserve.ensures.len ∙ c.new-answers.ensures.len;
  room = search rules;
  works = subst (λ (answers : _). Works g.W.Writes.may_answer c.args.desk.now [] answers c.args.desk.now) (sym (c.reserve.ensures.items ∙ c.new-answers.ensures.items)) refl;
}
