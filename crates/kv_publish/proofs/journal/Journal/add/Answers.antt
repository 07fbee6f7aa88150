use Rattle.std.proofs.Common.{◌++◌, ◌∷◌, [], List, refl, true, sym, ap, ◌∙◌, arith, append_assoc}
use Rattle.kv_model.specs.Acts.{Act}
use Rattle.kv_publish.specs.Rules.{acts_in, entry}
use Rattle.kv_publish.proofs.Former.{count_all}
use Rattle.kv_publish.proofs.Seeing.{acts_more}
use Rattle.kv_publish.proofs.Steps.{whole_more}
use Rattle.kv_publish.proofs.journal.Journal.add.Goals as goal

pub add-requires : goal.add-requires
add-requires g c = omega (arith, c.requires, count_all g.N.LiveName.opening.book.began c.args.self.now c.self.inside.raw c.self.view_is)

pub invariant_of-self : goal.invariant_of-self
invariant_of-self g c = whole_more c.self.inside.raw c.add.new.self (entry c.args.ghost_act true c.add.ensures.0 c.add.ensures.1) c.add.ensures.2 refl

pub returns : goal.returns
returns g c =
    let began = g.N.LiveName.opening.book.began in
    let was = c.self.inside.raw in
    ap (λ log. began ++ acts_in log) c.add.ensures.2
    ∙ (ap (λ (acts : List Act). began ++ acts) (acts_more was (entry c.args.ghost_act true c.add.ensures.0 c.add.ensures.1))
    ∙ (sym (append_assoc began (acts_in was) (c.args.ghost_act ∷ [])) ∙ ap (λ (acts : List Act). acts ++ c.args.ghost_act ∷ []) c.self.view_is))
