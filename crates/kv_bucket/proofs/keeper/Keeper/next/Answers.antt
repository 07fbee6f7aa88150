use Rattle.std.proofs.Common.{◌≡◌, List, ◌∷◌, [], ◌++◌, Ok, rules, ap, ◌∙◌}
use Rattle.std.proofs.lemmas.Result.{IfOk-weaker}
use Rattle.kv_keys.specs.Outcome.{Refuses}
use Rattle.kv_model.specs.Acceptance.{accept}
use Rattle.kv_model.specs.Acts.{Act, Wrote, Write}
use Rattle.kv_model.specs.Answers.{Revision}
use Rattle.kv_model.specs.Requests.{asked}
use Rattle.kv_model.specs.State.{State}
use Rattle.kv_model.specs.declared.call.Call.TheVariants as calls
use Rattle.kv_store.specs.Standing.{StandsFor}
use Rattle.kv_store.specs.Stored.{Stored}
use Rattle.kv_bucket.specs.Keeping.{ComesNext, IsAt, IsKeptStep, PublishesWrite, kept_with}
use Rattle.kv_bucket.proofs.Preparing.{write_made, write_refused}
use Rattle.kv_bucket.proofs.keeper.Keeper.next.Goals as goal

pub returns-in_err-made-clause-refused : goal.returns-in_err-made-clause-refused
returns-in_err-made-clause-refused g c =
    let inner : (state : State) → IsAt state c.args.self.now → Refuses c.in_err-made.field-0.0 (accept state.config (asked c.args.request.now) state.acts) =
    write_refused g.N.LiveName.opening.config c.args.self.now c.self.inside.bucket c.self.inside.publisher (asked c.args.request.now) c.in_err-made.field-0.0 c.version.result.now c.self.view_is c.version.ensures.value c.in_err-made.ensures.refused in
    search (rules, inner)

pub returns-clause-ok : goal.returns-clause-ok
returns-clause-ok g c =
    IfOk-weaker c.new.result _ (λ p. IsKeptStep c.args.self.now (calls.Write c.args.request.now) (Revision p.version.last) (kept_with c.args.self.now (p.act ∷ []) p.version))
    (λ p is. (write_made g.N.LiveName.opening.config c.args.self.now c.self.inside.bucket c.self.inside.publisher c.self.view_is c.self.invariant.0 c.args.request.now c.wrote.result c.revision-revision.result c.version.result.now c.in_ok-made.made c.version.ensures.value c.in_ok-made.ensures.config c.in_ok-made.ensures.ok c.wrote.ensures (c.revision-revision.ensures.value ∙ ap (λ (v : Stored). v.last) c.version-2.ensures) p is).0.0.0) c.new.ensures.ok

pub returns-clause-published : goal.returns-clause-published
returns-clause-published g c =
    IfOk-weaker c.new.result _ (λ p. PublishesWrite g.N.LiveName.opening.config (asked c.args.request.now) p.version.last c.args.self.now.published (c.args.self.now.published ++ p.act ∷ []))
    (λ p is. (write_made g.N.LiveName.opening.config c.args.self.now c.self.inside.bucket c.self.inside.publisher c.self.view_is c.self.invariant.0 c.args.request.now c.wrote.result c.revision-revision.result c.version.result.now c.in_ok-made.made c.version.ensures.value c.in_ok-made.ensures.config c.in_ok-made.ensures.ok c.wrote.ensures (c.revision-revision.ensures.value ∙ ap (λ (v : Stored). v.last) c.version-2.ensures) p is).0.1) c.new.ensures.ok

pub returns-clause-next : goal.returns-clause-next
returns-clause-next g c =
    IfOk-weaker c.new.result _ (λ p. ComesNext g.N.LiveName.opening.config c.args.self.now p)
    (λ p is. (write_made g.N.LiveName.opening.config c.args.self.now c.self.inside.bucket c.self.inside.publisher c.self.view_is c.self.invariant.0 c.args.request.now c.wrote.result c.revision-revision.result c.version.result.now c.in_ok-made.made c.version.ensures.value c.in_ok-made.ensures.config c.in_ok-made.ensures.ok c.wrote.ensures (c.revision-revision.ensures.value ∙ ap (λ (v : Stored). v.last) c.version-2.ensures) p is).0.0.1) c.new.ensures.ok

pub returns-clause-config : goal.returns-clause-config
returns-clause-config g c =
    IfOk-weaker c.new.result _ (λ p. p.version.config ≡ c.args.self.now.bucket.version.config)
    (λ p is. (write_made g.N.LiveName.opening.config c.args.self.now c.self.inside.bucket c.self.inside.publisher c.self.view_is c.self.invariant.0 c.args.request.now c.wrote.result c.revision-revision.result c.version.result.now c.in_ok-made.made c.version.ensures.value c.in_ok-made.ensures.config c.in_ok-made.ensures.ok c.wrote.ensures (c.revision-revision.ensures.value ∙ ap (λ (v : Stored). v.last) c.version-2.ensures) p is).1.0) c.new.ensures.ok

pub returns-clause-accepts : goal.returns-clause-accepts
returns-clause-accepts g c =
    IfOk-weaker c.new.result _ (λ p. (acts : List Act) → StandsFor acts c.args.self.now.bucket.version → (w : Write) × ((accept c.args.self.now.bucket.version.config (asked c.args.request.now) acts ≡ Ok w) × StandsFor (acts ++ Wrote w ∷ []) p.version))
    (λ p is. (write_made g.N.LiveName.opening.config c.args.self.now c.self.inside.bucket c.self.inside.publisher c.self.view_is c.self.invariant.0 c.args.request.now c.wrote.result c.revision-revision.result c.version.result.now c.in_ok-made.made c.version.ensures.value c.in_ok-made.ensures.config c.in_ok-made.ensures.ok c.wrote.ensures (c.revision-revision.ensures.value ∙ ap (λ (v : Stored). v.last) c.version-2.ensures) p is).1.1) c.new.ensures.ok
