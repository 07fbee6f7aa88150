use Rattle.std.proofs.Common.{◌≡◌, false, List, ◌∷◌, [], ◌++◌, sym, ap, ◌∙◌, subst}
use Rattle.std.proofs.lemmas.Result.{IfOk-weaker}
use Rattle.kv_model.specs.Acts.{Act, Compact}
use Rattle.kv_model.specs.Answers.{Compacted}
use Rattle.kv_model.specs.Compaction.{is_bad_floor}
use Rattle.kv_model.specs.declared.call.Call.TheVariants as calls
use Rattle.kv_single.specs.Stepping.{IsStep}
use Rattle.kv_store.specs.Standing.{StandsFor}
use Rattle.kv_store.specs.Stored.{Stored}
use Rattle.kv_bucket.specs.Keeping.{ComesNext, IsKeptStep, kept_with}
use Rattle.kv_bucket.proofs.Preparing.{compaction_made}
use Rattle.kv_bucket.proofs.keeper.Keeper.next_compaction.Goals as goal

pub returns-clause-ok : goal.returns-clause-ok
returns-clause-ok g c =
    IfOk-weaker c.new-2.result _ (λ p. (p.act ≡ Compact c.args.floor) × IsKeptStep c.args.self.now (calls.Compact c.args.floor) (Compacted c.args.floor) (kept_with c.args.self.now (p.act ∷ []) p.version))
    (λ p is. let m = compaction_made g.N.LiveName.opening.config c.args.self.now c.self.inside.bucket c.self.inside.publisher c.self.view_is c.self.invariant.0 c.args.floor c.compact-2.result c.version.result.now c.new.result c.version.ensures.value (ap (λ (v : Stored). v.config) c.new.ensures ∙ c.in_ok-next.ensures.config) (subst (λ (v : Stored). (acts : List Act) → StandsFor acts c.version.result.now → (is_bad_floor c.args.floor acts ≡ false) × StandsFor (acts ++ Compact c.args.floor ∷ []) v) (sym c.new.ensures) c.in_ok-next.ensures.ok) c.in_ok-may_compact.ensures.ok c.compact-2.ensures p is in (m.0, m.1.0.0)) c.new-2.ensures.ok

pub returns-clause-next : goal.returns-clause-next
returns-clause-next g c =
    IfOk-weaker c.new-2.result _ (λ p. ComesNext g.N.LiveName.opening.config c.args.self.now p)
    (λ p is. let m = compaction_made g.N.LiveName.opening.config c.args.self.now c.self.inside.bucket c.self.inside.publisher c.self.view_is c.self.invariant.0 c.args.floor c.compact-2.result c.version.result.now c.new.result c.version.ensures.value (ap (λ (v : Stored). v.config) c.new.ensures ∙ c.in_ok-next.ensures.config) (subst (λ (v : Stored). (acts : List Act) → StandsFor acts c.version.result.now → (is_bad_floor c.args.floor acts ≡ false) × StandsFor (acts ++ Compact c.args.floor ∷ []) v) (sym c.new.ensures) c.in_ok-next.ensures.ok) c.in_ok-may_compact.ensures.ok c.compact-2.ensures p is in m.1.0.1) c.new-2.ensures.ok

pub returns-clause-step : goal.returns-clause-step
returns-clause-step g c =
    IfOk-weaker c.new-2.result _ (λ p. IsStep c.args.self.now.bucket (calls.Compact c.args.floor) (Compacted c.args.floor) (record c.args.self.now.bucket { version = p.version }))
    (λ p is. let m = compaction_made g.N.LiveName.opening.config c.args.self.now c.self.inside.bucket c.self.inside.publisher c.self.view_is c.self.invariant.0 c.args.floor c.compact-2.result c.version.result.now c.new.result c.version.ensures.value (ap (λ (v : Stored). v.config) c.new.ensures ∙ c.in_ok-next.ensures.config) (subst (λ (v : Stored). (acts : List Act) → StandsFor acts c.version.result.now → (is_bad_floor c.args.floor acts ≡ false) × StandsFor (acts ++ Compact c.args.floor ∷ []) v) (sym c.new.ensures) c.in_ok-next.ensures.ok) c.in_ok-may_compact.ensures.ok c.compact-2.ensures p is in m.1.1) c.new-2.ensures.ok
