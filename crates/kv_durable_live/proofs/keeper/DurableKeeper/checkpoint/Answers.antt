use Rattle.std.proofs.Common.{◌≡◌, ◌⊎◌, ◌∙◌, List, [], ap, false, refl}
use Rattle.std.proofs.lemmas.Result.{IfErr-weaker, IfOk-weaker}
use Rattle.kv_durable.specs.Durables.{IsReplaced, checkpoint_at}
use Rattle.kv_durable.specs.Journals.{HasEntries, is_stopped}
use Rattle.kv_durable.proofs.Replacing.{is_left, is_replaced}
use Rattle.kv_durable_live.specs.Sharing.{IsAt, durable_of}
use Rattle.kv_durable_live.proofs.Checkpointing.{is_still}
use Rattle.kv_durable_live.proofs.keeper.DurableKeeper.checkpoint.Goals as goal
use Rattle.kv_journal.specs.Entries.{Entry}
use Rattle.kv_model.specs.State.{State}

pub returns-clause-ok : goal.returns-clause-ok
returns-clause-ok g c =
    let has = g.F.JournalFile.has in
    let usable = g.F.JournalFile.usable in
    let keeper = c.args.self.now.keeper in
    let old = c.args.self.now.journal in
    let new = c.replace_by_checkpoint.new.self in
    let own = c.version.ensures.value ∙ ap (λ b. b.version) c.bucket-bucket.ensures.value in
    IfOk-weaker c.replace_by_checkpoint.result _ (λ _. IsReplaced has usable (λ s. s) (durable_of keeper old) (durable_of keeper new))
    (λ _ on state ks ls at. is_replaced has usable c.version.result.now (durable_of keeper old) own state ks ls at (durable_of keeper new) refl on) c.replace_by_checkpoint.ensures.ok

pub returns-clause-goes_on : goal.returns-clause-goes_on
returns-clause-goes_on g c =
    let has = g.F.JournalFile.has in
    let usable = g.F.JournalFile.usable in
    let keeper = c.args.self.now.keeper in
    let old = c.args.self.now.journal in
    let new = c.replace_by_checkpoint.new.self in
    IfErr-weaker c.replace_by_checkpoint.result _ (λ _. is_stopped usable new ≡ false → (state : State) (kept loose : List Entry) (at : IsAt has usable state kept loose keeper old) → (next : IsAt has usable state kept loose keeper new) × (next.durable.base ≡ at.durable.base))
    (λ _ on goes. is_still has usable keeper old new (on goes)) c.replace_by_checkpoint.ensures.goes_on

pub returns-clause-left : goal.returns-clause-left
returns-clause-left g c =
    let has = g.F.JournalFile.has in
    let usable = g.F.JournalFile.usable in
    let keeper = c.args.self.now.keeper in
    let old = c.args.self.now.journal in
    let file = c.replace_by_checkpoint.new.self.appender.file in
    let own = c.version.ensures.value ∙ ap (λ b. b.version) c.bucket-bucket.ensures.value in
    IfErr-weaker c.replace_by_checkpoint.result _
    (λ _. (state : State) (kept loose : List Entry) (at : IsAt has usable state kept loose keeper old) → HasEntries has old.framing.seed at.durable.base kept loose file ⊎ HasEntries has c.args.seed (checkpoint_at state) [] [] file)
    (λ _ on state ks ls at. is_left has usable c.version.result.now (durable_of keeper old) own state ks ls at.durable file c.args.seed on) c.replace_by_checkpoint.ensures.left
