use Rattle.std.proofs.Common.{◌≡◌, ◌⊎◌, ◌∙◌, ◌*◌, ◌<◌, ◌≤◌, List, [], ap, false, refl}
use Rattle.std.proofs.lemmas.Result.{IfErr-weaker}
use Rattle.kv_durable.proofs.Replacing.{by_checkpoint, is_left, is_replaced, still_at}
use Rattle.kv_durable.specs.Bases.{opening_size}
use Rattle.kv_durable.specs.Durables.{IsAt, checkpoint_at}
use Rattle.kv_durable.specs.Journals.{HasEntries, is_stopped}
use Rattle.kv_durable_live.specs.Sharing.{durable_of}
use Rattle.kv_durable_live.proofs.keeper.DurableKeeper.replace_large.Goals as goal
use Rattle.kv_journal.specs.Entries.{Entry}
use Rattle.kv_model.specs.State.{State}

pub returns-clause-small : goal.returns-clause-small
returns-clause-small g c = λ e state ks ls at.
    let old = durable_of c.args.self.now.keeper c.args.self.now.journal in
    let own = c.version.ensures.value ∙ ap (λ b. b.version) c.bucket-bucket.ensures.value in
    by_checkpoint g.F.JournalFile.has g.F.JournalFile.usable c.version.result.now old own state ks ls at (λ base. old.journal.appender.offset ≤ 2 * opening_size c.args.seed base) (c.replace_if_large.ensures.small e)

pub returns-clause-large : goal.returns-clause-large
returns-clause-large g c = λ e state ks ls at.
    let old = durable_of c.args.self.now.keeper c.args.self.now.journal in
    let own = c.version.ensures.value ∙ ap (λ b. b.version) c.bucket-bucket.ensures.value in
    by_checkpoint g.F.JournalFile.has g.F.JournalFile.usable c.version.result.now old own state ks ls at (λ base. 2 * opening_size c.args.seed base < old.journal.appender.offset) (c.replace_if_large.ensures.large e)

pub returns-clause-replaced : goal.returns-clause-replaced
returns-clause-replaced g c = λ e state ks ls at.
    let old = durable_of c.args.self.now.keeper c.args.self.now.journal in
    let new = durable_of c.args.self.now.keeper c.replace_if_large.new.self in
    let own = c.version.ensures.value ∙ ap (λ b. b.version) c.bucket-bucket.ensures.value in
    is_replaced g.F.JournalFile.has g.F.JournalFile.usable c.version.result.now old own state ks ls at new refl (c.replace_if_large.ensures.replaced e)

pub returns-clause-goes_on : goal.returns-clause-goes_on
returns-clause-goes_on g c =
    let has = g.F.JournalFile.has in
    let usable = g.F.JournalFile.usable in
    let old = durable_of c.args.self.now.keeper c.args.self.now.journal in
    let new = durable_of c.args.self.now.keeper c.replace_if_large.new.self in
    IfErr-weaker c.replace_if_large.result _
    (λ _. is_stopped usable new.journal ≡ false → (state : State) (kept loose : List Entry) (at : IsAt has usable state kept loose old) → (next : IsAt has usable state kept loose new) × (next.base ≡ at.base))
    (λ _ on goes. still_at has usable old new refl (on goes)) c.replace_if_large.ensures.goes_on

pub returns-clause-either : goal.returns-clause-either
returns-clause-either g c =
    let has = g.F.JournalFile.has in
    let usable = g.F.JournalFile.usable in
    let old = durable_of c.args.self.now.keeper c.args.self.now.journal in
    let file = c.replace_if_large.new.self.appender.file in
    let own = c.version.ensures.value ∙ ap (λ b. b.version) c.bucket-bucket.ensures.value in
    IfErr-weaker c.replace_if_large.result _
    (λ _. (state : State) (kept loose : List Entry) (at : IsAt has usable state kept loose old) → HasEntries has old.journal.framing.seed at.base kept loose file ⊎ HasEntries has c.args.seed (checkpoint_at state) [] [] file)
    (λ _ on state ks ls at. is_left has usable c.version.result.now old own state ks ls at file c.args.seed on) c.replace_if_large.ensures.either
