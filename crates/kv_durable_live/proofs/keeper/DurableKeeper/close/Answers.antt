use Rattle.std.proofs.Common.{◌≡◌, List, ◌++◌, ◌∙◌, subst}
use Rattle.std.proofs.lemmas.Result.{IfErr-weaker, IfOk-weaker}
use Rattle.kv_durable.specs.Durables as durables
use Rattle.kv_durable.specs.Endings.{IsClosed, end_of}
use Rattle.kv_durable.specs.Journals.{IsLeft, told_next}
use Rattle.kv_durable_live.specs.Sharing.{IsAt, durable_of}
use Rattle.kv_durable_live.proofs.Accepting.{parts_are}
use Rattle.kv_durable_live.proofs.keeper.DurableKeeper.close.Goals as goal
use Rattle.kv_journal.specs.Entries.{Entry}
use Rattle.kv_model.specs.State.{State}

pub returns-clause-ok : goal.returns-clause-ok
returns-clause-ok g c =
    let has = g.F.JournalFile.has in
    let usable = g.F.JournalFile.usable in
    let keeper = c.args.self.keeper in
    let journal = c.args.self.journal in
    let is : c.from_parts.result ≡ durable_of keeper journal = parts_are c.from_parts.result keeper journal (c.from_parts.ensures.0 ∙ c.close.ensures) c.from_parts.ensures.1 in
    IfOk-weaker c.close-2.result _ (λ file. (state : State) (kept loose : List Entry) (at : IsAt has usable state kept loose keeper journal) → IsClosed has at.durable.base kept loose state.acts journal file)
    (λ file h state kept loose at. subst (λ d. (there : durables.IsAt has usable state kept loose d) → IsClosed has there.base kept loose state.acts d.journal file) is (h state kept loose) at.durable) c.close-2.ensures.ok

pub returns-clause-handed : goal.returns-clause-handed
returns-clause-handed g c =
    let has = g.F.JournalFile.has in
    let usable = g.F.JournalFile.usable in
    let keeper = c.args.self.keeper in
    let journal = c.args.self.journal in
    let is : c.from_parts.result ≡ durable_of keeper journal = parts_are c.from_parts.result keeper journal (c.from_parts.ensures.0 ∙ c.close.ensures) c.from_parts.ensures.1 in
    IfErr-weaker c.close-2.result _ (λ r. (state : State) (kept loose : List Entry) (at : IsAt has usable state kept loose keeper journal) → IsLeft has journal.framing.seed at.durable.base kept (loose ++ told_next journal (end_of state.acts)) r.file)
    (λ r h state kept loose at. subst (λ d. (there : durables.IsAt has usable state kept loose d) → IsLeft has d.journal.framing.seed there.base kept (loose ++ told_next d.journal (end_of state.acts)) r.file) is (h state kept loose) at.durable) c.close-2.ensures.handed
