use Rattle.std.proofs.Common.{[], ◌≡◌, ◌∙◌, ℕ, List, ap, sym, subst, true}
use Rattle.std.proofs.lemmas.Result.{IfErr-weaker, IfOk-weaker}
use Rattle.kv_durable.specs.Bases.{fresh}
use Rattle.kv_durable.specs.Journals.{Keeps}
use Rattle.kv_durable_live.specs.Openings.{IsRead, LeavesFile}
use Rattle.kv_durable_live.proofs.Opening.{is_read, new_from, opened_leaves}
use Rattle.kv_durable_live.proofs.open.DurableLive+Brand+F.open.Goals as goal

pub of_read-requires-clause-read : goal.of_read-requires-clause-read
of_read-requires-clause-read g c =
    let has = g.F.JournalFile.has in
    let usable = g.F.JournalFile.usable in
    let o = c.in-Ok.read in
    let read = c.in-Ok.ensures.read in (
      read.0,
      read.1,
      subst (λ file. IsRead has usable c.args.config.now file read.0 read.1 o.durable o.dropped) (sym c.of-before.ensures)
          (is_read has usable c.args.config.now c.args.file read.0 read.1 o.durable o.dropped o.checkpointed read.2 read.3 read.4 c.in-Ok.ensures.reopened),
    )

pub returns-in-Ok-clause-new : goal.returns-in-Ok-clause-new
returns-in-Ok-clause-new g c =
    let has = g.F.JournalFile.has in
    let usable = g.F.JournalFile.usable in
    let file = c.args.file in
    let config = c.args.config.now in
    IfOk-weaker c.of_read.result _ (λ o. usable file ≡ true → has file [] [] → Keeps has usable (fresh config) [] [] o.journal × (o.opened.opening.book.began ≡ []))
    (λ o from works h. new_from has usable config file o.journal o.opened.opening.book.began from works h) (rw c.of-before.ensures at c.of_read.ensures.from)

pub returns-in-Ok-clause-from : goal.returns-in-Ok-clause-from
returns-in-Ok-clause-from g c = rw c.of-before.ensures at c.of_read.ensures.from

pub returns-in-Ok-clause-seed : goal.returns-in-Ok-clause-seed
returns-in-Ok-clause-seed g c =
    let has = g.F.JournalFile.has in
    let usable = g.F.JournalFile.usable in
    let file = c.args.file in
    IfOk-weaker c.of_read.result _ (λ o. usable file ≡ true → has file [] [] → o.journal.framing.seed ≡ c.args.seed)
    (λ o same works h. ap (λ j. j.framing.seed) same ∙ (c.in-Ok.ensures.new works h).1.has_seed) c.of_read.ensures.journal

pub returns-in-Ok-clause-left : goal.returns-in-Ok-clause-left
returns-in-Ok-clause-left g c =
    let has = g.F.JournalFile.has in
    let usable = g.F.JournalFile.usable in
    let file = c.args.file in
    let config = c.args.config.now in
    let o = c.in-Ok.read in
    let read = c.in-Ok.ensures.read in
    IfErr-weaker c.of_read.result _ (λ r. usable file ≡ true → (kept loose : List ℕ) → has file kept loose → LeavesFile has config c.args.seed kept loose r.file)
    (λ r same works kept loose h. subst (LeavesFile has config c.args.seed kept loose) (sym same)
    (opened_leaves has usable config file c.args.seed read.0 read.1 o.durable o.dropped read.2 read.4 (λ works_so none. (c.in-Ok.ensures.new works_so none).1) works kept loose h))
    c.of_read.ensures.file
