use Rattle.std.proofs.Common.{◌≡◌, ◌⊎◌, rules, ap, subst, ◌∙◌, [], List, ℕ}
use Rattle.kv_file.proofs.Added.{when_err}
use Rattle.kv_journal.specs.Header.{beginning}
use Rattle.kv_durable.proofs.Finding.{legal_from, memory_of_legal}
use Rattle.kv_durable.proofs.open.begin_in.Goals as goal

pub returns-in_err-bytes-clause-refused : goal.returns-in_err-bytes-clause-refused
returns-in_err-bytes-clause-refused g c =
    let inner = memory_of_legal c.args.config.now (legal_from c.args.config.now c.in_ok-bucket.bucket c.in_ok-bucket.ensures.ok) in
    search (rules, inner)

pub returns-in_err-own-clause-refused : goal.returns-in_err-own-clause-refused
returns-in_err-own-clause-refused g c =
    let inner = memory_of_legal c.args.config.now c.requires in
    search (rules, inner)

pub returns-in_err-put_first-clause-handed : goal.returns-in_err-put_first-clause-handed
returns-in_err-put_first-clause-handed g c = when_err c.from_residual-in_err-put_first.result (λ works h.
    let is : c.in_ok-bytes.bytes.items ≡ beginning c.args.seed c.args.config.now = c.in_ok-bytes.ensures.ok ∙ ap (λ (n : ℕ). beginning n c.args.config.now) c.new-framing.ensures in
    subst (λ (w : List ℕ). g.F.JournalFile.has c.put_first.new.file [] [] ⊎ g.F.JournalFile.has c.put_first.new.file w []) is (c.in_err-put_first.ensures.handed works h))

pub returns-clause-file : goal.returns-clause-file
returns-clause-file g c = λ works h.
    let is : c.in_ok-bytes.bytes.items ≡ beginning c.args.seed c.args.config.now = c.in_ok-bytes.ensures.ok ∙ ap (λ (n : ℕ). beginning n c.args.config.now) c.new-framing.ensures in
    subst (λ (w : List ℕ). g.F.JournalFile.has c.put_first.new.file w []) is (c.in_ok-put_first.ensures.ok works h)
