use Rattle.std.proofs.Common.{◌∙◌}
use Rattle.kv_durable.proofs.Finding.{begun_found, begun_handed, reads_damaged, reads_found, reads_handed, reads_torn}
use Rattle.kv_durable.proofs.open.found_in.Goals as goal

pub returns-then-has_none-clause-ok : goal.returns-then-has_none-clause-ok
returns-then-has_none-clause-ok g c =
    begun_found g.F.JournalFile.has g.F.JournalFile.usable c.args.config.now c.args.seed c.args.file.now c.read_all.new.file c.begin_in.new.file c.as_slice-text.result.now
    (λ kept loose h. c.as_slice-text.ensures.value ∙ c.in_ok-bytes.ensures.bytes kept loose h) c.read_all.ensures.same c.in_ok-bytes.ensures.usable c.begin_in.result (c.has_none.ensures.yes c.if-has_none.true) c.begin_in.ensures.ok c.begin_in.ensures.file

pub returns-then-has_none-clause-handed : goal.returns-then-has_none-clause-handed
returns-then-has_none-clause-handed g c =
    begun_handed g.F.JournalFile.has g.F.JournalFile.usable c.args.config.now c.args.seed c.args.file.now c.read_all.new.file c.begin_in.new.file c.as_slice-text.result.now
    (λ kept loose h. c.as_slice-text.ensures.value ∙ c.in_ok-bytes.ensures.bytes kept loose h) c.read_all.ensures.same c.in_ok-bytes.ensures.usable c.begin_in.result (c.has_none.ensures.yes c.if-has_none.true) c.begin_in.ensures.handed

pub returns-clause-ok : goal.returns-clause-ok
returns-clause-ok g c =
    reads_found g.F.JournalFile.has g.F.JournalFile.usable c.args.config.now c.args.seed c.args.file.now c.read_all.new.file c.go_on_in.new.file c.as_slice-text.result.now
    (λ kept loose h. c.as_slice-text.ensures.value ∙ c.in_ok-bytes.ensures.bytes kept loose h) c.read_all.ensures.same c.in_ok-bytes.ensures.usable c.go_on_in.result (c.has_none.ensures.no c.if-has_none.false) c.go_on_in.ensures.ok c.go_on_in.ensures.file

pub returns-clause-torn : goal.returns-clause-torn
returns-clause-torn g c =
    reads_torn g.F.JournalFile.has g.F.JournalFile.usable c.args.config.now c.args.seed c.args.file.now c.read_all.new.file c.go_on_in.new.file c.as_slice-text.result.now
    (λ kept loose h. c.as_slice-text.ensures.value ∙ c.in_ok-bytes.ensures.bytes kept loose h) c.read_all.ensures.same c.in_ok-bytes.ensures.usable c.go_on_in.result c.go_on_in.ensures.torn

pub returns-clause-handed : goal.returns-clause-handed
returns-clause-handed g c =
    reads_handed g.F.JournalFile.has g.F.JournalFile.usable c.args.config.now c.args.seed c.args.file.now c.read_all.new.file c.go_on_in.new.file c.as_slice-text.result.now
    (λ kept loose h. c.as_slice-text.ensures.value ∙ c.in_ok-bytes.ensures.bytes kept loose h) c.read_all.ensures.same c.in_ok-bytes.ensures.usable c.go_on_in.result c.go_on_in.ensures.handed

pub returns-clause-damaged : goal.returns-clause-damaged
returns-clause-damaged g c =
    reads_damaged g.F.JournalFile.has g.F.JournalFile.usable c.args.config.now c.args.seed c.args.file.now c.read_all.new.file c.go_on_in.new.file c.as_slice-text.result.now
    (λ kept loose h. c.as_slice-text.ensures.value ∙ c.in_ok-bytes.ensures.bytes kept loose h) c.read_all.ensures.same c.in_ok-bytes.ensures.usable c.go_on_in.result c.go_on_in.ensures.damaged
