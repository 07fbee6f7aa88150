use Rattle.std.proofs.Common.{◌+◌, ◌++◌, length, ap, sym, ◌∙◌, subst, List}
use Rattle.kv_model.specs.Acts.{Act, IsPrefix}
use Rattle.logbook.specs.Pages.{nib, may_write}
use Rattle.kv_publish.specs.declared.entry.Entry.{Entry}
use Rattle.kv_publish.specs.Rules.{acts_in, head_of, right_behind}
use Rattle.kv_publish.specs.Openings.{HistoryName}
use Rattle.kv_publish.proofs.Former.{seen_less, seen_whole, seen_within}
use Rattle.kv_publish.proofs.raw_journal.RawJournal.is_seen.Goals as goal

pub look-requires : goal.look-requires
look-requires g c =
    let inv = c.self.invariant in
    let same = c.with-both.ensures.book ∙ inv.1 in
    (inv.2 ∙ sym (ap (λ (b : HistoryName). head_of b.written_in) same), inv.3 ∙ sym (ap (λ (b : HistoryName). b.written_in) same))

pub returns-clause-within : goal.returns-clause-within
returns-clause-within g c =
    let inv = c.self.invariant in
    let journal = c.self.inside.witness.log in
    let same = c.with-both.ensures.book ∙ inv.1 in
    let began = g.N.LiveName.opening.book.began in
    let seen : IsPrefix c.args.prefix.now (began ++ acts_in c.with-both.result.log) =
    subst (λ (acts : List Act). IsPrefix acts (began ++ acts_in c.with-both.result.log)) c.raw_prefix.ensures.0
    (subst (λ (b : HistoryName). IsPrefix c.raw_prefix.result.now.acts (b.began ++ acts_in c.with-both.result.log)) same c.with-both.ensures.this) in
    seen_within began c.args.prefix.now (began ++ acts_in c.args.self.now) journal c.with-both.result.log c.look.new.self.log (ap (λ (log : List Entry). began ++ acts_in log) c.self.view_is) seen c.look.ensures.longer
    (c.look.ensures.all journal c.with-both.ensures.that (inv.4 ∙ ap (λ (b : HistoryName). nib may_write (right_behind b.first journal) 0) (sym same)))

pub returns-clause-yes : goal.returns-clause-yes
returns-clause-yes g c is =
    let inv = c.self.invariant in
    let began = g.N.LiveName.opening.book.began in
    let journal = c.self.inside.witness.log in
    seen_whole began c.args.prefix.now (began ++ acts_in c.args.self.now) journal c.len.result c.self.inside.acts (ap (λ (log : List Entry). began ++ acts_in log) c.self.view_is) (returns-clause-within g c) c.len.ensures.begins c.len.ensures.value
    (inv.0 ∙ ap (λ n. n + length journal) inv.5) is

pub returns-clause-no : goal.returns-clause-no
returns-clause-no g c is =
    let inv = c.self.invariant in
    let began = g.N.LiveName.opening.book.began in
    let journal = c.self.inside.witness.log in
    seen_less began c.args.prefix.now (began ++ acts_in c.args.self.now) journal c.len.result c.self.inside.acts (ap (λ (log : List Entry). began ++ acts_in log) c.self.view_is) (returns-clause-within g c) c.len.ensures.begins c.len.ensures.value
    (inv.0 ∙ ap (λ n. n + length journal) inv.5) is
