use Rattle.std.proofs.Common.{◌≡◌, ◌+◌, ◌≤◌, ◌<◌, ◌++◌, inr, ap, sym, ◌∙◌, subst, arith, length, List}
use Rattle.std.proofs.lemmas.Bool.Decides.{nat_tests}
use Rattle.kv_model.specs.Acts.{Act, IsPrefix}
use Rattle.kv_publish.specs.Beginnings.{counted, seen_of}
use Rattle.kv_publish.specs.Rules.{acts_in}
use Rattle.kv_publish.specs.declared.entry.Entry.{Entry}
use Rattle.kv_publish.specs.Openings.{HistoryName}
use Rattle.kv_publish.specs.Prefixes.{JournalPrefix}
use Rattle.kv_publish.proofs.Former.{seen_all, seen_before, seen_shorter}
use Rattle.kv_publish.proofs.prefix.RawPrefix.has_step.Goals as goal

pub returns-clause-yes : goal.returns-clause-yes
returns-clause-yes c is =
    let mine = c.self.inside in
    let step = c.args.step.now.log in
    let both = c.learn.new.self.log in
    let began = mine.witness.book.began in
    let this : IsPrefix mine.witness.log both = subst (λ (l : List Entry). IsPrefix l both) (ap (λ s. s.log) c.again-both.ensures) c.learn.ensures.this in
    let fewer : c.args.acts ≤ mine.acts = grind (arith, nat_tests) in
    let same : c.args.step.now.book.began ≡ began = ap (λ (b : HistoryName). b.began) c.requires.book ∙ sym (ap (λ (p : JournalPrefix). p.book.began) c.self.view_is) in
    let far : c.args.acts ≡ counted began + length step = c.requires.acts.0 ∙ ap (λ (a : List Act). counted a + length step) same in
    let all : seen_of c.args.acts began step ≡ c.args.step.now.book.began ++ acts_in step = seen_all c.args.acts began step far ∙ ap (λ (a : List Act). a ++ acts_in step) (sym same) in
    rw (← c.self.view_is, ← all) (seen_shorter began step mine.witness.log both c.args.acts mine.acts (inr far) c.self.invariant.0 c.learn.ensures.that this fewer)

pub returns-clause-no : goal.returns-clause-no
returns-clause-no c is =
    let mine = c.self.inside in
    let step = c.args.step.now.log in
    let both = c.learn.new.self.log in
    let began = mine.witness.book.began in
    let this : IsPrefix mine.witness.log both = subst (λ (l : List Entry). IsPrefix l both) (ap (λ s. s.log) c.again-both.ensures) c.learn.ensures.this in
    let more : mine.acts < c.args.acts = grind (arith, nat_tests) in
    let same : c.args.step.now.book.began ≡ began = ap (λ (b : HistoryName). b.began) c.requires.book ∙ sym (ap (λ (p : JournalPrefix). p.book.began) c.self.view_is) in
    let far : c.args.acts ≡ counted began + length step = c.requires.acts.0 ∙ ap (λ (a : List Act). counted a + length step) same in
    rw (← c.self.view_is, same) (seen_before began c.args.before mine.witness.log step both mine.acts c.args.acts c.self.invariant.0 far this c.learn.ensures.that c.self.invariant.1 c.requires.step more)
