use Rattle.std.proofs.Common.{◌≡◌, ◌≤◌, ap, sym, ◌∙◌, subst, arith, List}
use Rattle.std.proofs.lemmas.Bool.Decides.{nat_tests}
use Rattle.kv_model.specs.Acts.{Act, IsPrefix}
use Rattle.kv_publish.specs.Beginnings.{IsSoFar, seen_of}
use Rattle.kv_publish.specs.declared.entry.Entry.{Entry}
use Rattle.kv_publish.specs.Openings.{HistoryName}
use Rattle.kv_publish.specs.Prefixes.{JournalPrefix}
use Rattle.kv_publish.proofs.Former.{seen_shorter}
use Rattle.kv_publish.proofs.prefix.RawPrefix.covers.Goals as goal

pub returns : goal.returns
returns c =
    let mine = c.self.inside in
    let theirs = c.other.inside in
    let both = c.learn.new.self.log in
    let began = mine.witness.book.began in
    let this : IsPrefix mine.witness.log both = subst (λ (l : List Entry). IsPrefix l both) (ap (λ s. s.log) c.again-both.ensures) c.learn.ensures.this in
    let same : theirs.witness.book.began ≡ began =
    ap (λ (p : JournalPrefix). p.book.began) c.other.view_is ∙ (ap (λ (b : HistoryName). b.began) c.requires ∙ sym (ap (λ (p : JournalPrefix). p.book.began) c.self.view_is)) in
    let far : IsSoFar theirs.acts began theirs.witness.log = subst (λ (a : List Act). IsSoFar theirs.acts a theirs.witness.log) same c.other.invariant.0 in
    let seen : seen_of theirs.acts began theirs.witness.log ≡ c.args.other.now.acts =
    ap (λ (a : List Act). seen_of theirs.acts a theirs.witness.log) (sym same) ∙ ap (λ (p : JournalPrefix). p.acts) c.other.view_is in
    rw (← c.self.view_is, ← seen) (record {
      yes = λ is.
          let fewer : theirs.acts ≤ mine.acts = grind (arith, nat_tests) in
          seen_shorter began theirs.witness.log mine.witness.log both theirs.acts mine.acts far c.self.invariant.0 c.learn.ensures.that this fewer;
      no = λ is.
          let more : mine.acts ≤ theirs.acts = grind (arith, nat_tests) in
          seen_shorter began mine.witness.log theirs.witness.log both mine.acts theirs.acts c.self.invariant.0 far this c.learn.ensures.that more;
    })
