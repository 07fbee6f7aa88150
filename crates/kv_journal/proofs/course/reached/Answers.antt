use Rattle.std.proofs.Common.{◌≡◌, ℕ, ◌+◌, ◌<◌, ◌≤◌, ◌++◌, ◌∷◌, List, true, false, arith, drop, get_or, length, sym, subst, take, ap, ◌∙◌}
use Rattle.std.specs.Prelude.{Ok, IfOk, MatchOption}
use Rattle.std.proofs.lemmas.List.{take_all}
use Rattle.kv_model.specs.Acts.{Write}
use Rattle.kv_model.specs.Configuration.{Configuration}
use Rattle.kv_model.specs.Requests.{asked, write_for}
use Rattle.kv_model.specs.declared.request.Request.{Request}
use Rattle.kv_journal.specs.Restored.{IsRestored}
use Rattle.kv_journal.specs.inside.Contents.{checkpoint_told, writes_told}
use Rattle.kv_journal.specs.inside.Courses.{IsCourse}
use Rattle.kv_journal.specs.inside.Reachable.{IsReachable}
use Rattle.kv_journal.proofs.Arriving.{told_more, told_split}
use Rattle.kv_journal.proofs.Reaching.{reachable_along}
use Rattle.kv_journal.proofs.course.reached.Goals as goal

pub loop-write-init : goal.loop-write-init
loop-write-init c = record {
  course = c.new-course.ensures.course;
  floor = c.new-course.ensures.floor;
  config = c.new-course.ensures.config;
}

pub add-requires : goal.add-requires
add-requires c = record { course = (writes_told (take c.loop-write.write-index c.args.contents.now.writes.items), c.loop-write.invariant.course) }

pub returns-then-not-branch-clause-found : goal.returns-then-not-branch-clause-found
returns-then-not-branch-clause-found c = λ r.
    let told = c.args.contents.now.writes.items in
    let numbers = c.args.contents.now.numbers in
    let i = c.loop-write.write-index in
    let t = c.write-item.result in
    let inv = c.loop-write.invariant in
    let l : i < length told = subst (λ (ts : List (ℕ × Request)). i < length ts) c.deref-write-items.ensures.value c.loop-write-test.true in
    let is : t ≡ get_or told i t = c.write-item.is ∙ ap (λ (ts : List (ℕ × Request)). get_or ts i t) c.deref-write-items.ensures.value in
    let ws = writes_told (take i told) in
    let more = writes_told (drop (i + 1) told) in
    let w = write_for (asked t.1) t.0 in
    let e : c.add.result ≡ Ok false = c.in_ok-add.was ∙ ap Ok c.if-not-branch.true in
    c.add.ensures.never e ws more numbers.last numbers.values inv.course
    (reachable_along c.args.config.now c.loop-write.course.config.now (writes_told told) (ws ++ w ∷ more) numbers.last numbers.values numbers.floor c.loop-write.course.floor (sym inv.config) (told_split told i t l is) (sym inv.floor) r)

pub loop-write-preserved : goal.loop-write-preserved
loop-write-preserved c =
    let told = c.args.contents.now.writes.items in
    let i = c.loop-write.write-index in
    let t = c.write-item.result in
    let inv = c.loop-write.invariant in
    let l : i < length told = subst (λ (ts : List (ℕ × Request)). i < length ts) c.deref-write-items.ensures.value c.loop-write-test.true in
    let is : t ≡ get_or told i t = c.write-item.is ∙ ap (λ (ts : List (ℕ × Request)). get_or ts i t) c.deref-write-items.ensures.value in
    let e : c.add.result ≡ Ok true = c.in_ok-add.was ∙ ap Ok c.if-not-branch.false in
    let same = c.in_ok-add.ensures.same in
    record {
      course = subst (λ (ws : List Write). IsCourse ws c.add.new.self) (sym (told_more told i t l is)) (c.add.ensures.added e (writes_told (take i told)) inv.course);
      floor = same.0 ∙ inv.floor;
      config = same.1 ∙ inv.config;
    }

pub finish-requires-clause-course : goal.finish-requires-clause-course
finish-requires-clause-course c =
    let told = c.args.contents.now.writes.items in
    let i = c.loop-write.write-index in
    let past : length told ≤ i = subst (λ (ts : List (ℕ × Request)). length ts ≤ i) c.deref-write-items.ensures.value (omega (arith, c.loop-write-test.false)) in
    subst (λ (ts : List (ℕ × Request)). IsCourse (writes_told ts) c.loop-write.course) (take_all i told past) c.loop-write.invariant.course

pub finish-requires-clause-floor : goal.finish-requires-clause-floor
finish-requires-clause-floor c = c.loop-write.invariant.floor

pub returns-clause-found : goal.returns-clause-found
returns-clause-found c =
    let contents = c.args.contents.now in
    let ws = writes_told contents.writes.items in
    let numbers = contents.numbers in
    subst
    (λ (k : Configuration). IfOk c.finish.result (λ found. MatchOption found (IsReachable k ws numbers.last numbers.values numbers.floor → ⊥)
    (λ v. IsReachable k ws numbers.last numbers.values numbers.floor × IsRestored k (checkpoint_told contents) v)))
    c.loop-write.invariant.config c.finish.ensures.found
