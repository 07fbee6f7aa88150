use Rattle.std.proofs.Common.{◌≡◌, ℕ, ◌-◌, ◌<◌, List, false, arith, filter, length, sym, subst, ap, ◌∙◌}
use Rattle.std.proofs.lemmas.List.{length-map}
use Rattle.std.specs.Prelude.{◌==◌, nat_lt}
use Rattle.std.proofs.lemmas.Bool.{eq-eqb, eqb-true}
use Rattle.kv_model.specs.Configuration.{Configuration}
use Rattle.kv_model.specs.Requests.{asked, write_for}
use Rattle.kv_model.specs.Retained.{is_cleared}
use Rattle.kv_model.specs.declared.request.Request.{Request}
use Rattle.kv_journal.specs.Restored.{those_of}
use Rattle.kv_journal.specs.inside.Contents.{writes_told}
use Rattle.kv_journal.specs.inside.Reachable.{is_kept_among, last_among}
use Rattle.kv_journal.proofs.Reaching.{fewer, is_reachable}
use Rattle.kv_journal.proofs.RisingWrites.{rise_last}
use Rattle.kv_journal.proofs.course.Course.ends.Goals as goal
use Rattle.kv_journal.proofs.course.Course.ends.Goals.{then-last-config-via-then-last-config, then-last-config-via-else-last-config+then-stored_last-last, then-last-config-via-else-last-config+else-stored_last-last+then-numbers-last, then-stored_last-last-2, else-stored_last-last-2, then-above-last, else-above-last}

pub returns-then-last-config-clause-no : goal.returns-then-last-config-clause-no
returns-then-last-config-clause-no c = λ r.
    elim c.then-last-config.branch [
      | then-last-config-via-then-last-config w ↦ absurd (omega (arith, w.if-last-config.true, r.limit, ap (λ (k : Configuration). k.revision_limit) c.config.view_is))
      | then-last-config-via-else-last-config+then-stored_last-last w ↦ absurd (omega (arith, w.if-stored_last-last.true, c.requires.course.last, c.revision-stored_last.ensures.value, rise_last 0 c.args.contents.now.numbers.last (writes_told c.args.contents.now.writes.items) r.rise))
      | then-last-config-via-else-last-config+else-stored_last-last+then-numbers-last w ↦ absurd (omega (arith, w.if-numbers-last.true, r.above))
    ]

pub returns-then-kept-numbers-clause-yes : goal.returns-then-kept-numbers-clause-yes
returns-then-kept-numbers-clause-yes c = λ t.
    let course = c.args.self.now in
    let config = course.config.now in
    let is = c.requires.course in
    let told = c.args.contents.now.writes.items in
    let ws = writes_told told in
    let numbers = c.args.contents.now.numbers in
    let many : length ws ≡ c.len-count.result =
    length-map told (λ (u : ℕ × Request). write_for (asked u.1) u.0) ∙ ap (λ (ts : List (ℕ × Request)). length ts) (sym c.deref.ensures.value) ∙ c.deref.ensures.len ∙ sym c.len-count.ensures in
    let most : c.config.inside.write_limit ≡ config.write_limit = ap (λ (k : Configuration). k.write_limit) c.config.view_is in
    let room : last_among ws < numbers.last → length ws < config.write_limit = λ l.
    elim c.if-stored_last-last-2.branch [
      | then-stored_last-last-2 w ↦ fewer (length ws) config.write_limit (omega arith) (ap (λ (n : ℕ). length ws == n) (sym most) ∙ ap (λ (n : ℕ). n == c.config.inside.write_limit) many ∙ sym w.value-is ∙ c.if-count-config-2.false)
      | else-stored_last-last-2 w ↦ absurd (omega (arith, w.if-stored_last-last-2.false, is.last, c.revision-stored_last.ensures.value))
    ] in
    let above : length (filter (λ v. nat_lt numbers.floor v.revision) ws) ≡ c.above.result =
    sym (c.above.ensures ∙ ap (λ (ts : List (ℕ × Request)). length (filter (λ v. nat_lt numbers.floor v.revision) (writes_told ts))) c.deref.ensures.value) in
    let spared : (key : List ℕ) → is_cleared numbers.floor (those_of key ws) ≡ false =
    subst (λ (ts : List (ℕ × Request)). (key : List ℕ) → is_cleared numbers.floor (those_of key (writes_told ts)) ≡ false) c.deref-then-kept-numbers.ensures.value (c.are_spared.ensures.yes t) in
    elim c.if-above-last.branch [
      | then-above-last w ↦
          let kept : length (filter (is_kept_among config.history ws) ws) ≡ w.kept.result =
          sym (w.kept.ensures ∙ ap (λ (ts : List (ℕ × Request)). length (filter (is_kept_among course.version.config.history (writes_told ts)) (writes_told ts))) w.deref-then-above-last.ensures.value ∙ ap (λ (k : Configuration). length (filter (is_kept_among k.history ws) ws)) is.same) in
          is_reachable ws course numbers.last numbers.values numbers.floor is c.requires.floor
          (omega (arith, c.if-last-config.false, ap (λ (k : Configuration). k.revision_limit) c.config.view_is))
          (omega (arith, c.if-stored_last-last.false, is.last, c.revision-stored_last.ensures.value))
          (omega (arith, c.if-numbers-last.false))
          (omega (arith, c.if-count-config.false, many, most))
          room
          (above ∙ w.if-above-last.true)
          (kept ∙ eqb-true w.kept.result numbers.values (sym w.value-is ∙ c.if-kept-numbers.true))
          spared
      | else-above-last w ↦ absurd (w.if-above-last.false (eqb-true c.above.result (numbers.last - numbers.floor) (sym w.value-is ∙ c.if-kept-numbers.true)))
    ]

pub returns-else-kept-numbers-clause-no : goal.returns-else-kept-numbers-clause-no
returns-else-kept-numbers-clause-no c = λ r.
    let course = c.args.self.now in
    let config = course.config.now in
    let told = c.args.contents.now.writes.items in
    let ws = writes_told told in
    let numbers = c.args.contents.now.numbers in
    let above : c.above.result ≡ length (filter (λ v. nat_lt numbers.floor v.revision) ws) =
    c.above.ensures ∙ ap (λ (ts : List (ℕ × Request)). length (filter (λ v. nat_lt numbers.floor v.revision) (writes_told ts))) c.deref.ensures.value in
    elim c.if-above-last.branch [
      | then-above-last w ↦
          let kept : w.kept.result ≡ numbers.values =
          w.kept.ensures ∙ ap (λ (ts : List (ℕ × Request)). length (filter (is_kept_among course.version.config.history (writes_told ts)) (writes_told ts))) w.deref-then-above-last.ensures.value
          ∙ ap (λ (k : Configuration). length (filter (is_kept_among k.history ws) ws)) c.requires.course.same ∙ r.retained in
          w.value-is ∙ eq-eqb w.kept.result numbers.values kept
      | else-above-last w ↦ absurd (w.if-above-last.false (omega (arith, above, r.above)))
    ]
