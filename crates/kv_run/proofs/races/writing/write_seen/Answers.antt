use Rattle.std.proofs.Common.{◌≡◌, ◌+◌, ◌<◌, [], length, map, get_or, ap, sym, arith, rules, ◌∙◌}
use Rattle.std.proofs.lemmas.List.{get_or-map, length-map}
use Rattle.kv_single.specs.Replies.{answer_of}
use Rattle.kv_run.specs.Reporting.{seen_text}
use Rattle.kv_replay.proofs.Progress.{on_err}
use Rattle.kv_run.proofs.Reporting.{text_made, told_more, told_part}
use Rattle.kv_run.proofs.races.writing.write_seen.Goals as goal

pub returns-in_err-write-clause-err : goal.returns-in_err-write-clause-err
returns-in_err-write-clause-err g c =
    let all = c.args.seen.now in
    let n = c.loop-n.n in
    let within : n < length all = omega arith in
    let found : c.index-seen-n.result ≡ get_or all n c.index-seen-n.result = search rules in
    let is = ap (λ some. map answer_of some.items) found ∙ sym (get_or-map (λ some. map answer_of some.items) all n c.index-seen-n.result [] within) in
    let text : c.deref-in-loop-n.result.now ≡ seen_text c.args.form (n + 1) (map answer_of c.index-seen-n.result.items) =
    text_made _ _ _ _ c.deref-in-loop-n.ensures.value c.in_ok-append_seen.ensures.ok c.new-out.ensures.items ∙ ap (λ items. seen_text c.args.form (n + 1) (map answer_of items)) c.deref.ensures.value in
    on_err c.from_residual-in_err-write.result
    (told_part (seen_text c.args.form) (map (λ some. map answer_of some.items) all) _ _ n c.loop-n.invariant.told _ (map answer_of c.index-seen-n.result.items) _ (rw (length-map all (λ some. map answer_of some.items)) within) is
    text c.in_err-write.ensures.err)

pub loop-n-preserved : goal.loop-n-preserved
loop-n-preserved g c =
    let all = c.args.seen.now in
    let n = c.loop-n.n in
    let within : n < length all = omega arith in
    let found : c.index-seen-n.result ≡ get_or all n c.index-seen-n.result = search rules in
    let is = ap (λ some. map answer_of some.items) found ∙ sym (get_or-map (λ some. map answer_of some.items) all n c.index-seen-n.result [] within) in
    let text : c.deref-in-loop-n.result.now ≡ seen_text c.args.form (n + 1) (map answer_of c.index-seen-n.result.items) =
    text_made _ _ _ _ c.deref-in-loop-n.ensures.value c.in_ok-append_seen.ensures.ok c.new-out.ensures.items ∙ ap (λ items. seen_text c.args.form (n + 1) (map answer_of items)) c.deref.ensures.value in
    record {
      same = g.met.K.Output.goes_on_later _ _ _ c.loop-n.invariant.same c.in_ok-write.ensures.same;
      told = told_more (seen_text c.args.form) (map (λ some. map answer_of some.items) all) _ _ n c.loop-n.invariant.told _ (map answer_of c.index-seen-n.result.items) _ (rw (length-map all (λ some. map answer_of some.items)) within) is
          text c.in_ok-write.ensures.ok;
    }

pub returns-in_err-write-clause-failed : goal.returns-in_err-write-clause-failed
returns-in_err-write-clause-failed g c = λ fault. g.met.K.Output.failed_later _ _ _ c.loop-n.invariant.same c.in_err-write.ensures.failed
