use Rattle.std.proofs.Common.{◌≡◌, ◌+◌, ◌<◌, [], length, map, get_or, ap, sym, arith, rules, ◌∙◌}
use Rattle.std.proofs.lemmas.List.{get_or-map, length-map}
use Rattle.kv_run.specs.Reporting.{replies_text}
use Rattle.kv_replay.proofs.Progress.{on_err}
use Rattle.kv_run.proofs.Reporting.{text_made, told_more, told_part}
use Rattle.kv_run.proofs.races.writing.write_replies.Goals as goal

pub returns-in_err-write-clause-err : goal.returns-in_err-write-clause-err
returns-in_err-write-clause-err g c =
    let all = c.args.replies.now in
    let n = c.loop-n.n in
    let within : n < length all = omega arith in
    let found : c.index-replies-n.result ≡ get_or all n c.index-replies-n.result = search rules in
    let is = ap (λ some. some.items) found ∙ sym (get_or-map (λ some. some.items) all n c.index-replies-n.result [] within) in
    let text : c.deref-in-loop-n.result.now ≡ replies_text (n + 1) (c.index-replies-n.result.items) =
    text_made _ _ _ _ c.deref-in-loop-n.ensures.value c.in_ok-append_replies.ensures.ok c.new-out.ensures.items ∙ ap (λ items. replies_text (n + 1) items) c.deref.ensures.value in
    on_err c.from_residual-in_err-write.result
    (told_part replies_text (map (λ some. some.items) all) _ _ n c.loop-n.invariant.told _ (c.index-replies-n.result.items) _ (rw (length-map all (λ some. some.items)) within) is
    text c.in_err-write.ensures.err)

pub loop-n-preserved : goal.loop-n-preserved
loop-n-preserved g c =
    let all = c.args.replies.now in
    let n = c.loop-n.n in
    let within : n < length all = omega arith in
    let found : c.index-replies-n.result ≡ get_or all n c.index-replies-n.result = search rules in
    let is = ap (λ some. some.items) found ∙ sym (get_or-map (λ some. some.items) all n c.index-replies-n.result [] within) in
    let text : c.deref-in-loop-n.result.now ≡ replies_text (n + 1) (c.index-replies-n.result.items) =
    text_made _ _ _ _ c.deref-in-loop-n.ensures.value c.in_ok-append_replies.ensures.ok c.new-out.ensures.items ∙ ap (λ items. replies_text (n + 1) items) c.deref.ensures.value in
    record {
      same = g.met.K.Output.goes_on_later _ _ _ c.loop-n.invariant.same c.in_ok-write.ensures.same;
      told = told_more replies_text (map (λ some. some.items) all) _ _ n c.loop-n.invariant.told _ (c.index-replies-n.result.items) _ (rw (length-map all (λ some. some.items)) within) is
          text c.in_ok-write.ensures.ok;
    }

pub returns-in_err-write-clause-failed : goal.returns-in_err-write-clause-failed
returns-in_err-write-clause-failed g c = λ fault. g.met.K.Output.failed_later _ _ _ c.loop-n.invariant.same c.in_err-write.ensures.failed
