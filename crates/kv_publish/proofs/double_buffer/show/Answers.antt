use Rattle.std.proofs.Common.{◌≡◌, ◌++◌, ◌∷◌, [], ap, sym, ◌∙◌, drop, fold}
use Rattle.kv_publish.specs.inside.Waiting.{waiting}
use Rattle.kv_publish.specs.Publications.{common_of, common_after}
use Rattle.kv_publish.proofs.Publishing.{common_last, at_err, at_ok, nothing_waits}
use Rattle.kv_publish.proofs.double_buffer.show.Goals as goal

pub loop-preserved : goal.loop-preserved
loop-preserved g c =
    let left = c.publish_as-left.result.0 in
    let was = drop c.args.writer.behind c.args.writer.log.items in
    at_err c.publish_as-left.result.1 _ _ (drop left.behind left.log.items ++ waiting c.append-offered.result ≡ was ++ c.args.publication ∷ [])
    (λ e h. ap (λ l. l ++ waiting c.append-offered.result) h.1 ∙ (c.append-offered.ensures.pending ∙ c.loop.invariant))
    (sym c.is_ok.ensures.value ∙ c.if-is_ok.false) c.publish_as-left.ensures.values

pub publish_as-left-requires : goal.publish_as-left-requires
publish_as-left-requires g c next is views h at =
    let w = c.append-offered.new.writer in
    let shown = common_of w.desk.shown.value.right w.desk.shown.value.publication in
    let was = drop c.args.writer.behind c.args.writer.log.items in
    let all : drop w.behind w.log.items ≡ was ++ c.args.publication ∷ [] =
    nothing_waits _ _ c.append-offered.result (sym c.is_some.ensures ∙ c.if-is_some.false) (c.append-offered.ensures.pending ∙ c.loop.invariant) in
    let same : common_of next.right next.publication ≡ common_after shown c.args.publication = is ∙ (ap (fold common_after shown) all ∙ common_last shown was c.args.publication) in
    (tt, ((ap (λ t. t.0.book) same ∙ c.requires.0, ap (λ t. t.1) same ∙ c.requires.1), ap (λ t. t.2.book) same ∙ h.1), tt)

pub returns-then-is_ok : goal.returns-then-is_ok
returns-then-is_ok g c =
    let w = c.append-offered.new.writer in
    let shown = common_of w.desk.shown.value.right w.desk.shown.value.publication in
    let was = drop c.args.writer.behind c.args.writer.log.items in
    let all : drop w.behind w.log.items ≡ was ++ c.args.publication ∷ [] =
    nothing_waits _ _ c.append-offered.result (sym c.is_some.ensures ∙ c.if-is_some.false) (c.append-offered.ensures.pending ∙ c.loop.invariant) in
    c.of.ensures
    ∙ at_ok c.publish_as-left.result.1 _ _ (c.publish_as-left.result.0.desk.shown.value.publication.raw_prefix.acts ≡ c.args.publication.raw_prefix.acts)
    (λ x h. ap (λ t. t.0.acts) (h.0 ∙ (ap (fold common_after shown) all ∙ common_last shown was c.args.publication)))
    (sym c.is_ok.ensures.value ∙ c.if-is_ok.true) c.publish_as-left.ensures.values
