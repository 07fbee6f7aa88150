use Rattle.std.proofs.Common.{◌≡◌, ℕ, List, [], ◌∷◌, ◌++◌, Option, Some, map, ap, subst, ◌∙◌}
use Rattle.std.proofs.lemmas.List.{map-append}
use Rattle.kv_model.specs.Given.{Item}
use Rattle.kv_single.specs.Replies.{answer_of}
use Rattle.kv_single.specs.declared.reply.Reply.{Reply}
use Rattle.kv_race.specs.Watching.{HandsOut, WritesDown, reply_to}
use Rattle.kv_race.proofs.watcher.collect.Goals as goal

-- one more item was handed out, and its copy written down
wrote_down : (handed_first handed handed_next : List Item) (seen_first seen seen_next : List Reply) (reply : Reply) (left_before left_after : ℕ) → WritesDown handed_first seen_first handed seen
    → seen_next ≡ seen ++ reply ∷ [] → HandsOut handed left_before (Some reply) handed_next left_after → WritesDown handed_first seen_first handed_next seen_next
wrote_down handed_first handed handed_next seen_first seen seen_next reply left_before left_after down more out = λ are.
    let was : map answer_of seen ≡ map reply_to handed = down are in
    let item : Item = out.1.0 in
    let same : answer_of reply ≡ reply_to item = out.1.1.0 in
    let copies : map answer_of seen_next ≡ map answer_of seen ++ answer_of reply ∷ [] = ap (map answer_of) more ∙ map-append answer_of seen (reply ∷ []) in
    let items : map reply_to handed_next ≡ map reply_to handed ++ reply_to item ∷ [] = ap (map reply_to) out.1.1.1 ∙ map-append reply_to handed (item ∷ []) in
    cc (copies, items, was, same)

pub loop-feed-preserved : goal.loop-feed-preserved
loop-feed-preserved g c =
    let first = g.F.Follows.handed_out c.args.feed.now in
    let before = g.F.Follows.handed_out c.loop-feed.feed in
    let after = g.F.Follows.handed_out c.hand_out.new.self in
    let left_before = g.F.Follows.left c.loop-feed.feed in
    let left_after = g.F.Follows.left c.hand_out.new.self in
    let out : HandsOut before left_before (Some c.in-Some.reply) after left_after = subst (λ (o : Option Reply). HandsOut before left_before o after left_after) c.in-Some.is c.in_ok-reply.ensures.ok in
    let more = c.push_reserved.ensures.items ∙ ap (λ (l : List Reply). l ++ c.in-Some.reply ∷ []) c.reserve.ensures.items in record {
      watch = c.in_ok-reply.ensures.watch ∙ c.loop-feed.invariant.watch;
      place = c.in_ok-reply.ensures.place ∙ c.loop-feed.invariant.place;
      seen = wrote_down first before after c.args.seen.now.items c.loop-feed.seen.items c.push_reserved.new.self.items c.in-Some.reply left_before left_after c.loop-feed.invariant.seen more out;
    }
