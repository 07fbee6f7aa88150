-- What a feed is told of, one receipt after the other.
use Rattle.std.proofs.Common.{◌≡◌, ℕ, ◌+◌, ◌<◌, ◌≤◌, List, [], Ok, Err, IfOk, map, take, take_all, get_or, length, refl, sym, ap, subst, ◌∙◌}
use Rattle.std.proofs.lemmas.List.{get_or-map, length-map}
use Rattle.std.proofs.lemmas.List.Elements.{All-more}
use Rattle.kv_model.specs.Acts.{Act, IsPrefix}
use Rattle.kv_bucket.specs.FeedState.{FeedState, HasLearned}
use Rattle.kv_publish.proofs.Prefixes.{prefix_self, prefix_trans}
use Rattle.kv_race.specs.Telling.{Answered, Begin, BeginAll}

pub heard_nothing : (feed : FeedState) → HasLearned [] feed feed
heard_nothing feed = record { config = refl; seen = refl; former = prefix_self feed.reader.told; learned = (feed.reader.told, refl); same = refl }

-- what one receipt told was told
pub heard_one : (told : List Act) (before after : FeedState) → HasLearned told before after → HasLearned [] before after
heard_one told before after one = record { config = one.config; seen = one.seen; former = one.former; learned = (after.reader.told, refl); same = one.same }

pub heard_more : (a b c : FeedState) → HasLearned [] a b → HasLearned [] b c → HasLearned [] a c
heard_more a b c p q = record {
  config = q.config ∙ p.config;
  seen = q.seen ∙ p.seen;
  former = prefix_trans a.reader.told b.reader.told c.reader.told p.former q.former;
  learned = (c.reader.told, refl);
  same = q.same ∙ ap (λ (f : FeedState). let g : FeedState = record f { reader = c.reader } in g) p.same;
}

tell_later : (acts later : List Act) (answer : Answered) → IsPrefix acts later → IfOk answer (λ told. IsPrefix told.1 acts) → IfOk answer (λ told. IsPrefix told.1 later)
tell_later acts later (Ok told) p h = prefix_trans told.1 acts later h p
tell_later acts later (Err error) p h = h

pub begin_later : (acts later : List Act) (answers : List Answered) → IsPrefix acts later → Begin acts answers → Begin later answers
begin_later acts later answers p h = λ k d l. tell_later acts later (get_or answers k d) p (h k d l)

pub begin_all_later : (acts later : List Act) (answers : List (List Answered)) → IsPrefix acts later → BeginAll acts answers → BeginAll later answers
begin_all_later acts later answers p h = λ k d l. begin_later acts later (get_or answers k d) p (h k d l)

-- one more receipt of a worker
pub begin_next : (acts later : List Act) (answers : List Answered) (n : ℕ) (answer : Answered) → n < length answers → answer ≡ get_or answers n answer → IsPrefix acts later → Begin acts (take n answers)
    → IfOk answer (λ told. IsPrefix told.1 later) → Begin later (take (n + 1) answers)
begin_next acts later answers n answer l e p h one k =
    All-more (λ some. IfOk some (λ told. IsPrefix told.1 later)) answers n answer l (begin_later acts later (take n answers) p h)
    (subst (λ (some : Answered). IfOk some (λ told. IsPrefix told.1 later)) e one) k

pub begin_whole : (acts : List Act) (answers : List Answered) (n : ℕ) → length answers ≤ n → Begin acts (take n answers) → Begin acts answers
begin_whole acts answers n l h = subst (λ (all : List Answered). Begin acts all) (take_all n answers l) h

-- one more worker
pub begin_all_next : {W : Type 0} (answers_of : W → List Answered) (acts later : List Act) (workers : List W) (n : ℕ) (worker : W) → n < length workers → worker ≡ get_or workers n worker
    → IsPrefix acts later → BeginAll acts (take n (map answers_of workers)) → Begin later (answers_of worker) → BeginAll later (take (n + 1) (map answers_of workers))
begin_all_next answers_of acts later workers n worker l e p h one k =
    let all = map answers_of workers in
    let same : answers_of worker ≡ get_or all n (answers_of worker) = ap answers_of e ∙ sym (get_or-map answers_of workers n worker (answers_of worker) l) in
    All-more (λ some. Begin later some) all n (answers_of worker) (rw (length-map workers answers_of) l) (begin_all_later acts later (take n all) p h)
    (subst (λ (some : List Answered). Begin later some) same one) k

pub begin_all_whole : {W : Type 0} (answers_of : W → List Answered) (acts : List Act) (workers : List W) (n : ℕ) → length workers ≤ n → BeginAll acts (take n (map answers_of workers)) → BeginAll acts (map answers_of workers)
begin_all_whole answers_of acts workers n l h =
    subst (λ (all : List (List Answered)). BeginAll acts all) (take_all n (map answers_of workers) (rw (length-map workers answers_of) l)) h
