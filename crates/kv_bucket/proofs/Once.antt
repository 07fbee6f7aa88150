-- A write that is live for a feed, matches and is shown is given exactly once.
use Rattle.std.proofs.Common.{◌≡◌, ℕ, suc, ◌+◌, ◌<◌, ◌≤◌, ◌==◌, Bool, true, false, cond, ◌&&◌, not, List, [], ◌∷◌, ◌++◌, Some, None, length, filter, drop, take, refl, sym, ap, ◌∙◌, subst, arith, append_assoc}
use Rattle.std.specs.List.{cons_option}
use Rattle.std.proofs.lemmas.Bool.{eqb-true, eqb-false}
use Rattle.std.proofs.lemmas.List.{take_all}
use Rattle.std.proofs.lemmas.List.Elements.{filter-append}
use Rattle.kv_keys.specs.Matching.{any_matches}
use Rattle.kv_model.specs.Acceptance.{IsLawful}
use Rattle.kv_model.specs.Acts.{Act, Wrote, Write, IsPrefix, writes_of, is_put}
use Rattle.kv_model.specs.Configuration.{Configuration}
use Rattle.kv_model.proofs.Numbered.{CountsFrom, CountsFrom-left, CountsFrom-right, counts_from_lawful, writes_of-append, writes_of-wrote}
use Rattle.kv_model.specs.declared.options.Options.{Options}
use Rattle.kv_model.specs.declared.options.Start.{Start}
use Rattle.kv_model.specs.declared.options.Start.TheVariants.{Latest, History, Updates, From}
use Rattle.kv_model.specs.Given.{Entry, Item, AnEntry, matching, initial, all_shown, entry_of, ending, given}
use Rattle.kv_model.specs.further.Showing.{is_initial, is_shown}
use Rattle.kv_model.proofs.GivenLaws.{matching_initial}
use Rattle.kv_watch.proofs.Walks.{shown_front}
use Rattle.kv_bucket.specs.FeedState.{FeedState, given_by}
use Rattle.kv_bucket.specs.Owed.{is_of, items_of_revision, Owes, HasOnce}

abbrev has_revision : ℕ → Write → Bool
has_revision r w = w.revision == r

-- ---- of writes that count, at most one has a revision

none_below : (r n : ℕ) (ws : List Write) → CountsFrom n ws → r < n → filter (has_revision r) ws ≡ []
none_below r n [] h l = refl
none_below r n (w ∷ ws) h l = by_test (w.revision == r) refl (none_below r (suc n) ws h.1 (omega arith))
  where
    by_test : (b : Bool) → (w.revision == r) ≡ b → filter (has_revision r) ws ≡ [] → cond b (w ∷ filter (has_revision r) ws) (filter (has_revision r) ws) ≡ []
    by_test true t none = absurd (omega (arith, h.0, eqb-true w.revision r t))
    by_test false t none = none

none_above : (r n : ℕ) (ws : List Write) → CountsFrom n ws → n + length ws ≤ r → filter (has_revision r) ws ≡ []
none_above r n [] h l = refl
none_above r n (w ∷ ws) h l = by_test (w.revision == r) refl (none_above r (suc n) ws h.1 (omega arith))
  where
    by_test : (b : Bool) → (w.revision == r) ≡ b → filter (has_revision r) ws ≡ [] → cond b (w ∷ filter (has_revision r) ws) (filter (has_revision r) ws) ≡ []
    by_test true t none = absurd (omega (arith, h.0, eqb-true w.revision r t))
    by_test false t none = none

-- the write itself
one_there : (w : Write) (ws : List Write) → filter (has_revision w.revision) ws ≡ [] → filter (has_revision w.revision) (w ∷ ws) ≡ w ∷ []
one_there w ws none = by_test (w.revision == w.revision) refl
  where
    by_test : (b : Bool) → (w.revision == w.revision) ≡ b → cond b (w ∷ filter (has_revision w.revision) ws) (filter (has_revision w.revision) ws) ≡ w ∷ []
    by_test true t = ap (λ (vs : List Write). w ∷ vs) none
    by_test false t = absurd (eqb-false w.revision w.revision t refl)

only_one : (n : ℕ) (before later : List Write) (w : Write) → CountsFrom n (before ++ w ∷ later) → filter (has_revision w.revision) (before ++ w ∷ later) ≡ w ∷ []
only_one n before later w h =
    let right = CountsFrom-right n before (w ∷ later) h in
    let first : filter (has_revision w.revision) before ≡ [] = none_above w.revision n before (CountsFrom-left n before (w ∷ later) h) (omega (arith, right.0)) in
    let last : filter (has_revision w.revision) later ≡ [] = none_below w.revision (suc (n + length before)) later right.1 (omega (arith, right.0)) in
    filter-append (has_revision w.revision) before (w ∷ later) ∙ (ap (λ (vs : List Write). vs ++ filter (has_revision w.revision) (w ∷ later)) first ∙ one_there w later last)

-- ---- what is shown of a revision is what is shown of its writes

entry_kept : (r : ℕ) (hidden : Bool) (entry : Entry) (items : List Item) → items_of_revision r (cons_option (cond hidden None (Some (AnEntry entry))) items) ≡ cond (not hidden && (entry.revision == r)) (AnEntry entry ∷ items_of_revision r items) (items_of_revision r items)
entry_kept r true entry items = refl
entry_kept r false entry items = refl

write_kept : (options : Options) (w : Write) (ws : List Write) (passes : Bool) → all_shown options (cond passes (w ∷ ws) ws) ≡ cond (not (options.ignore_deletes && not (is_put w.op)) && passes) (AnEntry (entry_of options.headers_only w) ∷ all_shown options ws) (all_shown options ws)
write_kept options w ws true =
    let item : Item = AnEntry (entry_of options.headers_only w) in
    let rest : List Item = all_shown options ws in
    elim (options.ignore_deletes && not (is_put w.op)) as (λ b. cons_option (cond b None (Some item)) rest ≡ cond (not b && true) (item ∷ rest) rest) [ true ↦ refl | false ↦ refl ]
write_kept options w ws false =
    let item : Item = AnEntry (entry_of options.headers_only w) in
    let rest : List Item = all_shown options ws in
    elim (options.ignore_deletes && not (is_put w.op)) as (λ b. rest ≡ cond (not b && false) (item ∷ rest) rest) [ true ↦ refl | false ↦ refl ]

shown_of_revision : (options : Options) (r : ℕ) (ws : List Write) → items_of_revision r (all_shown options ws) ≡ all_shown options (filter (has_revision r) ws)
shown_of_revision options r [] = refl
shown_of_revision options r (w ∷ ws) =
    let hidden : Bool = options.ignore_deletes && not (is_put w.op) in
    let entry : Entry = entry_of options.headers_only w in
    entry_kept r hidden entry (all_shown options ws)
    ∙ (ap (λ (items : List Item). cond (not hidden && (w.revision == r)) (AnEntry entry ∷ items) items) (shown_of_revision options r ws)
    ∙ sym (write_kept options w (filter (has_revision r) ws) (w.revision == r)))

-- selections commute
inner : {X : Type 0} (p : X → Bool) (a : Bool) (x : X) (xs : List X) → filter p (cond a (x ∷ xs) xs) ≡ cond (a && p x) (x ∷ filter p xs) (filter p xs)
inner p true x xs = refl
inner p false x xs = refl

either_way : (a b : Bool) → (a && b) ≡ (b && a)
either_way true true = refl
either_way true false = refl
either_way false true = refl
either_way false false = refl

swap : {X : Type 0} (p q : X → Bool) (xs : List X) → filter p (filter q xs) ≡ filter q (filter p xs)
swap p q [] = refl
swap {X} p q (x ∷ xs) =
    inner p (q x) x (filter q xs)
    ∙ (ap (λ (b : Bool). cond b (x ∷ filter p (filter q xs)) (filter p (filter q xs))) (either_way (q x) (p x))
    ∙ (ap (λ (ys : List X). cond (p x && q x) (x ∷ ys) ys) (swap p q xs)
    ∙ sym (inner q (p x) x (filter p xs))))

selected : (options : Options) (r : ℕ) (p : Write → Bool) (ws : List Write) → items_of_revision r (all_shown options (filter p ws)) ≡ all_shown options (filter p (filter (has_revision r) ws))
selected options r p ws = shown_of_revision options r (filter p ws) ∙ ap (all_shown options) (swap (has_revision r) p ws)

-- ---- what is given of a live write

ending_none : (r : ℕ) (start : Start) → items_of_revision r (ending start) ≡ []
ending_none r Latest = refl
ending_none r History = refl
ending_none r Updates = refl
ending_none r (From revision) = refl

drop_prefix : {X : Type 0} (xs ys : List X) → drop (length xs) (xs ++ ys) ≡ ys
drop_prefix [] ys = refl
drop_prefix (x ∷ xs) ys = drop_prefix xs ys

module _ (h : ℕ) (began acts : List Act) (filters : List (List ℕ)) (options : Options) (w : Write) where
  initial_none : CountsFrom 1 (writes_of began) → length (writes_of began) < w.revision → items_of_revision w.revision (all_shown options (matching filters (initial h options.start began))) ≡ []
  initial_none counts live =
      let p : Write → Bool = λ v. is_initial h options.start began v && any_matches filters v.key in
      ap (λ (vs : List Write). items_of_revision w.revision (all_shown options vs)) (matching_initial h options.start began filters)
      ∙ (selected options w.revision p (writes_of began) ∙ ap (λ (vs : List Write). all_shown options (filter p vs)) (none_above w.revision 1 (writes_of began) counts (omega arith)))

  live_once : filter (has_revision w.revision) (writes_of acts) ≡ w ∷ [] → filter (has_revision w.revision) (writes_of began) ≡ [] → (p : IsPrefix began acts) → is_shown filters options w ≡ true
      → items_of_revision w.revision (all_shown options (matching filters (drop (length (writes_of began)) (writes_of acts)))) ≡ AnEntry (entry_of options.headers_only w) ∷ []
  live_once one none p is =
      let parts : writes_of acts ≡ writes_of began ++ writes_of p.0 = ap writes_of (sym p.1) ∙ writes_of-append began p.0 in
      let behind : drop (length (writes_of began)) (writes_of acts) ≡ writes_of p.0 = ap (drop (length (writes_of began))) parts ∙ drop_prefix (writes_of began) (writes_of p.0) in
      let both = filter-append (has_revision w.revision) (writes_of began) (writes_of p.0) in
      let more : filter (has_revision w.revision) (writes_of p.0) ≡ w ∷ [] =
      ap (λ (vs : List Write). vs ++ filter (has_revision w.revision) (writes_of p.0)) (sym none) ∙ (sym both ∙ (ap (filter (has_revision w.revision)) (sym parts) ∙ one)) in
      ap (λ (vs : List Write). items_of_revision w.revision (all_shown options (matching filters vs))) behind
      ∙ (selected options w.revision (λ (v : Write). any_matches filters v.key) (writes_of p.0)
      ∙ (ap (λ (vs : List Write). all_shown options (matching filters vs)) more ∙ shown_front options filters w [] is))

  given_once : CountsFrom 1 (writes_of acts) → IsPrefix began acts → (told : List Act) → IsPrefix (told ++ Wrote w ∷ []) acts → length (writes_of began) < w.revision → is_shown filters options w ≡ true
      → items_of_revision w.revision (given h began acts filters options) ≡ AnEntry (entry_of options.headers_only w) ∷ []
  given_once counts p told reached live is =
      let journal : writes_of acts ≡ writes_of told ++ w ∷ writes_of reached.0 =
      ap writes_of (sym reached.1) ∙ (writes_of-append (told ++ Wrote w ∷ []) reached.0
      ∙ (ap (λ (vs : List Write). vs ++ writes_of reached.0) (writes_of-wrote told w) ∙ append_assoc (writes_of told) (w ∷ []) (writes_of reached.0))) in
      let one : filter (has_revision w.revision) (writes_of acts) ≡ w ∷ [] =
      ap (filter (has_revision w.revision)) journal ∙ only_one 1 (writes_of told) (writes_of reached.0) w (subst (CountsFrom 1) journal counts) in
      let parts : writes_of acts ≡ writes_of began ++ writes_of p.0 = ap writes_of (sym p.1) ∙ writes_of-append began p.0 in
      let first : CountsFrom 1 (writes_of began) = CountsFrom-left 1 (writes_of began) (writes_of p.0) (subst (CountsFrom 1) parts counts) in
      let none : filter (has_revision w.revision) (writes_of began) ≡ [] = none_above w.revision 1 (writes_of began) first (omega arith) in
      let initially = all_shown options (matching filters (initial h options.start began)) in
      let lively = all_shown options (matching filters (drop (length (writes_of began)) (writes_of acts))) in
      filter-append (is_of w.revision) initially (ending options.start ++ lively)
      ∙ (ap (λ (items : List Item). items ++ items_of_revision w.revision (ending options.start ++ lively)) (initial_none first live)
      ∙ (filter-append (is_of w.revision) (ending options.start) lively
      ∙ (ap (λ (items : List Item). items ++ items_of_revision w.revision lively) (ending_none w.revision options.start) ∙ live_once one none p is)))

-- where a feed has handed out all that it is given, what it handed out has the write once
pub all_has_once : (config : Configuration) (feed : FeedState) (told : List Act) (w : Write) → IsLawful config feed.acts → IsPrefix feed.began feed.acts → feed.handed ≡ length (given_by feed) → Owes feed told w
    → HasOnce feed w (take feed.handed (given_by feed))
all_has_once config feed told w lawful prefix all owes =
    let given_all = given_by feed in
    ap (items_of_revision w.revision) (ap (λ (n : ℕ). take n given_all) all ∙ take_all (length given_all) given_all (omega arith))
    ∙ given_once feed.reader.config.history feed.began feed.acts feed.filters feed.options w (counts_from_lawful config feed.acts lawful) prefix told owes.reached owes.live owes.shown
