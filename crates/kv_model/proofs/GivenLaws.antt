-- What is given rises, and goes on.
use Rattle.std.proofs.Common.{◌≡◌, ℕ, ◌+◌, ◌≤◌, false, ◌&&◌, nat_le, List, [], ◌∷◌, ◌++◌, length, drop, filter, refl, sym, ap, ◌∙◌, subst, arith, append_assoc, length-append}
use Rattle.std.specs.List.Sorted.{IsStrictlyIncreasing}
use Rattle.std.proofs.lemmas.List.{drop-append-le}
use Rattle.std.proofs.lemmas.List.Elements.{filter-append, filter_map-append}
use Rattle.kv_keys.specs.Matching.{any_matches}
use Rattle.kv_model.specs.Acts.{Act, Write, IsPrefix, writes_of}
use Rattle.kv_model.specs.Acceptance.{IsLawful}
use Rattle.kv_model.specs.Configuration.{Configuration}
use Rattle.kv_model.specs.Retained.{is_kept}
use Rattle.kv_model.specs.declared.options.Options.{Options}
use Rattle.kv_model.specs.declared.options.Start.{Start}
use Rattle.kv_model.specs.declared.options.Start.TheVariants.{Latest, History, Updates, From}
use Rattle.kv_model.specs.further.Showing.{is_initial}
use Rattle.kv_model.specs.Given.{Item, matching, shown, all_shown, item_revisions, revision_of, initial, ending, given}
use Rattle.kv_model.proofs.Members.{filter-filter}
use Rattle.kv_model.proofs.Numbered.{CountsFrom, CountsFrom-left, CountsFrom-right, writes_of-append, counts_from_lawful}
use Rattle.kv_model.proofs.Rising.{Rises, Rises-append, increasing_from_Rises}
use Rattle.kv_model.proofs.Counted.{shown_rises}

-- ---- the initial writes are a selection of the writes

none_pass : {X : Type 0} (xs : List X) → [] ≡ filter (λ _. false) xs
none_pass [] = refl
none_pass (x ∷ xs) = none_pass xs

pub initial_selects : (h : ℕ) (start : Start) (acts : List Act) → initial h start acts ≡ filter (is_initial h start acts) (writes_of acts)
initial_selects h Latest acts = refl
initial_selects h History acts = refl
initial_selects h Updates acts = none_pass (writes_of acts)
initial_selects h (From revision) acts = filter-filter (λ w. nat_le revision w.revision) (is_kept h acts) (writes_of acts)

pub matching_initial : (h : ℕ) (start : Start) (acts : List Act) (filters : List (List ℕ))
    → matching filters (initial h start acts) ≡ filter (λ w. is_initial h start acts w && any_matches filters w.key) (writes_of acts)
matching_initial h start acts filters =
    ap (matching filters) (initial_selects h start acts) ∙ filter-filter (λ w. any_matches filters w.key) (is_initial h start acts) (writes_of acts)

-- ---- what is given goes on

pub all_shown-matching-append : (options : Options) (filters : List (List ℕ)) (ws more : List Write)
    → all_shown options (matching filters (ws ++ more)) ≡ all_shown options (matching filters ws) ++ all_shown options (matching filters more)
all_shown-matching-append options filters ws more =
    ap (all_shown options) (filter-append (λ w. any_matches filters w.key) ws more)
    ∙ filter_map-append (shown options) (matching filters ws) (matching filters more)

pub no_fewer_writes : (began acts : List Act) → IsPrefix began acts → length (writes_of began) ≤ length (writes_of acts)
no_fewer_writes began acts p =
    omega (arith, length-append (writes_of began) (writes_of p.0), ap length (sym (writes_of-append began p.0) ∙ ap writes_of p.1))

-- what more acts add to the live writes
pub live-append : (began acts more : List Act) (filters : List (List ℕ)) (options : Options) → length (writes_of began) ≤ length (writes_of acts)
    → all_shown options (matching filters (drop (length (writes_of began)) (writes_of (acts ++ more))))
    ≡ all_shown options (matching filters (drop (length (writes_of began)) (writes_of acts))) ++ all_shown options (matching filters (writes_of more))
live-append began acts more filters options l =
    ap (λ ws. all_shown options (matching filters ws)) (ap (drop (length (writes_of began))) (writes_of-append acts more) ∙ drop-append-le (length (writes_of began)) (writes_of acts) (writes_of more) l)
    ∙ all_shown-matching-append options filters (drop (length (writes_of began)) (writes_of acts)) (writes_of more)

-- what more acts add to what is given
pub given-append : (h : ℕ) (began acts more : List Act) (filters : List (List ℕ)) (options : Options) → length (writes_of began) ≤ length (writes_of acts)
    → given h began (acts ++ more) filters options ≡ given h began acts filters options ++ all_shown options (matching filters (writes_of more))
given-append h began acts more filters options l =
    let initially = all_shown options (matching filters (initial h options.start began)) in
    ap (λ items. initially ++ (ending options.start ++ items)) (live-append began acts more filters options l)
    ∙ simp append_assoc

pub given_goes_on : (h : ℕ) (began acts later : List Act) (filters : List (List ℕ)) (options : Options) → IsPrefix began acts → IsPrefix acts later
    → IsPrefix (given h began acts filters options) (given h began later filters options)
given_goes_on h began acts later filters options p q = (
  all_shown options (matching filters (writes_of q.0)),
  sym (given-append h began acts q.0 filters options (no_fewer_writes began acts p)) ∙ ap (λ all. given h began all filters options) q.1,
)

-- ---- what is given rises

item_revisions-ending : (start : Start) (items : List Item) → item_revisions (ending start ++ items) ≡ item_revisions items
item_revisions-ending Latest items = refl
item_revisions-ending History items = refl
item_revisions-ending Updates items = refl
item_revisions-ending (From revision) items = refl

drop_prefix : {X : Type 0} (xs ys : List X) → drop (length xs) (xs ++ ys) ≡ ys
drop_prefix [] ys = refl
drop_prefix (x ∷ xs) ys = drop_prefix xs ys

pub given_rises : (config : Configuration) (h : ℕ) (began acts : List Act) (filters : List (List ℕ)) (options : Options)
    → IsLawful config acts → IsPrefix began acts → IsStrictlyIncreasing (item_revisions (given h began acts filters options))
given_rises config h began acts filters options lawful p =
    let ws : writes_of acts ≡ writes_of began ++ writes_of p.0 = sym (ap writes_of p.1) ∙ writes_of-append began p.0 in
    let counts : CountsFrom 1 (writes_of began ++ writes_of p.0) = subst (CountsFrom 1) ws (counts_from_lawful config acts lawful) in
    let n = length (writes_of began) in
    let rest : drop n (writes_of acts) ≡ writes_of p.0 = ap (drop n) ws ∙ drop_prefix (writes_of began) (writes_of p.0) in
    let initially = all_shown options (matching filters (initial h options.start began)) in
    let live = all_shown options (matching filters (drop n (writes_of acts))) in
    let first : Rises 1 (1 + n) (item_revisions initially) = rw (matching_initial h options.start began filters) (shown_rises options _ 1 (writes_of began) (CountsFrom-left 1 (writes_of began) (writes_of p.0) counts)) in
    let second : Rises (1 + n) (1 + n + length (writes_of p.0)) (item_revisions live) = rw rest (shown_rises options _ (1 + n) (writes_of p.0) (CountsFrom-right 1 (writes_of began) (writes_of p.0) counts)) in
    let split : item_revisions (given h began acts filters options) ≡ item_revisions initially ++ item_revisions live =
    filter_map-append revision_of initially (ending options.start ++ live) ∙ ap (λ rs. item_revisions initially ++ rs) (item_revisions-ending options.start live) in
    increasing_from_Rises 1 (1 + n + length (writes_of p.0)) _ (rw split (Rises-append 1 (1 + n) (1 + n + length (writes_of p.0)) _ _ first second))
