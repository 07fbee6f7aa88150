-- A write that was told stands once in what a watch is given.
use Rattle.std.proofs.Common.{◌≡◌, ℕ, suc, ◌+◌, ◌<◌, ◌≤◌, ◌==◌, Bool, true, false, cond, not, ◌&&◌, List, [], ◌∷◌, ◌++◌, Some, None, length, filter, refl, sym, ap, subst, ◌∙◌, arith, append_assoc, append-nil}
use Rattle.std.specs.List.{cons_option, find}
use Rattle.std.proofs.lemmas.Bool.{ne_eqb, eq-eqb}
use Rattle.std.proofs.lemmas.List.Elements.{filter-append}
use Rattle.kv_keys.specs.Matching.{any_matches}
use Rattle.kv_model.specs.Acceptance.{next_write, IsLawful}
use Rattle.kv_model.specs.Acts.{Act, Wrote, Write, IsPrefix, writes_of, is_put}
use Rattle.kv_model.specs.Configuration.{Configuration}
use Rattle.kv_model.specs.Requests.{Asked}
use Rattle.kv_model.proofs.Numbered.{CountsFrom, CountsFrom-left, CountsFrom-right, writes_of-append, counts_from_lawful, accepted_is_next}
use Rattle.kv_model.specs.declared.options.Options.{Options}
use Rattle.kv_model.specs.declared.options.Start.{Start}
use Rattle.kv_model.specs.declared.options.Start.TheVariants.{Latest, History, Updates, From}
use Rattle.kv_model.specs.Given.{Item, AnEntry, matching, all_shown, ending, given, entry_of}
use Rattle.kv_model.proofs.GivenLaws.{all_shown-matching-append}
use Rattle.kv_bucket.specs.Keeping.{PublishesWrite}
use Rattle.kv_race.specs.Racing.{accepted_at, is_at, shown_alone, written_by}

-- ---- one write

-- of one write's items, those at a revision are all of them or none
alone_at : (revision : ℕ) (filters : List (List ℕ)) (options : Options) (w : Write) → (t : Bool) → (w.revision == revision) ≡ t
    → filter (is_at revision) (shown_alone filters options w) ≡ cond t (shown_alone filters options w) []
alone_at revision filters options w t e =
    elim (any_matches filters w.key) as (λ b. filter (is_at revision) (all_shown options (cond b (w ∷ []) [])) ≡ cond t (all_shown options (cond b (w ∷ []) [])) []) [
      | false ↦ nothing t
      | true ↦ elim (options.ignore_deletes && not (is_put w.op)) as (λ b. filter (is_at revision) (cons_option (cond b None (Some (AnEntry (entry_of options.headers_only w)))) []) ≡ cond t (cons_option (cond b None (Some (AnEntry (entry_of options.headers_only w)))) []) []) [
        | true ↦ nothing t
        | false ↦ rw e refl
      ]
    ]
  where
    nothing : (t : Bool) → filter (is_at revision) [] ≡ cond t [] []
    nothing true = refl
    nothing false = refl

-- ---- many writes

-- none of the writes has the revision
abbrev pub Misses : ℕ → List Write → Type 0
Misses revision [] = Unit {0}
Misses revision (w ∷ ws) = ((w.revision == revision) ≡ false) × Misses revision ws

misses_below : (n revision : ℕ) (ws : List Write) → CountsFrom n ws → n + length ws ≤ revision → Misses revision ws
misses_below n revision [] counts le = tt
misses_below n revision (w ∷ ws) counts le =
    (ne_eqb w.revision revision (λ e. omega (arith, e, counts.0)), misses_below (suc n) revision ws counts.1 (omega arith))

misses_above : (n revision : ℕ) (ws : List Write) → CountsFrom n ws → revision < n → Misses revision ws
misses_above n revision [] counts le = tt
misses_above n revision (w ∷ ws) counts le =
    (ne_eqb w.revision revision (λ e. omega (arith, e, counts.0)), misses_above (suc n) revision ws counts.1 (omega arith))

none_at : (revision : ℕ) (filters : List (List ℕ)) (options : Options) (ws : List Write) → Misses revision ws → filter (is_at revision) (all_shown options (matching filters ws)) ≡ []
none_at revision filters options [] misses = refl
none_at revision filters options (w ∷ ws) misses =
    ap (filter (is_at revision)) (all_shown-matching-append options filters (w ∷ []) ws)
    ∙ (filter-append (is_at revision) (shown_alone filters options w) (all_shown options (matching filters ws))
    ∙ (ap (λ items. items ++ filter (is_at revision) (all_shown options (matching filters ws))) (alone_at revision filters options w false misses.0)
    ∙ none_at revision filters options ws misses.1))

-- what is shown of writes among which one has the revision
one_at : (filters : List (List ℕ)) (options : Options) (xs ys : List Write) (w : Write) → Misses w.revision xs → Misses w.revision ys
    → filter (is_at w.revision) (all_shown options (matching filters (xs ++ w ∷ ys))) ≡ shown_alone filters options w
one_at filters options xs ys w before behind =
    let all = λ (ws : List Write). all_shown options (matching filters ws) in
    let at = filter (is_at w.revision) in
    ap at (all_shown-matching-append options filters xs (w ∷ ys))
    ∙ (filter-append (is_at w.revision) (all xs) (all (w ∷ ys))
    ∙ (ap (λ items. items ++ at (all (w ∷ ys))) (none_at w.revision filters options xs before)
    ∙ (ap at (all_shown-matching-append options filters (w ∷ []) ys)
    ∙ (filter-append (is_at w.revision) (shown_alone filters options w) (all ys)
    ∙ (ap (λ items. at (shown_alone filters options w) ++ items) (none_at w.revision filters options ys behind)
    ∙ (append-nil (at (shown_alone filters options w))
    ∙ alone_at w.revision filters options w true (eq-eqb w.revision w.revision refl)))))))

-- ---- a watch that began on the empty bucket

begun_empty : (h : ℕ) (acts : List Act) (filters : List (List ℕ)) (options : Options) → (start : Start) → options.start ≡ start
    → given h [] acts filters options ≡ ending start ++ all_shown options (matching filters (writes_of acts))
begun_empty h acts filters options Latest e = rw e refl
begun_empty h acts filters options History e = rw e refl
begun_empty h acts filters options Updates e = rw e refl
begun_empty h acts filters options (From revision) e = rw e refl

ending_at : (revision : ℕ) (start : Start) (items : List Item) → filter (is_at revision) (ending start ++ items) ≡ filter (is_at revision) items
ending_at revision Latest items = refl
ending_at revision History items = refl
ending_at revision Updates items = refl
ending_at revision (From r) items = refl

-- ---- a write that was told

-- the writes of acts that begin with those told
pub record Told (request : Asked) (revision : ℕ) (acts : List Act) : Type 0 where
  pub before : List Write
  pub behind : List Write
  pub writes : writes_of acts ≡ before ++ written_by request revision ∷ behind
  pub misses_before : Misses revision before
  pub misses_behind : Misses revision behind

pub told : (config : Configuration) (request : Asked) (revision : ℕ) (before later acts : List Act) → PublishesWrite config request revision before later → IsPrefix later acts → IsLawful config acts → Told request revision acts
told config request revision before later acts p begins lawful =
    let w = p.0 in
    let next : next_write request before ≡ w = accepted_is_next config request before w p.1.0 in
    let number : revision ≡ length (writes_of before) + 1 = sym p.1.1 ∙ ap (λ (v : Write). v.revision) (sym next) in
    let same : w ≡ written_by request revision = sym next ∙ ap (λ (r : ℕ). written_by request r) (sym number) in
    let split : writes_of acts ≡ writes_of before ++ w ∷ writes_of begins.0 =
    ap writes_of (sym begins.1 ∙ (ap (λ (l : List Act). l ++ begins.0) p.1.2 ∙ append_assoc before (Wrote w ∷ []) begins.0)) ∙ writes_of-append before (Wrote w ∷ begins.0) in
    let counts : CountsFrom 1 (writes_of before ++ w ∷ writes_of begins.0) = subst (CountsFrom 1) split (counts_from_lawful config acts lawful) in
    let right = CountsFrom-right 1 (writes_of before) (w ∷ writes_of begins.0) counts in record {
      before = writes_of before;
      behind = writes_of begins.0;
      writes = split ∙ ap (λ (v : Write). writes_of before ++ v ∷ writes_of begins.0) same;
      misses_before = misses_below 1 revision (writes_of before) (CountsFrom-left 1 (writes_of before) (w ∷ writes_of begins.0) counts) (omega (arith, number));
      misses_behind = misses_above (suc (1 + length (writes_of before))) revision (writes_of begins.0) right.1 (omega (arith, number));
    }

-- it is seen once
pub told_once : (h : ℕ) (request : Asked) (revision : ℕ) (acts : List Act) (filters : List (List ℕ)) (options : Options) → Told request revision acts
    → filter (is_at revision) (given h [] acts filters options) ≡ shown_alone filters options (written_by request revision)
told_once h request revision acts filters options t =
    ap (filter (is_at revision)) (begun_empty h acts filters options options.start refl)
    ∙ (ending_at revision options.start (all_shown options (matching filters (writes_of acts)))
    ∙ (ap (λ ws. filter (is_at revision) (all_shown options (matching filters ws))) t.writes
    ∙ one_at filters options t.before t.behind (written_by request revision) t.misses_before t.misses_behind))

-- it stands at its revision
find_behind : (revision : ℕ) (xs ys : List Write) (w : Write) → w.revision ≡ revision → Misses revision xs → find (λ v. v.revision == revision) (xs ++ w ∷ ys) ≡ Some w
find_behind revision [] ys w e misses = rw (eq-eqb w.revision revision e) refl
find_behind revision (x ∷ xs) ys w e misses = rw misses.0 (find_behind revision xs ys w e misses.1)

pub told_stands : (request : Asked) (revision : ℕ) (acts : List Act) → Told request revision acts → accepted_at revision acts ≡ Some (written_by request revision)
told_stands request revision acts t =
    ap (find (λ v. v.revision == revision)) t.writes ∙ find_behind revision t.before t.behind (written_by request revision) refl t.misses_before
