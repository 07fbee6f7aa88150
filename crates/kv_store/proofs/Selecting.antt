-- The initial writes are those that the kept revisions of the keys name.
use Rattle.std.proofs.Common.{◌≡◌, ℕ, ◌<◌, Bool, true, false, cond, ◌&&◌, ◌||◌, ◌==◌, List, [], ◌∷◌, Option, Some, None, filter, refl, sym, subst, ap, ◌∙◌, suc, inl, inr, ◌⊎◌, ⊎_elim, arith}
use Rattle.std.specs.Prelude.{nat_le, ◌↔◌}
use Rattle.std.proofs.lemmas.Bool.{eqb-true}
use Rattle.std.proofs.lemmas.Slice.Eq.{bytes_eq-Decides}
use Rattle.std.specs.List.{Contains, last_or, list_any}
use Rattle.std.specs.List.Sorted.{IsStrictlyIncreasing}
use Rattle.std.specs.Option.{option_to_list, option_map, option_map_or}
use Rattle.std.specs.Str.{bytes_eq}
use Rattle.std.proofs.lemmas.List.Elements.{filter_agree}
use Rattle.kv_model.specs.declared.options.Start.{Start}
use Rattle.kv_model.specs.declared.options.Start.TheVariants.{Latest, History, Updates, From}
use Rattle.kv_model.specs.Acts.{Act, Write, writes_of}
use Rattle.kv_model.specs.Retained.{writes_of_key, last_write, since_purge, kept, revisions, is_kept, is_latest, retained, latest}
use Rattle.kv_model.specs.Given.{initial}
use Rattle.kv_store.specs.inside.Selected.{initial_revisions}
use Rattle.kv_model.proofs.Found.{kept_member, last_contained, last_write-kept, not_below}
use Rattle.kv_model.proofs.Keeping.{retained_of_key}
use Rattle.kv_model.proofs.Lasts.{last_n_one, last_or-since_purge, last_or-last_n, last_or-map}
use Rattle.kv_model.proofs.Members.{Contains-cases, Contains-none, Contains-filter, Contains-from_filter, filter-filter}
use Rattle.kv_model.proofs.Numbered.{CountsFrom, increasing_counted}

-- ---- the latest writes

either_last : (n : ℕ) (o : Option Write) → list_any (λ r. r == n) (revisions (option_to_list o)) ≡ option_map_or (λ v. v.revision == n) o false
either_last n None = refl
either_last n (Some v) = elim (v.revision == n) as (λ b. (b || false) ≡ b) [ true ↦ refl | false ↦ refl ]

-- where one write of each key is kept, it is the last
is_kept_one : (acts : List Act) (w : Write) → is_kept 1 acts w ≡ is_latest acts w
is_kept_one acts w =
    ap (λ vs. list_any (λ r. r == w.revision) (revisions vs)) (last_n_one (since_purge (writes_of_key w.key acts)) ∙ ap option_to_list (last_or-since_purge (writes_of_key w.key acts) None))
    ∙ either_last w.revision (last_write w.key acts)

pub retained_one : (acts : List Act) → retained 1 acts ≡ latest acts
retained_one acts = filter_agree (is_kept 1 acts) (is_latest acts) (is_kept_one acts) (writes_of acts)

-- ---- the initial writes of one key

filter_swap : {X : Type 0} (p q : X → Bool) (xs : List X) → filter p (filter q xs) ≡ filter q (filter p xs)
filter_swap p q xs = filter-filter p q xs ∙ filter_agree (λ x. q x && p x) (λ x. p x && q x) (λ x. both (q x) (p x)) xs ∙ sym (filter-filter q p xs)
  where
    both : (b c : Bool) → (b && c) ≡ (c && b)
    both true true = refl
    both true false = refl
    both false true = refl
    both false false = refl

revisions-filter : (p : ℕ → Bool) (ws : List Write) → revisions (filter (λ w. p w.revision) ws) ≡ filter p (revisions ws)
revisions-filter p [] = refl
revisions-filter p (w ∷ ws) =
    let rest = revisions-filter p ws in
    elim (p w.revision) as (λ b. revisions (cond b (w ∷ filter (λ v. p v.revision) ws) (filter (λ v. p v.revision) ws)) ≡ cond b (w.revision ∷ filter p (revisions ws)) (filter p (revisions ws))) [ true ↦ ap (λ rs. w.revision ∷ rs) rest | false ↦ rest ]

revisions-option : (o : Option Write) → revisions (option_to_list o) ≡ option_to_list (option_map (λ w. w.revision) o)
revisions-option None = refl
revisions-option (Some w) = refl

module _ (h : ℕ) (acts : List Act) (some : 0 < h) (counts : CountsFrom 1 (writes_of acts)) where
  -- the last of the kept revisions is that of the last write
  pub last_kept : (key : List ℕ) → last_or None (revisions (kept h key acts)) ≡ option_map (λ w. w.revision) (last_write key acts)
  last_kept key =
      let of = writes_of_key key acts in
      last_or-map (λ w. w.revision) (kept h key acts) None
      ∙ ap (option_map (λ w. w.revision)) (last_or-last_n h (since_purge of) some ∙ last_or-since_purge of None)

  -- the kept revisions name the initial writes of the key
  pub initial_of_key : (start : Start) (key : List ℕ) → revisions (filter (λ w. bytes_eq w.key key) (initial h start acts)) ≡ initial_revisions start (revisions (kept h key acts))
  initial_of_key Latest key =
      let of = writes_of_key key acts in
      ap (λ ws. revisions (filter (λ w. bytes_eq w.key key) ws)) (sym (retained_one acts))
      ∙ ap revisions (retained_of_key 1 key acts counts ∙ last_n_one (since_purge of) ∙ ap option_to_list (last_or-since_purge of None))
      ∙ revisions-option (last_write key acts)
      ∙ ap option_to_list (sym (last_kept key))
  initial_of_key Updates key = refl
  initial_of_key History key = ap revisions (retained_of_key h key acts counts)
  initial_of_key (From first) key =
      ap revisions (filter_swap (λ w. bytes_eq w.key key) (λ w. nat_le first w.revision) (retained h acts) ∙ ap (filter (λ w. nat_le first w.revision)) (retained_of_key h key acts counts))
      ∙ revisions-filter (λ r. nat_le first r) (kept h key acts)

  -- the revisions of initial writes rise, also of those that pass a test
  pub increasing_initial : (start : Start) (p : Write → Bool) → IsStrictlyIncreasing (revisions (filter p (initial h start acts)))
  increasing_initial Latest p = rw (filter-filter p (is_latest acts) (writes_of acts)) (increasing_counted _ (writes_of acts) counts)
  increasing_initial Updates p = λ k l. absurd (omega (arith, l))
  increasing_initial History p = rw (filter-filter p (is_kept h acts) (writes_of acts)) (increasing_counted _ (writes_of acts) counts)
  increasing_initial (From first) p =
      rw (filter-filter p (λ w. nat_le first w.revision) (retained h acts), filter-filter (λ w. nat_le first w.revision && p w) (is_kept h acts) (writes_of acts)) (increasing_counted _ (writes_of acts) counts)

  -- an initial write is a write
  pub initial_is_written : (start : Start) (w : Write) → Contains (initial h start acts) w → Contains (writes_of acts) w
  initial_is_written Latest w m = (Contains-from_filter (is_latest acts) (writes_of acts) w m).0
  initial_is_written Updates w m = absurd (Contains-none w m)
  initial_is_written History w m = (Contains-from_filter (is_kept h acts) (writes_of acts) w m).0
  initial_is_written (From first) w m = (Contains-from_filter (is_kept h acts) (writes_of acts) w (Contains-from_filter (λ v. nat_le first v.revision) (retained h acts) w m).0).0

-- ---- one write has one revision

pub one_write : (n : ℕ) (ws : List Write) (v w : Write) → CountsFrom n ws → Contains ws v → Contains ws w → v.revision ≡ w.revision → v ≡ w
one_write n [] v w c a b e = absurd (Contains-none v a)
one_write n (u ∷ ws) v w c a b e = ⊎_elim (λ p. first p (Contains-cases u ws w b)) (λ k. later (λ i j. one_write (suc n) ws v w c.1 i j e) k (Contains-cases u ws w b)) (Contains-cases u ws v a)
  where
    first : u ≡ v → (u ≡ w) ⊎ Contains ws w → v ≡ w
    first p (inl q) = sym p ∙ q
    first p (inr m) =
        let r : u.revision ≡ v.revision = ap (λ (x : Write). x.revision) p in
        absurd (omega (arith, c.0, r, e, not_below (suc n) ws w c.1 m))

    later : (Contains ws v → Contains ws w → v ≡ w) → Contains ws v → (u ≡ w) ⊎ Contains ws w → v ≡ w
    later deeper k (inl q) =
        let r : u.revision ≡ w.revision = ap (λ (x : Write). x.revision) q in
        absurd (omega (arith, c.0, r, e, not_below (suc n) ws v c.1 k))
    later deeper k (inr m) = deeper k m

-- ---- retained and kept

module _ (h : ℕ) (acts : List Act) (counts : CountsFrom 1 (writes_of acts)) where
  -- a retained write is kept of its key
  pub retained_is_kept : (w : Write) → Contains (retained h acts) w → Contains (kept h w.key acts) w
  retained_is_kept w m =
      subst (λ ws. Contains ws w) (retained_of_key h w.key acts counts) (Contains-filter (λ v. bytes_eq v.key w.key) (retained h acts) w m ((bytes_eq-Decides w.key w.key).1 refl))

  -- a write that is kept of a key is retained, and is of that key
  pub kept_is_retained : (key : List ℕ) (w : Write) → Contains (kept h key acts) w → Contains (retained h acts) w × (w.key ≡ key)
  kept_is_retained key w m =
      let passes = Contains-from_filter (λ v. bytes_eq v.key key) (retained h acts) w (subst (λ ws. Contains ws w) (sym (retained_of_key h key acts counts)) m) in
      (passes.0, (bytes_eq-Decides w.key key).0 passes.1)

  -- an initial write is kept of its key
  pub initial_is_kept : 0 < h → (start : Start) (w : Write) → Contains (initial h start acts) w → Contains (kept h w.key acts) w
  initial_is_kept some Latest w m =
      let both = Contains-from_filter (is_latest acts) (writes_of acts) w m in by_last (last_write w.key acts) refl both.0 both.1
    where
      by_last : (o : Option Write) → last_write w.key acts ≡ o → Contains (writes_of acts) w → option_map_or (λ v. v.revision == w.revision) o false ≡ true → Contains (kept h w.key acts) w
      by_last None e written t = cc
      by_last (Some v) e written t =
          let there : Contains (kept h w.key acts) v = last_contained (kept h w.key acts) v (sym (last_write-kept h w.key acts some) ∙ e) in
          let same = one_write 1 (writes_of acts) v w counts (kept_member h w.key acts v there) written (eqb-true v.revision w.revision t) in
          subst (λ u. Contains (kept h w.key acts) u) same there
  initial_is_kept some Updates w m = absurd (Contains-none w m)
  initial_is_kept some History w m = retained_is_kept w m
  initial_is_kept some (From first) w m = retained_is_kept w (Contains-from_filter (λ v. nat_le first v.revision) (retained h acts) w m).0

  -- the test of a write says whether it is kept of its key
  pub is_kept_stands : (w : Write) → Contains (writes_of acts) w → (is_kept h acts w ≡ true) ↔ Contains (kept h w.key acts) w
  is_kept_stands w m = (
    (λ t. retained_is_kept w (Contains-filter (is_kept h acts) (writes_of acts) w m t)),
    (λ k. (Contains-from_filter (is_kept h acts) (writes_of acts) w (kept_is_retained w.key w k).0).1),
  )
