-- A version that is compacted stands for the acts with the compaction.
use Rattle.std.proofs.Common.{◌≡◌, ℕ, suc, ◌≤◌, Bool, true, false, cond, ◌||◌, ◌==◌, List, [], ◌∷◌, ◌++◌, Option, Some, None, unwrap_or, length, filter, refl, sym, subst, ap, ◌∙◌, arith}
use Rattle.std.specs.Prelude.{nat_lt}
use Rattle.std.specs.List.{find, last_or, list_any}
use Rattle.std.proofs.lemmas.Bool.{eqb-true}
use Rattle.kv_model.specs.Acts.{Act, Compact, Write, writes_of}
use Rattle.kv_model.specs.Acceptance.{IsLawful}
use Rattle.kv_model.specs.Compaction.{is_bad_floor, is_stored}
use Rattle.kv_model.specs.Configuration.{Configuration, IsLegal}
use Rattle.kv_model.specs.Reads.{unless_empty, write_at_of}
use Rattle.kv_model.specs.Retained.{is_cleared, is_kept, kept, last_write, retained, revisions, writes_of_key}
use Rattle.kv_model.proofs.Found.{or_empty}
use Rattle.kv_model.proofs.Keeping.{kept_cleared, kept_spared, writes_of_key-cleared, writes_of_key-spared}
use Rattle.kv_model.proofs.Numbered.{CountsFrom, counts_from_lawful, find_below, writes_of-compact}
use Rattle.kv_model.proofs.Storing.{floor_of-compact, is_stored-compact, spared_is_kept, stored_before}
use Rattle.kv_store.specs.Standing.{StandsFor}
use Rattle.kv_store.specs.Stored.{Stored, kept_at, last_at, write_at}
use Rattle.kv_store.specs.inside.Compacted.{IsCompacted, is_left, left_of, spared}
use Rattle.kv_store.proofs.Naming.{kept_counted}
use Rattle.kv_store.proofs.Reading.{history_some}
use Rattle.kv_store.proofs.Standings.{is_sealed-compact, lawful-push}

-- ---- what passes a test

passing : (Write → Bool) → Option Write → Option Write
passing p None = None
passing p (Some w) = cond (p w) (Some w) None

-- of writes that count the one of a revision is found among those that pass where it does
find_passing : (p : Write → Bool) (n r : ℕ) (ws : List Write) → CountsFrom n ws → find (λ w. w.revision == r) (filter p ws) ≡ passing p (find (λ w. w.revision == r) ws)
unfolding passing
find_passing p n r [] c = refl
find_passing p n r (w ∷ ws) c = by_test (p w) refl (w.revision == r) refl (find_passing p (suc n) r ws c.1)
  where
    by_test : (a : Bool) → p w ≡ a → (b : Bool) → (w.revision == r) ≡ b → find (λ v. v.revision == r) (filter p ws) ≡ passing p (find (λ v. v.revision == r) ws) → find (λ v. v.revision == r) (cond a (w ∷ filter p ws) (filter p ws)) ≡ passing p (cond b (Some w) (find (λ v. v.revision == r) ws))
    by_test true e true f later = rw (f, e) refl
    by_test true e false f later = rw f later
    by_test false e true f later =
        let none : find (λ v. v.revision == r) ws ≡ None = find_below (suc n) r ws c.1 (omega (arith, c.0, eqb-true w.revision r f)) in
        later ∙ ap (passing p) none ∙ sym (ap (λ b. cond b (Some w) None) e)
    by_test false e false f later = later

found_revision : (r : ℕ) (ws : List Write) (w : Write) → find (λ v. v.revision == r) ws ≡ Some w → w.revision ≡ r
found_revision r [] w h = cc
found_revision r (v ∷ ws) w h = by_test (λ k. found_revision r ws w k) (v.revision == r) refl h
  where
    by_test : (find (λ u. u.revision == r) ws ≡ Some w → w.revision ≡ r) → (b : Bool) → (v.revision == r) ≡ b → cond b (Some v) (find (λ u. u.revision == r) ws) ≡ Some w → w.revision ≡ r
    by_test rest true e k = let same : v ≡ w = cc in ap (λ (u : Write). u.revision) (sym same) ∙ eqb-true v.revision r e
    by_test rest false e k = rest k

filter_fewer : {X : Type 0} (p q : X → Bool) → ((x : X) → p x ≡ true → q x ≡ true) → (xs : List X) → length (filter p xs) ≤ length (filter q xs)
filter_fewer p q h [] = omega arith
filter_fewer {X} p q h (x ∷ xs) = by_test (p x) refl (q x) refl (filter_fewer p q h xs)
  where
    by_test : (a : Bool) → p x ≡ a → (b : Bool) → q x ≡ b → length (filter p xs) ≤ length (filter q xs) → length (cond a (x ∷ filter p xs) (filter p xs)) ≤ length (cond b (x ∷ filter q xs) (filter q xs))
    by_test true e true f rest = omega (arith, rest)
    by_test true e false f rest = let t = h x e in cc
    by_test false e true f rest = omega (arith, rest)
    by_test false e false f rest = rest

-- ---- the compaction

module _ (acts : List Act) (old new : Stored) (floor : ℕ) (s : StandsFor acts old) (c : IsCompacted floor old new) (good : is_bad_floor floor acts ≡ false) where
  lawful_then : IsLawful old.config (acts ++ Compact floor ∷ [])
  lawful_then = lawful-push old.config acts (Compact floor) s.lawful good

  kept_then : (key : List ℕ) → kept_at key new ≡ unless_empty (revisions (kept old.config.history key (acts ++ Compact floor ∷ [])))
  kept_then key =
      c.kept key
      ∙ ap (λ o. spared floor o (kept_at key old)) (s.last_of key)
      ∙ ap (spared floor (last_write key acts)) (s.kept key)
      ∙ by_test (is_cleared floor (writes_of_key key acts)) refl
    where
      by_test : (b : Bool) → is_cleared floor (writes_of_key key acts) ≡ b → cond b None (unless_empty (revisions (kept old.config.history key acts))) ≡ unless_empty (revisions (kept old.config.history key (acts ++ Compact floor ∷ [])))
      by_test true e = sym (ap (λ ws. unless_empty (revisions ws)) (kept_cleared old.config.history key acts floor e))
      by_test false e = sym (ap (λ ws. unless_empty (revisions ws)) (kept_spared old.config.history key acts floor e))

  last_then : (key : List ℕ) → last_at key new ≡ last_write key (acts ++ Compact floor ∷ [])
  last_then key = c.last_of key ∙ ap (λ o. spared floor o o) (s.last_of key) ∙ by_test (is_cleared floor (writes_of_key key acts)) refl
    where
      by_test : (b : Bool) → is_cleared floor (writes_of_key key acts) ≡ b → cond b None (last_write key acts) ≡ last_write key (acts ++ Compact floor ∷ [])
      by_test true e = sym (ap (last_or None) (writes_of_key-cleared key acts floor e))
      by_test false e = sym (ap (last_or None) (writes_of_key-spared key acts floor e))

  -- a write stays exactly where it is stored then
  left_is : (w : Write) → is_left floor new.by_key w.revision w ≡ is_stored old.config.history (acts ++ Compact floor ∷ []) w
  left_is w =
      ap (λ rs. nat_lt floor w.revision || list_any (λ r. r == w.revision) rs) (ap (λ o. unwrap_or o []) (kept_then w.key) ∙ or_empty (revisions (kept old.config.history w.key (acts ++ Compact floor ∷ []))))
      ∙ sym (is_stored-compact old.config.history acts floor w)

  written_then : (r : ℕ) → write_at r new ≡ write_at_of old.config.history r (acts ++ Compact floor ∷ [])
  unfolding passing
  written_then r =
      let counts = counts_from_lawful old.config acts s.lawful in
      c.written r
      ∙ ap (left_of floor new.by_key r) (s.written r ∙ find_passing (is_stored old.config.history acts) 1 r (writes_of acts) counts)
      ∙ by_found (find (λ w. w.revision == r) (writes_of acts)) refl
      ∙ sym (find_passing (is_stored old.config.history (acts ++ Compact floor ∷ [])) 1 r (writes_of acts) counts)
      ∙ ap (λ ws. find (λ (w : Write). w.revision == r) (filter (is_stored old.config.history (acts ++ Compact floor ∷ [])) ws)) (sym (writes_of-compact acts floor))
    where
      by_test : (w : Write) (a : Bool) → is_stored old.config.history acts w ≡ a → (b : Bool) → is_stored old.config.history (acts ++ Compact floor ∷ []) w ≡ b → is_left floor new.by_key r w ≡ b → left_of floor new.by_key r (cond a (Some w) None) ≡ cond b (Some w) None
      by_test w true e b f g = ap (λ d. cond d (Some w) None) g
      by_test w false e true f g = let t = stored_before old.config old.config.history acts floor w s.lawful good f in cc
      by_test w false e false f g = refl

      by_found : (o : Option Write) → find (λ w. w.revision == r) (writes_of acts) ≡ o → left_of floor new.by_key r (passing (is_stored old.config.history acts) o) ≡ passing (is_stored old.config.history (acts ++ Compact floor ∷ [])) o
      by_found None e = refl
      by_found (Some w) e =
          let same : w.revision ≡ r = found_revision r (writes_of acts) w e in
          by_test w (is_stored old.config.history acts w) refl (is_stored old.config.history (acts ++ Compact floor ∷ []) w) refl (ap (λ n. is_left floor new.by_key n w) (sym same) ∙ left_is w)

  values_then : new.values ≡ length (retained old.config.history (acts ++ Compact floor ∷ []))
  values_then =
      let count = kept_counted old.config.history (acts ++ Compact floor ∷ []) (history_some old.config s.legal) (counts_from_lawful old.config (acts ++ Compact floor ∷ []) lawful_then) new.by_key kept_then c.apart in
      let fewer = filter_fewer (is_kept old.config.history (acts ++ Compact floor ∷ [])) (is_kept old.config.history acts) (λ w k. spared_is_kept old.config.history acts floor w k) (writes_of acts) in
      let same = ap (λ ws. length (filter (is_kept old.config.history (acts ++ Compact floor ∷ [])) ws)) (writes_of-compact acts floor) in
      c.values (omega (arith, count, fewer, same, s.values)) ∙ count

  pub stands_for_compact : StandsFor (acts ++ Compact floor ∷ []) new
  stands_for_compact = record {
    legal = subst IsLegal (sym c.config) s.legal;
    lawful = subst (λ k. IsLawful k (acts ++ Compact floor ∷ [])) (sym c.config) lawful_then;
    last = c.last ∙ s.last ∙ ap length (sym (writes_of-compact acts floor));
    written = λ r. written_then r ∙ ap (λ (k : Configuration). write_at_of k.history r (acts ++ Compact floor ∷ [])) (sym c.config);
    kept = λ key. kept_then key ∙ ap (λ (k : Configuration). unless_empty (revisions (kept k.history key (acts ++ Compact floor ∷ [])))) (sym c.config);
    last_of = last_then;
    values = values_then ∙ ap (λ (k : Configuration). length (retained k.history (acts ++ Compact floor ∷ []))) (sym c.config);
    floor = c.floor ∙ sym (floor_of-compact acts floor);
    sealed = c.sealed ∙ s.sealed ∙ sym (is_sealed-compact acts floor);
  }
