-- The writes behind a revision, one after another.
use Rattle.std.proofs.Common.{◌≡◌, ℕ, suc, zero, ◌+◌, ◌-◌, ◌<◌, ◌≤◌, Bool, true, false, cond, List, [], ◌∷◌, Some, None, length, drop, filter, refl, sym, ap, ◌∙◌, arith}
use Rattle.std.specs.Prelude.{nat_lt}
use Rattle.std.specs.List.{slice_get}
use Rattle.std.proofs.lemmas.Bool.{ltb-true, ltb-false}
use Rattle.std.proofs.lemmas.List.{drop_all}
use Rattle.std.proofs.lemmas.Option.{slice_get_within}
use Rattle.kv_model.specs.Acts.{Act, Write, writes_of, floor_of}
use Rattle.kv_model.specs.Reads.{write_at_of}
use Rattle.kv_store.specs.Standing.{StandsFor}
use Rattle.kv_store.specs.Stored.{Stored}
use Rattle.kv_model.proofs.Found.{write_at_counted}
use Rattle.kv_model.proofs.Numbered.{CountsFrom, counts_from_lawful}
use Rattle.kv_model.specs.declared.options.Options.{Options}
use Rattle.kv_watch.specs.Following.{shown_behind}
use Rattle.kv_model.specs.Given.{AnEntry, entry_of, matching, all_shown}
use Rattle.kv_model.specs.further.Showing.{is_shown}

-- of writes that count from m + 1 on, those behind revision k
behind_from : (k m : ℕ) (ws : List Write) → CountsFrom (suc m) ws → filter (λ w. nat_lt k w.revision) ws ≡ drop (k - m) ws
behind_from k m [] h = sym (drop_all (k - m) [] (omega arith))
behind_from k m (w ∷ ws) h = by_test (nat_lt k w.revision) refl (behind_from k (suc m) ws h.1)
  where
    by_test : (b : Bool) → nat_lt k w.revision ≡ b → filter (λ v. nat_lt k v.revision) ws ≡ drop (k - suc m) ws → cond b (w ∷ filter (λ v. nat_lt k v.revision) ws) (filter (λ v. nat_lt k v.revision) ws) ≡ drop (k - m) (w ∷ ws)
    by_test true t rest =
        let l : k < w.revision = ltb-true k w.revision t in
        let none : k - m ≡ 0 = omega (arith, l, h.0) in
        let none' : k - suc m ≡ 0 = omega (arith, l, h.0) in
        rw none (ap (λ vs. w ∷ vs) (rest ∙ ap (λ n. drop n ws) none'))
    by_test false t rest =
        let l : w.revision ≤ k = ltb-false k w.revision t in
        let more : k - m ≡ suc (k - suc m) = omega (arith, l, h.0) in
        rw more rest

-- the writes behind a revision are those from its place on
pub behind_counted : (k : ℕ) (ws : List Write) → CountsFrom 1 ws → filter (λ w. nat_lt k w.revision) ws ≡ drop k ws
behind_counted k ws h = behind_from k 0 ws h ∙ ap (λ n. drop n ws) (omega arith)

pub counts : (acts : List Act) (version : Stored) → StandsFor acts version → CountsFrom 1 (writes_of acts)
counts acts version s = counts_from_lawful version.config acts s.lawful

-- the list from a place on where something stands
pub drop_here : {X : Type 0} (xs : List X) (i : ℕ) (x : X) → slice_get xs i ≡ Some x → drop i xs ≡ x ∷ drop (i + 1) xs
drop_here [] i x h = cc
drop_here (y ∷ ys) zero x h = cc
drop_here (y ∷ ys) (suc i) x h = let e : suc i + 1 ≡ suc (i + 1) = omega arith in rw e (drop_here ys i x h)

-- and where nothing does
pub drop_past : {X : Type 0} (xs : List X) (i : ℕ) → slice_get xs i ≡ None → drop i xs ≡ []
drop_past [] i h = drop_all i [] (omega arith)
drop_past (y ∷ ys) zero h = cc
drop_past (y ∷ ys) (suc i) h = drop_past ys i h

-- a write that is shown is the first item
pub shown_front : (options : Options) (filters : List (List ℕ)) (w : Write) (ws : List Write) → is_shown filters options w ≡ true
    → all_shown options (matching filters (w ∷ ws)) ≡ AnEntry (entry_of options.headers_only w) ∷ all_shown options (matching filters ws)
shown_front options filters w ws h = grind arith

pub hidden_front : (options : Options) (filters : List (List ℕ)) (w : Write) (ws : List Write) → is_shown filters options w ≡ false
    → all_shown options (matching filters (w ∷ ws)) ≡ all_shown options (matching filters ws)
hidden_front options filters w ws h = grind arith

-- the write at a place has the next revision
revision_from : (n : ℕ) (ws : List Write) (i : ℕ) (w : Write) → CountsFrom n ws → slice_get ws i ≡ Some w → n + i ≡ w.revision
revision_from n [] i w h e = cc
revision_from n (v ∷ ws) zero w h e =
    let same : v ≡ w = cc in omega (arith, h.0, ap (λ (x : Write). x.revision) same)
revision_from n (v ∷ ws) (suc i) w h e = omega (arith, revision_from (suc n) ws i w h.1 e)

pub revision_at : (ws : List Write) (i : ℕ) (w : Write) → CountsFrom 1 ws → slice_get ws i ≡ Some w → w.revision ≡ i + 1
revision_at ws i w h e = omega (arith, revision_from 1 ws i w h e)

-- from the floor on the write of a revision stands at its place
pub at_place : (h : ℕ) (acts : List Act) (place : ℕ) → CountsFrom 1 (writes_of acts) → floor_of acts ≤ place → write_at_of h (place + 1) acts ≡ slice_get (writes_of acts) place
at_place h acts place c l = write_at_counted h (place + 1) acts c (omega (arith, l)) ∙ ap (λ i. slice_get (writes_of acts) i) (omega arith)

-- the write that stands at a place from the floor on has the next revision
pub live_here : (acts : List Act) (version : Stored) → StandsFor acts version → (place : ℕ) (w : Write) → version.floor ≤ place → write_at_of version.config.history (place + 1) acts ≡ Some w
    → (w.revision ≡ place + 1) × (place < length (writes_of acts))
live_here acts version s place w l e =
    let here : slice_get (writes_of acts) place ≡ Some w = sym (at_place version.config.history acts place (counts acts version s) (omega (arith, s.floor, l))) ∙ e in
    (revision_at (writes_of acts) place w (counts acts version s) here, slice_get_within (writes_of acts) place w here)

module _ (acts : List Act) (version : Stored) (s : StandsFor acts version) (filters : List (List ℕ)) (options : Options) where
  from_place : (place : ℕ) → shown_behind place acts filters options ≡ all_shown options (matching filters (drop place (writes_of acts)))
  from_place place = ap (λ ws. all_shown options (matching filters ws)) (behind_counted place (writes_of acts) (counts acts version s))

  above : (place : ℕ) → version.floor ≤ place → floor_of acts ≤ place
  above place l = omega (arith, s.floor, l)

  stands_here : (place : ℕ) (w : Write) → version.floor ≤ place → write_at_of version.config.history (place + 1) acts ≡ Some w → slice_get (writes_of acts) place ≡ Some w
  stands_here place w l e = sym (at_place version.config.history acts place (counts acts version s) (above place l)) ∙ e

  pub live_next : (place : ℕ) (w : Write) → version.floor ≤ place → write_at_of version.config.history (place + 1) acts ≡ Some w → is_shown filters options w ≡ true
      → shown_behind place acts filters options ≡ AnEntry (entry_of options.headers_only w) ∷ shown_behind w.revision acts filters options
  live_next place w l e t =
      let here = stands_here place w l e in
      let number : place + 1 ≡ w.revision = sym (revision_at (writes_of acts) place w (counts acts version s) here) in
      from_place place
      ∙ ap (λ ws. all_shown options (matching filters ws)) (drop_here (writes_of acts) place w here)
      ∙ shown_front options filters w (drop (place + 1) (writes_of acts)) t
      ∙ ap (λ items. AnEntry (entry_of options.headers_only w) ∷ items) (sym (from_place (place + 1)) ∙ ap (λ r. shown_behind r acts filters options) number)

  pub live_skip : (place : ℕ) (w : Write) → version.floor ≤ place → write_at_of version.config.history (place + 1) acts ≡ Some w → is_shown filters options w ≡ false
      → shown_behind place acts filters options ≡ shown_behind (place + 1) acts filters options
  live_skip place w l e t =
      from_place place
      ∙ ap (λ ws. all_shown options (matching filters ws)) (drop_here (writes_of acts) place w (stands_here place w l e))
      ∙ hidden_front options filters w (drop (place + 1) (writes_of acts)) t
      ∙ sym (from_place (place + 1))

  pub live_past : (place : ℕ) → version.floor ≤ place → write_at_of version.config.history (place + 1) acts ≡ None → shown_behind place acts filters options ≡ []
  live_past place l e =
      from_place place
      ∙ ap (λ ws. all_shown options (matching filters ws)) (drop_past (writes_of acts) place (sym (at_place version.config.history acts place (counts acts version s) (above place l)) ∙ e))

  pub live_end : (place : ℕ) → length (writes_of acts) ≤ place → shown_behind place acts filters options ≡ []
  live_end place l =
      from_place place ∙ ap (λ ws. all_shown options (matching filters ws)) (drop_all place (writes_of acts) l)
