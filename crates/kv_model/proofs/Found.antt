-- Where a write is found: by its revision, and as the last of its key.
use Rattle.std.proofs.Common.{◌≡◌, ℕ, suc, ◌-◌, ◌<◌, ◌≤◌, Bool, true, false, cond, ◌||◌, ◌==◌, List, [], ◌∷◌, Option, Some, None, inl, inr, ◌⊎◌, ⊎_elim, unwrap_or, length, filter, refl, sym, subst, ap, ◌∙◌, arith}
use Rattle.std.specs.List.{Contains, find, last_or, list_any, slice_get}
use Rattle.std.specs.Option.{option_map, option_map_or}
use Rattle.std.proofs.lemmas.Bool.{eq-eqb, eqb-true, ne_eqb}
use Rattle.std.proofs.lemmas.List.Elements.{Contains-append_right}
use Rattle.std.proofs.lemmas.Slice.Eq.{bytes_eq-Decides}
use Rattle.kv_model.specs.Acceptance.{IsLawful}
use Rattle.kv_model.specs.Acts.{Act, Write, writes_of, floor_of}
use Rattle.kv_model.specs.Compaction.{is_stored, stored_writes}
use Rattle.kv_model.specs.Configuration.{Configuration}
use Rattle.kv_model.specs.Reads.{unless_empty, write_at_of}
use Rattle.kv_model.specs.Retained.{kept, is_kept, retained, last_revision, last_write, revisions, since_purge, writes_of_key}
use Rattle.kv_model.proofs.Keeping.{kept_ends}
use Rattle.kv_model.proofs.Lasts.{last_or-since_purge, last_or-last_n, last_or-map}
use Rattle.kv_model.proofs.Members.{Contains-cases, Contains-filter, Contains-from_filter, Contains-here, Contains-map, Contains-none, Contains-there, any_from_Contains}
use Rattle.kv_model.proofs.Finds.{find_filter}
use Rattle.kv_model.proofs.Storing.{above_is_stored, kept_is_stored}
use Rattle.kv_model.proofs.Numbered.{CountsFrom, counts_from_lawful, find_counted}
use Rattle.std.specs.Str.{bytes_eq}

-- ---- by its revision

-- the revisions of writes that count from n on are n and more
pub not_below : (n : ℕ) (ws : List Write) (w : Write) → CountsFrom n ws → Contains ws w → n ≤ w.revision
not_below n [] w h m = absurd (Contains-none w m)
not_below n (v ∷ ws) w h m =
    ⊎_elim (λ e. omega (arith, h.0, ap (λ (u : Write). u.revision) e)) (λ k. omega (arith, not_below (suc n) ws w h.1 k)) (Contains-cases v ws w m)

pub found : (n : ℕ) (ws : List Write) (w : Write) → CountsFrom n ws → Contains ws w → find (λ v. v.revision == w.revision) ws ≡ Some w
found n [] w h m = absurd (Contains-none w m)
found n (v ∷ ws) w h m =
    ⊎_elim (λ e. first e) (λ k. later (not_below (suc n) ws w h.1 k) (found (suc n) ws w h.1 k)) (Contains-cases v ws w m)
  where
    first : v ≡ w → find (λ u. u.revision == w.revision) (v ∷ ws) ≡ Some w
    first e = rw (eq-eqb v.revision w.revision (ap (λ (u : Write). u.revision) e)) (ap Some e)

    later : suc n ≤ w.revision → find (λ u. u.revision == w.revision) ws ≡ Some w → find (λ u. u.revision == w.revision) (v ∷ ws) ≡ Some w
    later l e = rw (ne_eqb v.revision w.revision (λ same. omega (arith, h.0, same, l))) e

-- the same among those that pass a test
pub found_among : (p : Write → Bool) (n : ℕ) (ws : List Write) (w : Write) → CountsFrom n ws → Contains ws w → p w ≡ true → find (λ v. v.revision == w.revision) (filter p ws) ≡ Some w
found_among p n [] w h m t = absurd (Contains-none w m)
found_among p n (v ∷ ws) w h m t =
    ⊎_elim (λ e. first e) (λ k. later (not_below (suc n) ws w h.1 k) (found_among p (suc n) ws w h.1 k t) (p v)) (Contains-cases v ws w m)
  where
    first : v ≡ w → find (λ u. u.revision == w.revision) (cond (p v) (v ∷ filter p ws) (filter p ws)) ≡ Some w
    first e = rw (ap p e ∙ t, eq-eqb v.revision w.revision (ap (λ (u : Write). u.revision) e)) (ap Some e)

    later : suc n ≤ w.revision → find (λ u. u.revision == w.revision) (filter p ws) ≡ Some w → (b : Bool) → find (λ u. u.revision == w.revision) (cond b (v ∷ filter p ws) (filter p ws)) ≡ Some w
    later l e true = rw (ne_eqb v.revision w.revision (λ same. omega (arith, h.0, same, l))) e
    later l e false = e

-- each stored write is the one at its revision
pub write_at-member : (h : ℕ) (acts : List Act) (w : Write) → CountsFrom 1 (writes_of acts) → Contains (writes_of acts) w → is_stored h acts w ≡ true → write_at_of h w.revision acts ≡ Some w
write_at-member h acts w c m t = found_among (is_stored h acts) 1 (writes_of acts) w c m t

-- no stored write has revision 0
none_at_zero : (p : Write → Bool) (n : ℕ) (ws : List Write) → CountsFrom (suc n) ws → find (λ v. v.revision == 0) (filter p ws) ≡ None
none_at_zero p n [] h = refl
none_at_zero p n (v ∷ ws) h = by_test (p v) (none_at_zero p (suc n) ws h.1)
  where
    by_test : (b : Bool) → find (λ u. u.revision == 0) (filter p ws) ≡ None → find (λ u. u.revision == 0) (cond b (v ∷ filter p ws) (filter p ws)) ≡ None
    by_test true e = rw (ne_eqb v.revision 0 (λ same. omega (arith, h.0, same))) e
    by_test false e = e

-- above the floor the write of a revision stands at its place
pub write_at_counted : (h r : ℕ) (acts : List Act) → CountsFrom 1 (writes_of acts) → floor_of acts < r → write_at_of h r acts ≡ slice_get (writes_of acts) (r - 1)
write_at_counted h r acts c l =
    find_filter (λ w. w.revision == r) (is_stored h acts) (writes_of acts) (λ w e. above_is_stored h acts w (omega (arith, l, eqb-true w.revision r e)))
    ∙ find_counted 1 r (writes_of acts) c (omega arith)

-- ---- as the last

last_member : {X : Type 0} (o : Option X) (xs : List X) (x : X) → last_or o xs ≡ Some x → (o ≡ Some x) ⊎ Contains xs x
last_member o [] x h = inl h
last_member {X} o (y ∷ ys) x h =
    ⊎_elim (λ e. let same : y ≡ x = some_same y x e in inr (subst (λ z. Contains (y ∷ ys) z) same (Contains-here y ys))) (λ m. inr (Contains-there y ys x m)) (last_member (Some y) ys x h)
  where
    some_same : (a b : X) → Some a ≡ Some b → a ≡ b
    some_same a b e = cc

pub last_contained : {X : Type 0} (xs : List X) (x : X) → last_or None xs ≡ Some x → Contains xs x
last_contained {X} xs x h = ⊎_elim (λ e. none x e) (λ m. m) (last_member None xs x h)
  where
    none : (a : X) → None ≡ Some a → Contains xs x
    none a e = cc

-- ---- the last that is kept

revision_or_zero : (o : Option Write) → option_map_or (λ v. v.revision) o 0 ≡ unwrap_or (option_map (λ v. v.revision) o) 0
revision_or_zero None = refl
revision_or_zero (Some v) = refl

-- the last write of a key is the last that is kept of it
pub last_write-kept : (h : ℕ) (key : List ℕ) (acts : List Act) → 0 < h → last_write key acts ≡ last_or None (kept h key acts)
last_write-kept h key acts some =
    let of = writes_of_key key acts in
    sym (last_or-last_n h (since_purge of) some ∙ last_or-since_purge of None)

pub last_revision-kept : (h : ℕ) (key : List ℕ) (acts : List Act) → 0 < h → last_revision key acts ≡ unwrap_or (last_or None (revisions (kept h key acts))) 0
last_revision-kept h key acts some =
    revision_or_zero (last_write key acts)
    ∙ ap (λ o. unwrap_or o 0) (ap (option_map (λ v. v.revision)) (last_write-kept h key acts some) ∙ sym (last_or-map (λ v. v.revision) (kept h key acts) None))

-- ---- as one that is kept

-- each kept write of a key is one of the writes
pub kept_member : (h : ℕ) (key : List ℕ) (acts : List Act) (w : Write) → Contains (kept h key acts) w → Contains (writes_of acts) w
kept_member h key acts w m =
    let end = kept_ends h key acts in
    let of_key : Contains (filter (λ v. bytes_eq v.key key) (writes_of acts)) w = subst (λ ws. Contains ws w) end.1 (Contains-append_right end.0 (kept h key acts) w m) in
    (Contains-from_filter (λ v. bytes_eq v.key key) (writes_of acts) w of_key).0

-- and its key is that one
kept_key : (h : ℕ) (key : List ℕ) (acts : List Act) (w : Write) → Contains (kept h key acts) w → w.key ≡ key
kept_key h key acts w m =
    let end = kept_ends h key acts in
    let of_key : Contains (filter (λ v. bytes_eq v.key key) (writes_of acts)) w = subst (λ ws. Contains ws w) end.1 (Contains-append_right end.0 (kept h key acts) w m) in
    (bytes_eq-Decides w.key key).0 (Contains-from_filter (λ v. bytes_eq v.key key) (writes_of acts) w of_key).1

-- so it is kept, and stored
pub kept_is_kept : (h : ℕ) (key : List ℕ) (acts : List Act) (w : Write) → Contains (kept h key acts) w → is_kept h acts w ≡ true
kept_is_kept h key acts w m =
    let among = any_from_Contains w.revision (revisions (kept h key acts)) (Contains-map (λ (v : Write). v.revision) (kept h key acts) w m) in
    subst (λ k. list_any (λ r. r == w.revision) (revisions (kept h k acts)) ≡ true) (sym (kept_key h key acts w m)) among

pub kept_stored : (config : Configuration) (h : ℕ) (key : List ℕ) (acts : List Act) (w : Write) → IsLawful config acts → Contains (kept h key acts) w → Contains (stored_writes h acts) w
kept_stored config h key acts w lawful m =
    Contains-filter (is_stored h acts) (writes_of acts) w (kept_member h key acts w m) (kept_is_stored config h acts w lawful (kept_is_kept h key acts w m))

pub retained_stored : (config : Configuration) (h : ℕ) (acts : List Act) (w : Write) → IsLawful config acts → Contains (retained h acts) w → Contains (stored_writes h acts) w
retained_stored config h acts w lawful m =
    let both = Contains-from_filter (is_kept h acts) (writes_of acts) w m in
    Contains-filter (is_stored h acts) (writes_of acts) w both.0 (kept_is_stored config h acts w lawful both.1)

pub above_stored : (h : ℕ) (acts : List Act) (w : Write) → Contains (writes_of acts) w → floor_of acts < w.revision → Contains (stored_writes h acts) w
above_stored h acts w m l = Contains-filter (is_stored h acts) (writes_of acts) w m (above_is_stored h acts w l)

pub write_at_kept : (config : Configuration) (h : ℕ) (key : List ℕ) (acts : List Act) (w : Write) → IsLawful config acts → Contains (kept h key acts) w → write_at_of h w.revision acts ≡ Some w
write_at_kept config h key acts w lawful m =
    write_at-member h acts w (counts_from_lawful config acts lawful) (kept_member h key acts w m) (kept_is_stored config h acts w lawful (kept_is_kept h key acts w m))

-- the last write of a key is the one at the key's last revision, and where it has none that is 0
pub write_at-last : (config : Configuration) (h : ℕ) (key : List ℕ) (acts : List Act) → 0 < h → IsLawful config acts → write_at_of h (last_revision key acts) acts ≡ last_write key acts
write_at-last config h key acts some lawful = by_last (last_write key acts) refl
  where
    by_last : (o : Option Write) → last_write key acts ≡ o → write_at_of h (option_map_or (λ w. w.revision) o 0) acts ≡ o
    by_last None e = none_at_zero (is_stored h acts) 0 (writes_of acts) (counts_from_lawful config acts lawful)
    by_last (Some w) e =
        let m : Contains (kept h key acts) w = last_contained (kept h key acts) w (sym (last_write-kept h key acts some) ∙ e) in
        write_at_kept config h key acts w lawful m

find_any : (r : ℕ) (ws : List Write) → list_any (λ n. n == r) (revisions ws) ≡ true → (w : Write) × (find (λ v. v.revision == r) ws ≡ Some w) × Contains ws w × (w.revision ≡ r)
find_any r [] h = cc
find_any r (v ∷ ws) h = by_test (v.revision == r) refl (λ k. find_any r ws k) h
  where
    by_test : (b : Bool) → (v.revision == r) ≡ b → (list_any (λ n. n == r) (revisions ws) ≡ true → (w : Write) × (find (λ u. u.revision == r) ws ≡ Some w) × Contains ws w × (w.revision ≡ r)) → (b || list_any (λ n. n == r) (revisions ws)) ≡ true → (w : Write) × (cond b (Some v) (find (λ u. u.revision == r) ws) ≡ Some w) × Contains (v ∷ ws) w × (w.revision ≡ r)
    by_test true e later k = (v, refl, Contains-here v ws, eqb-true v.revision r e)
    by_test false e later k = let rest = later k in (rest.0, rest.1, Contains-there v ws rest.0 rest.2, rest.3)

find_none : (r : ℕ) (ws : List Write) → list_any (λ n. n == r) (revisions ws) ≡ false → find (λ v. v.revision == r) ws ≡ None
find_none r [] h = refl
find_none r (v ∷ ws) h = grind (arith, find_none r ws)

-- a kept write is the one at its revision
pub find_kept : (config : Configuration) (h : ℕ) (key : List ℕ) (r : ℕ) (acts : List Act) → IsLawful config acts → list_any (λ n. n == r) (revisions (kept h key acts)) ≡ true → write_at_of h r acts ≡ find (λ w. w.revision == r) (kept h key acts)
find_kept config h key r acts lawful k =
    let it = find_any r (kept h key acts) k in
    subst (λ n. write_at_of h n acts ≡ Some it.0) it.3 (write_at_kept config h key acts it.0 lawful it.2) ∙ sym it.1

pub find_unkept : (h : ℕ) (key : List ℕ) (r : ℕ) (acts : List Act) → list_any (λ n. n == r) (revisions (kept h key acts)) ≡ false → None ≡ find (λ w. w.revision == r) (kept h key acts)
find_unkept h key r acts k = sym (find_none r (kept h key acts) k)

-- ---- as it is stored

pub unless_empty-some : {X : Type 0} (xs ys : List X) → unless_empty xs ≡ Some ys → xs ≡ ys
unless_empty-some [] ys h = cc
unless_empty-some (x ∷ xs) ys h = cc

pub unless_empty-none : {X : Type 0} (xs : List X) → unless_empty xs ≡ None → xs ≡ []
unless_empty-none [] h = refl
unless_empty-none (x ∷ xs) h = cc

pub or_empty : {X : Type 0} (xs : List X) → unwrap_or (unless_empty xs) [] ≡ xs
or_empty [] = refl
or_empty (x ∷ xs) = refl

pub unless_empty-long : {X : Type 0} (xs : List X) → 0 < length xs → unless_empty xs ≡ Some xs
unless_empty-long [] h = absurd (omega arith)
unless_empty-long (x ∷ xs) h = refl
