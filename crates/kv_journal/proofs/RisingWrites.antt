-- Writes whose revisions rise between two bounds: how many there are, which come first and last, and what one more changes.
use Rattle.std.proofs.Common.{◌≡◌, ℕ, suc, ◌+◌, ◌<◌, ◌≤◌, Bool, true, false, cond, List, [], ◌∷◌, ◌++◌, Option, Some, None, length, filter, refl, ap, arith, ⊎_elim}
use Rattle.std.specs.Prelude.{nat_lt}
use Rattle.std.specs.List.{Contains, last_or}
use Rattle.std.specs.Option.{option_map_or}
use Rattle.std.proofs.lemmas.Bool.{ltb-true}
use Rattle.kv_model.specs.Acts.{Write}
use Rattle.kv_model.proofs.Members.{Contains-cases, Contains-none}
use Rattle.kv_model.proofs.Numbered.{CountsFrom}
use Rattle.kv_journal.specs.inside.Reachable.{RiseWithin, last_among}

-- the lower bound is no more than the last revision
pub rise_bounds : (low last : ℕ) (ws : List Write) → RiseWithin low last ws → low ≤ last
rise_bounds low last [] h = h
rise_bounds low last (w ∷ ws) h = omega (arith, h.0, rise_bounds w.revision last ws h.1)

-- the lower bound may be less
pub rise_lower : (low low' last : ℕ) (ws : List Write) → low' ≤ low → RiseWithin low last ws → RiseWithin low' last ws
rise_lower low low' last [] l h = omega (arith, h)
rise_lower low low' last (w ∷ ws) l h = (omega (arith, h.0), h.1)

-- a greater upper bound
pub rise_higher : (low high last : ℕ) (ws : List Write) → RiseWithin low high ws → high ≤ last → RiseWithin low last ws
rise_higher low high last [] h l = omega (arith, h)
rise_higher low high last (w ∷ ws) h l = (h.0, rise_higher w.revision high last ws h.1 l)

-- the revision of each write stands within the bounds
pub rise_members : (low last : ℕ) (ws : List Write) (x : Write) → RiseWithin low last ws → Contains ws x → (low < x.revision) × (x.revision ≤ last)
rise_members low last [] x h m = absurd (Contains-none x m)
rise_members low last (w ∷ ws) x h m =
    ⊎_elim
    (λ e. let same : w.revision ≡ x.revision = ap (λ (v : Write). v.revision) e in (omega (arith, h.0), omega (arith, rise_bounds w.revision last ws h.1)))
    (λ n. let rest = rise_members w.revision last ws x h.1 n in (omega (arith, h.0, rest.0), rest.1))
    (Contains-cases w ws x m)

-- the end of writes that rise rises
pub rise_right : (low last : ℕ) (xs ys : List Write) → RiseWithin low last (xs ++ ys) → RiseWithin low last ys
rise_right low last [] ys h = h
rise_right low last (x ∷ xs) ys h = rise_lower x.revision low last ys (omega (arith, h.0)) (rise_right x.revision last xs ys h.1)

-- the beginning of writes that rise rises
pub rise_left : (low last : ℕ) (xs ys : List Write) → RiseWithin low last (xs ++ ys) → RiseWithin low last xs
rise_left low last [] ys h = rise_bounds low last ys h
rise_left low last (x ∷ xs) ys h = (h.0, rise_left x.revision last xs ys h.1)

-- a write that stands before another has a smaller revision
pub rise_apart : (low last : ℕ) (xs ys : List Write) (x y : Write) → RiseWithin low last (xs ++ ys) → Contains xs x → Contains ys y → x.revision < y.revision
rise_apart low last [] ys x y h m n = absurd (Contains-none x m)
rise_apart low last (v ∷ xs) ys x y h m n =
    ⊎_elim
    (λ e. let same : v.revision ≡ x.revision = ap (λ (z : Write). z.revision) e in omega (arith, (rise_members v.revision last ys y (rise_right v.revision last xs ys h.1) n).0))
    (λ k. rise_apart v.revision last xs ys x y h.1 k n)
    (Contains-cases v xs x m)

-- what stands behind an element is greater
pub rise_behind : (low last : ℕ) (xs ys : List Write) (x y : Write) → RiseWithin low last (xs ++ x ∷ ys) → Contains ys y → x.revision < y.revision
rise_behind low last [] ys x y r m = (rise_members x.revision last ys y r.1 m).0
rise_behind low last (v ∷ vs) ys x y r m = rise_behind v.revision last vs ys x y r.1 m

-- the last one is the greatest
pub last_greatest : (low last : ℕ) (ws : List Write) (u w : Write) → RiseWithin low last ws → last_or None ws ≡ Some u → Contains ws w → w.revision ≤ u.revision
last_greatest low last [] u w r e m = absurd (Contains-none w m)
last_greatest low last (v ∷ vs) u w r e m = ⊎_elim (λ s. omega (arith, ap (λ (x : Write). x.revision) s, least v vs r.1 e)) (λ n. later vs r.1 e n (λ f. last_greatest v.revision last vs u w r.1 f n)) (Contains-cases v vs w m)
  where
    least : (v : Write) (vs : List Write) → RiseWithin v.revision last vs → last_or (Some v) vs ≡ Some u → v.revision ≤ u.revision
    least v [] r e = let same : v ≡ u = cc in omega (arith, ap (λ (x : Write). x.revision) same)
    least v (x ∷ xs) r e = omega (arith, r.0, least x xs r.1 e)

    later : (vs : List Write) → RiseWithin v.revision last vs → last_or (Some v) vs ≡ Some u → Contains vs w → (last_or None vs ≡ Some u → w.revision ≤ u.revision) → w.revision ≤ u.revision
    later [] r e n rest = absurd (Contains-none w n)
    later (x ∷ xs) r e n rest = rest e

-- those of them that pass a test rise
pub rise_filter : (p : Write → Bool) (low last : ℕ) (ws : List Write) → RiseWithin low last ws → RiseWithin low last (filter p ws)
rise_filter p low last [] h = h
rise_filter p low last (w ∷ ws) h = by (p w) (rise_filter p w.revision last ws h.1)
  where
    by : (b : Bool) → RiseWithin w.revision last (filter p ws) → RiseWithin low last (cond b (w ∷ filter p ws) (filter p ws))
    by true r = (h.0, r)
    by false r = rise_lower w.revision low last (filter p ws) (omega (arith, h.0)) r

-- one more write above the last revision
pub rise_push : (low last : ℕ) (ws : List Write) (w : Write) → RiseWithin low last ws → last < w.revision → RiseWithin low w.revision (ws ++ w ∷ [])
rise_push low last [] w h l = (omega (arith, h), omega arith)
rise_push low last (v ∷ ws) w h l = (h.0, rise_push v.revision last ws w h.1 l)

-- the last revision is within the upper bound
pub rise_last : (low last : ℕ) (ws : List Write) → RiseWithin low last ws → last_among ws ≤ last
rise_last low last ws h = from low ws None h (omega arith)
  where
    from : (low : ℕ) (ws : List Write) (o : Option Write) → RiseWithin low last ws → option_map_or (λ w. w.revision) o 0 ≤ low → option_map_or (λ w. w.revision) (last_or o ws) 0 ≤ last
    from low [] o h k = omega (arith, h, k)
    from low (w ∷ ws) o h k = from w.revision ws (Some w) h.1 (omega arith)

-- there are no more writes than revisions between the bounds
pub rise_count : (low last : ℕ) (ws : List Write) → RiseWithin low last ws → length ws + low ≤ last
rise_count low last [] h = omega arith
rise_count low last (w ∷ ws) h = omega (arith, h.0, rise_count w.revision last ws h.1)

-- where each revision between the bounds has its write, the first is next to the lower bound
pub rise_first : (low last : ℕ) (w : Write) (ws : List Write) → RiseWithin low last (w ∷ ws) → last ≤ length (w ∷ ws) + low → w.revision ≡ low + 1
rise_first low last w ws h k = omega (arith, h.0, rise_count w.revision last ws h.1)

-- no more pass a test than there are
pub filter_fewer : (p : Write → Bool) (ws : List Write) → length (filter p ws) ≤ length ws
filter_fewer p [] = omega arith
filter_fewer p (w ∷ ws) = one (p w) (filter_fewer p ws)
  where
    one : (b : Bool) → length (filter p ws) ≤ length ws → length (cond b (w ∷ filter p ws) (filter p ws)) ≤ suc (length ws)
    one true k = omega arith
    one false k = omega arith

-- nor are there more above a floor than revisions between it and the upper bound
pub rise_above : (floor low last : ℕ) (ws : List Write) → RiseWithin low last ws → floor ≤ last → length (filter (λ w. nat_lt floor w.revision) ws) + floor ≤ last
rise_above floor low last [] h l = omega arith
rise_above floor low last (w ∷ ws) h l = by_test (nat_lt floor w.revision) refl (rise_above floor w.revision last ws h.1 l) (filter_fewer (λ w. nat_lt floor w.revision) ws)
  where
    by_test : (b : Bool) → nat_lt floor w.revision ≡ b → length (filter (λ w. nat_lt floor w.revision) ws) + floor ≤ last → length (filter (λ w. nat_lt floor w.revision) ws) ≤ length ws
        → length (cond b (w ∷ filter (λ w. nat_lt floor w.revision) ws) (filter (λ w. nat_lt floor w.revision) ws)) + floor ≤ last
    by_test true e rest few = omega (arith, few, ltb-true floor w.revision e, rise_count w.revision last ws h.1)
    by_test false e rest few = rest

-- writes that count up rise, and so does any selection of them
pub counted_rise : (p : Write → Bool) (n : ℕ) (ws : List Write) → CountsFrom (suc n) ws → RiseWithin n (n + length ws) (filter p ws)
counted_rise p n [] h = omega arith
counted_rise p n (w ∷ ws) h = by_test (p w) (higher (suc n + length ws) (filter p ws) (omega arith) (counted_rise p (suc n) ws h.1))
  where
    higher : (high : ℕ) (vs : List Write) → high ≤ n + suc (length ws) → RiseWithin (suc n) high vs → RiseWithin (suc n) (n + suc (length ws)) vs
    higher high vs l k = rise_higher (suc n) high (n + suc (length ws)) vs k l

    at : (low : ℕ) (vs : List Write) → w.revision ≡ low → RiseWithin low (n + suc (length ws)) vs → RiseWithin w.revision (n + suc (length ws)) vs
    at low vs e k = rise_lower low w.revision (n + suc (length ws)) vs (omega arith) k

    by_test : (b : Bool) → RiseWithin (suc n) (n + suc (length ws)) (filter p ws) → RiseWithin n (n + suc (length ws)) (cond b (w ∷ filter p ws) (filter p ws))
    by_test true k = (omega (arith, h.0), at (suc n) (filter p ws) h.0 k)
    by_test false k = rise_lower (suc n) n (n + suc (length ws)) (filter p ws) (omega arith) k
