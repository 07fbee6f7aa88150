-- What is kept among writes that are read in order, and what one more write loses of it.
use Rattle.std.proofs.Common.{◌≡◌, ℕ, zero, suc, ◌-◌, ◌<◌, ◌≤◌, Bool, true, false, cond, ◌&&◌, ◌||◌, ◌==◌, List, [], ◌∷◌, ◌++◌, ⊎_elim, length, drop, refl, sym, subst, ap, ◌∙◌, arith, append-nil, length-append}
use Rattle.std.specs.Prelude.{nat_le, if◌then◌else◌}
use Rattle.std.specs.List.{Contains, list_any}
use Rattle.std.specs.Str.{bytes_eq}
use Rattle.std.specs.Cmp.Lexicographic.{same_text}
use Rattle.std.proofs.lemmas.Bool.{and_parts, leb-true, leb-false, false_from_ne_true}
use Rattle.std.proofs.lemmas.Slice.Eq.{bytes_eq-Decides}
use Rattle.std.proofs.lemmas.List.{drop-append-le, map-append}
use Rattle.std.proofs.lemmas.List.Elements.{Contains-append_left, Contains-append_right, Contains-push, Contains-push_cases, filter-append}
use Rattle.kv_model.specs.declared.write.Op.{Op}
use Rattle.kv_model.specs.Acts.{Write, is_purge}
use Rattle.kv_model.specs.Retained.{last_n, revisions, since_purge}
use Rattle.kv_model.proofs.Keeping.{last_n-push, revisions-last_n, since_purge-push}
use Rattle.kv_model.proofs.Members.{Contains-cases, Contains-from_any, Contains-from_filter, Contains-from_map, Contains-here, Contains-none, Contains-there, any_from_Contains}
use Rattle.kv_journal.specs.Restored.{those_of}
use Rattle.kv_journal.specs.inside.Courses.{AreKept, loses}
use Rattle.kv_journal.specs.inside.Reachable.{kept_among, is_kept_among, RiseWithin}
use Rattle.kv_journal.proofs.Ends.{kept_is_an_end}
use Rattle.kv_journal.proofs.Among.{kept_among_front}
use Rattle.kv_journal.proofs.RisingWrites.{rise_bounds, rise_filter, rise_members, rise_right}

-- ---- the writes of a key, and one more write

-- of one more write: it stands behind those of its own key
pub those_of-push : (key : List ℕ) (ws : List Write) (w : Write) → those_of key (ws ++ w ∷ []) ≡ those_of key ws ++ (if bytes_eq w.key key then w ∷ [] else [])
those_of-push key ws w = filter-append (λ v. bytes_eq v.key key) ws (w ∷ [])

-- a write of another key leaves them
pub those_of-other : (key : List ℕ) (ws : List Write) (w : Write) → bytes_eq w.key key ≡ false → those_of key (ws ++ w ∷ []) ≡ those_of key ws
those_of-other key ws w e = those_of-push key ws w ∙ ap (λ (b : Bool). those_of key ws ++ cond b (w ∷ []) []) e ∙ append-nil (those_of key ws)

-- one of the key comes behind them
pub those_of-same : (key : List ℕ) (ws : List Write) (w : Write) → bytes_eq w.key key ≡ true → those_of key (ws ++ w ∷ []) ≡ those_of key ws ++ w ∷ []
those_of-same key ws w e = those_of-push key ws w ∙ ap (λ (b : Bool). those_of key ws ++ cond b (w ∷ []) []) e

-- of another key the same writes are kept
pub kept_among-other : (h : ℕ) (key : List ℕ) (ws : List Write) (w : Write) → bytes_eq w.key key ≡ false → kept_among h key (ws ++ w ∷ []) ≡ kept_among h key ws
kept_among-other h key ws w e = ap (λ (vs : List Write). last_n h (since_purge vs)) (those_of-other key ws w e)

-- of its own key it is kept behind the others, where it is no purge, and of all these the last h
pub kept_among-same : (h : ℕ) (key : List ℕ) (ws : List Write) (w : Write) → 0 < h → bytes_eq w.key key ≡ true → kept_among h key (ws ++ w ∷ []) ≡ last_n h (cond (is_purge w.op) [] (kept_among h key ws) ++ w ∷ [])
kept_among-same h key ws w some e =
    ap (λ (vs : List Write). last_n h (since_purge vs)) (those_of-same key ws w e)
    ∙ ap (last_n h) (since_purge-push (those_of key ws) w)
    ∙ by (is_purge w.op)
  where
    by : (b : Bool) → last_n h (cond b [] (since_purge (those_of key ws)) ++ w ∷ []) ≡ last_n h (cond b [] (kept_among h key ws) ++ w ∷ [])
    by true = refl
    by false = last_n-push h (since_purge (those_of key ws)) w some

-- the same of the kept revisions
pub kept_revisions-same : (h : ℕ) (key : List ℕ) (ws : List Write) (w : Write) → 0 < h → bytes_eq w.key key ≡ true → revisions (kept_among h key (ws ++ w ∷ [])) ≡ last_n h (cond (is_purge w.op) [] (revisions (kept_among h key ws)) ++ w.revision ∷ [])
kept_revisions-same h key ws w some e =
    ap revisions (kept_among-same h key ws w some e)
    ∙ revisions-last_n h (cond (is_purge w.op) [] (kept_among h key ws) ++ w ∷ [])
    ∙ ap (last_n h) (map-append (λ (v : Write). v.revision) (cond (is_purge w.op) [] (kept_among h key ws)) (w ∷ []) ∙ by (is_purge w.op))
  where
    by : (b : Bool) → revisions (cond b [] (kept_among h key ws)) ++ w.revision ∷ [] ≡ cond b [] (revisions (kept_among h key ws)) ++ w.revision ∷ []
    by true = refl
    by false = refl

-- ---- which writes are kept

-- a write that is kept of a key is one of the writes, and of that key
pub among_kept : (h : ℕ) (key : List ℕ) (ws : List Write) (x : Write) → Contains (kept_among h key ws) x → Contains ws x × (x.key ≡ key)
among_kept h key ws x m =
    let end = kept_is_an_end h (those_of key ws) in
    let all : Contains (those_of key ws) x = subst (λ (vs : List Write). Contains vs x) end.1 (Contains-append_right end.0 (kept_among h key ws) x m) in
    let parts = Contains-from_filter (λ (v : Write). bytes_eq v.key key) ws x all in
    (parts.0, same_text x.key key (sym parts.1))

-- the kept writes of a key rise
pub rise_kept : (h : ℕ) (key : List ℕ) (low last : ℕ) (ws : List Write) → RiseWithin low last ws → RiseWithin low last (kept_among h key ws)
rise_kept h key low last ws r =
    let end = kept_is_an_end h (those_of key ws) in
    rise_right low last end.0 (kept_among h key ws) (subst (RiseWithin low last) (sym end.1) (rise_filter (λ (v : Write). bytes_eq v.key key) low last ws r))

-- a write is kept where its revision is one of these
kept_where : (h : ℕ) (ws : List Write) (x : Write) (rs : List ℕ) → revisions (kept_among h x.key ws) ≡ rs → Contains rs x.revision → is_kept_among h ws x ≡ true
kept_where h ws x rs e m = ap (list_any (λ r. r == x.revision)) e ∙ any_from_Contains x.revision rs m

-- the revision of a write that is kept is one of these
where_kept : (h : ℕ) (ws : List Write) (x : Write) (rs : List ℕ) → revisions (kept_among h x.key ws) ≡ rs → is_kept_among h ws x ≡ true → Contains rs x.revision
where_kept h ws x rs e t = Contains-from_any x.revision rs (sym (ap (list_any (λ r. r == x.revision)) e) ∙ t)

-- the last n of a list with one more element have this element
last_n-last : {X : Type 0} (n : ℕ) (xs : List X) (x : X) → 0 < n → Contains (last_n n (xs ++ x ∷ [])) x
last_n-last n xs x some =
    let k = length (xs ++ x ∷ []) - n in
    subst (λ ys. Contains ys x) (sym (drop-append-le k xs (x ∷ []) (omega (arith, length-append xs (x ∷ []))))) (Contains-push (drop k xs) x)

-- of no more than n elements the last n are all
last_n-few : {X : Type 0} (n : ℕ) (xs : List X) → length xs ≤ n → last_n n xs ≡ xs
last_n-few n xs few = let none : length xs - n ≡ 0 = omega arith in ap (λ (k : ℕ). drop k xs) none

-- of more than n elements the first is not among the last n
last_n-more : {X : Type 0} (n : ℕ) (x : X) (xs : List X) → n ≤ length xs → last_n n (x ∷ xs) ≡ last_n n xs
last_n-more n x xs many = let one : length (x ∷ xs) - n ≡ suc (length xs - n) = omega arith in ap (λ (k : ℕ). drop k (x ∷ xs)) one

-- what is left of a list behind its first elements is of the list
Contains-drop : {X : Type 0} (k : ℕ) (xs : List X) (y : X) → Contains (drop k xs) y → Contains xs y
Contains-drop zero xs y m = m
Contains-drop (suc k) [] y m = m
Contains-drop (suc k) (x ∷ xs) y m = Contains-there x xs y (Contains-drop k xs y m)

-- ---- each beginning

-- what is so of all writes is so of each beginning
pub kept_of_beginning : (h floor last : ℕ) (before after : List Write) → RiseWithin 0 last (before ++ after) → AreKept h floor (before ++ after) → AreKept h floor before
kept_of_beginning h floor last before after rise all x m low = kept_among_front h 0 last before after x rise m (all x (Contains-append_left before after x m) low)

-- ---- one more write

-- where nothing is lost, a kept revision at or below the floor stays
stays : (h floor low : ℕ) (op : Op) (vs : List Write) (r new : ℕ) → RiseWithin 0 low vs → Contains (revisions vs) r → r ≤ floor → loses h floor op (revisions vs) ≡ false → Contains (last_n h (cond (is_purge op) [] (revisions vs) ++ new ∷ [])) r
stays h floor low op [] r new rise m under keeps = absurd (Contains-none r m)
stays h floor low op (v ∷ vs) r new rise m under keeps = by (nat_le v.revision floor) refl (is_purge op) (nat_le h (length (revisions (v ∷ vs)))) refl keeps
  where
    least : v.revision ≤ r
    least =
        let x = Contains-from_map (λ (z : Write). z.revision) (v ∷ vs) r m in
        ⊎_elim
        (λ e. let same : v.revision ≡ x.0.revision = ap (λ (z : Write). z.revision) e in omega (arith, x.2))
        (λ n. omega (arith, x.2, (rise_members v.revision low vs x.0 rise.1 n).0))
        (Contains-cases v vs x.0 x.1)

    by : (a : Bool) → nat_le v.revision floor ≡ a → (p b : Bool) → nat_le h (length (revisions (v ∷ vs))) ≡ b → (a && (p || b)) ≡ false → Contains (last_n h (cond p [] (revisions (v ∷ vs)) ++ new ∷ [])) r
    by false e p b f keeps = absurd (omega (arith, least, under, leb-false v.revision floor e))
    by true e true b f keeps = absurd cc
    by true e false true f keeps = absurd cc
    by true e false false f keeps =
        let all = revisions (v ∷ vs) ++ new ∷ [] in
        let whole : last_n h all ≡ all = last_n-few h all (omega (arith, leb-false h (length (revisions (v ∷ vs))) f, length-append (revisions (v ∷ vs)) (new ∷ []))) in
        subst (λ (rs : List ℕ). Contains rs r) (sym whole) (Contains-append_left (revisions (v ∷ vs)) (new ∷ []) r m)

-- the write itself is kept
pub kept_itself : (h : ℕ) (before : List Write) (w : Write) → 0 < h → is_kept_among h (before ++ w ∷ []) w ≡ true
kept_itself h before w some =
    let front = cond (is_purge w.op) [] (revisions (kept_among h w.key before)) in
    kept_where h (before ++ w ∷ []) w (last_n h (front ++ w.revision ∷ []))
    (kept_revisions-same h w.key before w some ((bytes_eq-Decides w.key w.key).1 refl))
    (last_n-last h front w.revision some)

-- where one more write loses nothing, each write at or below the floor is kept behind it
pub kept_on : (h floor low : ℕ) (before : List Write) (w : Write) (ks : List ℕ) → 0 < h → RiseWithin 0 low before → low < w.revision → AreKept h floor before → ks ≡ revisions (kept_among h w.key before) → loses h floor w.op ks ≡ false → AreKept h floor (before ++ w ∷ [])
kept_on h floor low before w ks some rise above were are keeps x m under =
    ⊎_elim
    (λ n. by (bytes_eq w.key x.key) refl (were x n under))
    (λ e. subst (λ (z : Write). is_kept_among h (before ++ w ∷ []) z ≡ true) e (kept_itself h before w some))
    (Contains-push_cases before w x m)
  where
    by : (b : Bool) → bytes_eq w.key x.key ≡ b → is_kept_among h before x ≡ true → is_kept_among h (before ++ w ∷ []) x ≡ true
    by true e t =
        let same : x.key ≡ w.key = sym ((bytes_eq-Decides w.key x.key).0 e) in
        let old = kept_among h w.key before in
        let among : Contains (revisions old) x.revision = where_kept h before x (revisions old) (ap (λ (key : List ℕ). revisions (kept_among h key before)) same) t in
        let still = stays h floor low w.op old x.revision w.revision (rise_kept h w.key 0 low before rise) among under (ap (loses h floor w.op) (sym are) ∙ keeps) in
        kept_where h (before ++ w ∷ []) x (last_n h (cond (is_purge w.op) [] (revisions old) ++ w.revision ∷ []))
        (ap (λ (key : List ℕ). revisions (kept_among h key (before ++ w ∷ []))) same ∙ kept_revisions-same h w.key before w some ((bytes_eq-Decides w.key w.key).1 refl))
        still
    by false e t = ap (λ (ws : List Write). list_any (λ r. r == x.revision) (revisions ws)) (kept_among-other h x.key before w e) ∙ t

-- behind a purge, or where as many as can be were kept, the first kept revision is kept no more
goes : (h low new : ℕ) (v : Write) (vs : List Write) (p : Bool) → RiseWithin 0 low (v ∷ vs) → low < new → (p || nat_le h (length (revisions (v ∷ vs)))) ≡ true → Contains (last_n h (cond p [] (revisions (v ∷ vs)) ++ new ∷ [])) v.revision → ⊥
goes h low new v vs p rise above full m = by p full m
  where
    below : v.revision < new
    below = omega (arith, rise_bounds v.revision low vs rise.1)

    later : Contains (revisions vs) v.revision → ⊥
    later n = let x = Contains-from_map (λ (z : Write). z.revision) vs v.revision n in omega (arith, x.2, (rise_members v.revision low vs x.0 rise.1 x.1).0)

    by : (p : Bool) → (p || nat_le h (length (revisions (v ∷ vs)))) ≡ true → Contains (last_n h (cond p [] (revisions (v ∷ vs)) ++ new ∷ [])) v.revision → ⊥
    by true full m =
        let n : Contains (new ∷ []) v.revision = Contains-drop (length (new ∷ []) - h) (new ∷ []) v.revision m in
        ⊎_elim (λ k. Contains-none v.revision k) (λ e. omega (arith, below, e)) (Contains-push_cases [] new v.revision n)
    by false full m =
        let all = revisions vs ++ new ∷ [] in
        let fewer : h ≤ length all = omega (arith, leb-true h (length (revisions (v ∷ vs))) full, length-append (revisions vs) (new ∷ [])) in
        let n : Contains (last_n h all) v.revision = subst (λ (rs : List ℕ). Contains rs v.revision) (last_n-more h v.revision all fewer) m in
        ⊎_elim later (λ e. omega (arith, below, e)) (Contains-push_cases (revisions vs) new v.revision (Contains-drop (length all - h) all v.revision n))

-- where one more write loses something, some write at or below the floor is not kept behind it
pub lost_by : (h floor low : ℕ) (before : List Write) (w : Write) (ks : List ℕ) → 0 < h → RiseWithin 0 low before → low < w.revision → ks ≡ revisions (kept_among h w.key before) → loses h floor w.op ks ≡ true
    → (x : Write) × Contains (before ++ w ∷ []) x × (x.revision ≤ floor) × (is_kept_among h (before ++ w ∷ []) x ≡ false)
lost_by h floor low before w ks some rise above are lost = by (kept_among h w.key before) refl (ap (loses h floor w.op) (sym are) ∙ lost)
  where
    by : (vs : List Write) → kept_among h w.key before ≡ vs → loses h floor w.op (revisions vs) ≡ true
        → (x : Write) × Contains (before ++ w ∷ []) x × (x.revision ≤ floor) × (is_kept_among h (before ++ w ∷ []) x ≡ false)
    by [] e t = absurd cc
    by (v ∷ vs) e t =
        let parts = and_parts (nat_le v.revision floor) (is_purge w.op || nat_le h (length (revisions (v ∷ vs)))) t in
        let old = among_kept h w.key before v (subst (λ (us : List Write). Contains us v) (sym e) (Contains-here v vs)) in
        let rises : RiseWithin 0 low (v ∷ vs) = subst (RiseWithin 0 low) e (rise_kept h w.key 0 low before rise) in
        let now = last_n h (cond (is_purge w.op) [] (revisions (v ∷ vs)) ++ w.revision ∷ []) in
        let is : revisions (kept_among h v.key (before ++ w ∷ [])) ≡ now =
        ap (λ (key : List ℕ). revisions (kept_among h key (before ++ w ∷ []))) old.1
        ∙ kept_revisions-same h w.key before w some ((bytes_eq-Decides w.key w.key).1 refl)
        ∙ ap (λ (us : List Write). last_n h (cond (is_purge w.op) [] (revisions us) ++ w.revision ∷ [])) e in (
          v,
          Contains-append_left before (w ∷ []) v old.0,
          leb-true v.revision floor parts.0,
          false_from_ne_true (is_kept_among h (before ++ w ∷ []) v) (λ k. goes h low w.revision v vs (is_purge w.op) rises above parts.1 (where_kept h (before ++ w ∷ []) v now is k)),
        )
