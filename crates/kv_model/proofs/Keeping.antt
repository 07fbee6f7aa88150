-- What is kept of a key: an end of its writes, and the retained writes of that key.
use Rattle.std.proofs.Common.{◌≡◌, ℕ, ◌+◌, ◌-◌, ◌<◌, Bool, true, false, cond, ◌&&◌, ◌||◌, ◌==◌, not, List, [], ◌∷◌, ◌++◌, None, length, drop, take, filter, refl, sym, subst, ap, ◌∙◌, arith, append_assoc, append-nil, length-append, length-drop}
use Rattle.std.specs.List.{Contains, list_any, last_or}
use Rattle.std.specs.Option.{option_map_or}
use Rattle.std.specs.Str.{bytes_eq}
use Rattle.std.proofs.lemmas.Slice.Eq.{bytes_eq-Decides}
use Rattle.std.proofs.lemmas.List.{drop_all, drop-append-le, drop-drop, drop-map, length-map, map-append, take-append-drop}
use Rattle.std.proofs.lemmas.List.Elements.{filter-append, filter_agree}
use Rattle.std.proofs.lemmas.List.Filters.{length-filter_both}
use Rattle.kv_model.specs.Acts.{Act, Wrote, Seal, Compact, Write, is_purge, writes_of}
use Rattle.kv_model.specs.Retained.{is_cleared, writes_after, writes_from, writes_of_key, since_purge, last_n, kept, revisions, is_kept, is_latest, retained, latest}
use Rattle.kv_model.proofs.Members.{Contains-map, any_from_Contains, Contains-from_any, filter_all, filter_none, filter-filter}
use Rattle.kv_model.proofs.Numbered.{CountsFrom, CountsFrom-left, rises_counted, writes_of-wrote, writes_of-seal}
use Rattle.kv_model.proofs.Rising.{Rises, Rises-apart}

-- ---- one more write

any_push : (ws : List Write) (w : Write) → list_any (λ v. is_purge v.op) (ws ++ w ∷ []) ≡ (list_any (λ v. is_purge v.op) ws || is_purge w.op)
any_push [] w = elim (is_purge w.op) as (λ b. (b || false) ≡ b) [ true ↦ refl | false ↦ refl ]
any_push (v ∷ ws) w = elim (is_purge v.op) as (λ b. (b || list_any (λ v. is_purge v.op) (ws ++ w ∷ [])) ≡ ((b || list_any (λ v. is_purge v.op) ws) || is_purge w.op)) [ true ↦ refl | false ↦ any_push ws w ]

-- a purge is the first write from the last purge on
pub since_purge-push : (ws : List Write) (w : Write) → since_purge (ws ++ w ∷ []) ≡ (cond (is_purge w.op) [] (since_purge ws)) ++ w ∷ []
since_purge-push [] w = elim (is_purge w.op) as (λ b. w ∷ [] ≡ cond b [] [] ++ w ∷ []) [ true ↦ refl | false ↦ refl ]
since_purge-push (v ∷ ws) w = grind (arith, any_push ws w, since_purge-push ws w)

pub last_n-push : {X : Type 0} (n : ℕ) (xs : List X) (x : X) → 0 < n → last_n n (xs ++ x ∷ []) ≡ last_n n (last_n n xs ++ x ∷ [])
last_n-push n xs x h =
    let k = length xs - n in
    let seam : last_n n xs ++ x ∷ [] ≡ drop k (xs ++ x ∷ []) = sym (drop-append-le k xs (x ∷ []) (omega arith)) in
    let count : k + (length (drop k (xs ++ x ∷ [])) - n) ≡ length (xs ++ x ∷ []) - n = omega (arith, length-drop k (xs ++ x ∷ []), length-append xs (x ∷ [])) in
    sym (ap (last_n n) seam ∙ drop-drop (length (drop k (xs ++ x ∷ [])) - n) k (xs ++ x ∷ []) ∙ ap (λ m. drop m (xs ++ x ∷ [])) count)

pub revisions-last_n : (n : ℕ) (ws : List Write) → revisions (last_n n ws) ≡ last_n n (revisions ws)
revisions-last_n n ws = sym (ap (λ m. drop (m - n) (revisions ws)) (length-map ws (λ w. w.revision)) ∙ drop-map (λ w. w.revision) (length ws - n) ws)

pub writes_from-push : (key : List ℕ) (ws : List Write) (acts : List Act) (act : Act) → writes_from key ws (acts ++ act ∷ []) ≡ writes_after key (writes_from key ws acts) act
writes_from-push key ws [] act = refl
writes_from-push key ws (first ∷ acts) act = writes_from-push key (writes_after key ws first) acts act

pub writes_of_key-push : (key : List ℕ) (acts : List Act) (act : Act) → writes_of_key key (acts ++ act ∷ []) ≡ writes_after key (writes_of_key key acts) act
writes_of_key-push key acts act = writes_from-push key [] acts act

pub writes_of_key-wrote : (key : List ℕ) (acts : List Act) (w : Write) → writes_of_key key (acts ++ Wrote w ∷ []) ≡ writes_of_key key acts ++ cond (bytes_eq w.key key) (w ∷ []) []
writes_of_key-wrote key acts w = writes_of_key-push key acts (Wrote w) ∙ by_test (bytes_eq w.key key)
  where
    by_test : (b : Bool) → cond b (writes_of_key key acts ++ w ∷ []) (writes_of_key key acts) ≡ writes_of_key key acts ++ cond b (w ∷ []) []
    by_test true = refl
    by_test false = sym (append-nil (writes_of_key key acts))

-- of other keys the same writes are kept
pub kept_other : (h : ℕ) (key : List ℕ) (acts : List Act) (w : Write) → bytes_eq w.key key ≡ false → kept h key (acts ++ Wrote w ∷ []) ≡ kept h key acts
kept_other h key acts w e = ap (λ vs. last_n h (since_purge vs)) (writes_of_key-wrote key acts w ∙ ap (λ b. writes_of_key key acts ++ cond b (w ∷ []) []) e ∙ append-nil (writes_of_key key acts))

-- of its own key it is kept behind the others, where it is no purge, and of all these the last h
pub kept_same : (h : ℕ) (key : List ℕ) (acts : List Act) (w : Write) → 0 < h → bytes_eq w.key key ≡ true → kept h key (acts ++ Wrote w ∷ []) ≡ last_n h (cond (is_purge w.op) [] (kept h key acts) ++ w ∷ [])
kept_same h key acts w some e =
    let of = writes_of_key key acts in
    ap (λ vs. last_n h (since_purge vs)) (writes_of_key-wrote key acts w ∙ ap (λ b. of ++ cond b (w ∷ []) []) e)
    ∙ ap (last_n h) (since_purge-push of w)
    ∙ by_purge (is_purge w.op)
  where
    by_purge : (b : Bool) → last_n h (cond b [] (since_purge (writes_of_key key acts)) ++ w ∷ []) ≡ last_n h (cond b [] (kept h key acts) ++ w ∷ [])
    by_purge true = refl
    by_purge false = last_n-push h (since_purge (writes_of_key key acts)) w some

-- the same of the kept revisions
pub kept_revisions_same : (h : ℕ) (key : List ℕ) (acts : List Act) (w : Write) → 0 < h → bytes_eq w.key key ≡ true → revisions (kept h key (acts ++ Wrote w ∷ [])) ≡ last_n h (cond (is_purge w.op) [] (revisions (kept h key acts)) ++ w.revision ∷ [])
kept_revisions_same h key acts w some e =
    ap revisions (kept_same h key acts w some e)
    ∙ revisions-last_n h (cond (is_purge w.op) [] (kept h key acts) ++ w ∷ [])
    ∙ ap (last_n h) (map-append (λ v. v.revision) (cond (is_purge w.op) [] (kept h key acts)) (w ∷ []) ∙ by_purge (is_purge w.op))
  where
    by_purge : (b : Bool) → revisions (cond b [] (kept h key acts)) ++ w.revision ∷ [] ≡ cond b [] (revisions (kept h key acts)) ++ w.revision ∷ []
    by_purge true = refl
    by_purge false = refl

-- ---- a seal

pub kept_seal : (h : ℕ) (key : List ℕ) (acts : List Act) → kept h key (acts ++ Seal ∷ []) ≡ kept h key acts
kept_seal h key acts = ap (λ ws. last_n h (since_purge ws)) (writes_of_key-push key acts Seal)

pub retained_seal : (h : ℕ) (acts : List Act) → retained h (acts ++ Seal ∷ []) ≡ retained h acts
retained_seal h acts =
    ap (filter (is_kept h (acts ++ Seal ∷ []))) (writes_of-seal acts)
    ∙ filter_agree (is_kept h (acts ++ Seal ∷ [])) (is_kept h acts) (λ w. ap (λ ws. list_any (λ r. r == w.revision) (revisions ws)) (kept_seal h w.key acts)) (writes_of acts)

pub latest_seal : (acts : List Act) → latest (acts ++ Seal ∷ []) ≡ latest acts
latest_seal acts =
    ap (filter (is_latest (acts ++ Seal ∷ []))) (writes_of-seal acts)
    ∙ filter_agree (is_latest (acts ++ Seal ∷ [])) (is_latest acts) (λ w. ap (λ ws. option_map_or (λ v. v.revision == w.revision) (last_or None ws) false) (writes_of_key-push w.key acts Seal)) (writes_of acts)

-- ---- a compaction

-- it leaves the writes of a key that it doesn't clear, and none of one that it clears
pub writes_of_key-spared : (key : List ℕ) (acts : List Act) (floor : ℕ) → is_cleared floor (writes_of_key key acts) ≡ false → writes_of_key key (acts ++ Compact floor ∷ []) ≡ writes_of_key key acts
writes_of_key-spared key acts floor spared = writes_of_key-push key acts (Compact floor) ∙ ap (λ b. cond b [] (writes_of_key key acts)) spared

pub writes_of_key-cleared : (key : List ℕ) (acts : List Act) (floor : ℕ) → is_cleared floor (writes_of_key key acts) ≡ true → writes_of_key key (acts ++ Compact floor ∷ []) ≡ []
writes_of_key-cleared key acts floor clears = writes_of_key-push key acts (Compact floor) ∙ ap (λ b. cond b [] (writes_of_key key acts)) clears

pub kept_spared : (h : ℕ) (key : List ℕ) (acts : List Act) (floor : ℕ) → is_cleared floor (writes_of_key key acts) ≡ false → kept h key (acts ++ Compact floor ∷ []) ≡ kept h key acts
kept_spared h key acts floor spared = ap (λ ws. last_n h (since_purge ws)) (writes_of_key-spared key acts floor spared)

none_kept : (h : ℕ) → last_n {X = Write} h [] ≡ []
none_kept h = drop_all (0 - h) [] (omega arith)

pub kept_cleared : (h : ℕ) (key : List ℕ) (acts : List Act) (floor : ℕ) → is_cleared floor (writes_of_key key acts) ≡ true → kept h key (acts ++ Compact floor ∷ []) ≡ []
kept_cleared h key acts floor clears = ap (λ ws. last_n h (since_purge ws)) (writes_of_key-cleared key acts floor clears) ∙ none_kept h

-- ---- an end of the writes of the key

since_purge_is_end : (ws : List Write) → (front : List Write) × (front ++ since_purge ws ≡ ws)
since_purge_is_end [] = ([], refl)
since_purge_is_end (w ∷ ws) = by_test (list_any (λ v. is_purge v.op) ws) (since_purge_is_end ws)
  where
    by_test : (b : Bool) → (front : List Write) × (front ++ since_purge ws ≡ ws) → (front : List Write) × (front ++ cond b (since_purge ws) (w ∷ ws) ≡ w ∷ ws)
    by_test true rest = (w ∷ rest.0, ap (λ vs. w ∷ vs) rest.1)
    by_test false rest = ([], refl)

pub kept_is_end : (h : ℕ) (key : List ℕ) (acts : List Act) → (front : List Write) × (front ++ kept h key acts ≡ writes_of_key key acts)
kept_is_end h key acts =
    let since = since_purge (writes_of_key key acts) in
    let first = since_purge_is_end (writes_of_key key acts) in
    let k = length since - h in
    (first.0 ++ take k since, append_assoc first.0 (take k since) (drop k since) ∙ ap (λ vs. first.0 ++ vs) (take-append-drop k since) ∙ first.1)

-- the writes of a key since it was cleared are an end of all its writes
writes_from_is_end : (key : List ℕ) (ws : List Write) (acts : List Act) → (front : List Write) × (front ++ writes_from key ws acts ≡ ws ++ filter (λ w. bytes_eq w.key key) (writes_of acts))
writes_from_is_end key ws [] = ([], sym (append-nil ws))
writes_from_is_end key ws (Wrote w ∷ acts) = by_test (λ vs. writes_from_is_end key vs acts) (bytes_eq w.key key)
  where
    by_test : ((vs : List Write) → (front : List Write) × (front ++ writes_from key vs acts ≡ vs ++ filter (λ v. bytes_eq v.key key) (writes_of acts))) → (b : Bool) →
        (front : List Write) × (front ++ writes_from key (cond b (ws ++ w ∷ []) ws) acts ≡ ws ++ cond b (w ∷ filter (λ v. bytes_eq v.key key) (writes_of acts)) (filter (λ v. bytes_eq v.key key) (writes_of acts)))
    by_test rest true =
        let behind = rest (ws ++ w ∷ []) in
        (behind.0, behind.1 ∙ append_assoc ws (w ∷ []) (filter (λ v. bytes_eq v.key key) (writes_of acts)))
    by_test rest false = rest ws
writes_from_is_end key ws (Seal ∷ acts) = writes_from_is_end key ws acts
writes_from_is_end key ws (Compact floor ∷ acts) = by_test (λ vs. writes_from_is_end key vs acts) (is_cleared floor ws)
  where
    by_test : ((vs : List Write) → (front : List Write) × (front ++ writes_from key vs acts ≡ vs ++ filter (λ v. bytes_eq v.key key) (writes_of acts))) → (b : Bool) →
        (front : List Write) × (front ++ writes_from key (cond b [] ws) acts ≡ ws ++ filter (λ v. bytes_eq v.key key) (writes_of acts))
    by_test rest true =
        let behind = rest [] in
        (ws ++ behind.0, append_assoc ws behind.0 (writes_from key [] acts) ∙ ap (λ vs. ws ++ vs) behind.1)
    by_test rest false = rest ws

-- the kept writes of a key are an end of all its writes, also of those before it was cleared
pub kept_ends : (h : ℕ) (key : List ℕ) (acts : List Act) → (front : List Write) × (front ++ kept h key acts ≡ filter (λ w. bytes_eq w.key key) (writes_of acts))
kept_ends h key acts =
    let all = writes_from_is_end key [] acts in
    let since = kept_is_end h key acts in
    (all.0 ++ since.0, append_assoc all.0 since.0 (kept h key acts) ∙ ap (λ vs. all.0 ++ vs) since.1 ∙ all.1)

-- of writes whose revisions rise those pass whose revisions stand at the end
end_passes : (low high : ℕ) (xs ys : List Write) → Rises low high (revisions (xs ++ ys)) → filter (λ w. list_any (λ r. r == w.revision) (revisions ys)) (xs ++ ys) ≡ ys
end_passes low high xs ys h =
    let among : Write → Bool = λ w. list_any (λ r. r == w.revision) (revisions ys) in
    let apart = rw (map-append (λ (w : Write). w.revision) xs ys) at h in
    let inside : filter among ys ≡ ys = filter_all among ys (λ w m. any_from_Contains w.revision (revisions ys) (Contains-map (λ v. v.revision) ys w m)) in
    let outside : filter among xs ≡ [] = filter_none among xs (λ w m. by_test w (Contains-map (λ v. v.revision) xs w m) apart (among w) refl) in
    filter-append among xs ys ∙ ap (λ vs. vs ++ filter among ys) outside ∙ inside
  where
    by_test : (w : Write) → Contains (revisions xs) w.revision → Rises low high (revisions xs ++ revisions ys) → (b : Bool) → list_any (λ r. r == w.revision) (revisions ys) ≡ b → b ≡ false
    by_test w m apart true t =
        let same = Contains-from_any w.revision (revisions ys) t in
        absurd (omega (arith, Rises-apart low high (revisions xs) (revisions ys) w.revision w.revision apart m same))
    by_test w m apart false t = refl

-- the retained writes of a key are those that are kept of it
pub retained_of_key : (h : ℕ) (key : List ℕ) (acts : List Act) → CountsFrom 1 (writes_of acts) → filter (λ w. bytes_eq w.key key) (retained h acts) ≡ kept h key acts
retained_of_key h key acts counts =
    let ws = writes_of acts in
    let of : Write → Bool = λ w. bytes_eq w.key key in
    let among : Write → Bool = λ w. list_any (λ r. r == w.revision) (revisions (kept h key acts)) in
    let end = kept_ends h key acts in
    let rises : Rises 1 (1 + length ws) (revisions (end.0 ++ kept h key acts)) = rw end.1 (rises_counted of 1 ws counts) in
    filter-filter of (is_kept h acts) ws
    ∙ filter_agree (λ w. is_kept h acts w && of w) (λ w. of w && among w) (λ w. agree w (of w) refl) ws
    ∙ sym (filter-filter among of ws)
    ∙ ap (filter among) (sym end.1)
    ∙ end_passes 1 (1 + length ws) end.0 (kept h key acts) rises
  where
    agree : (w : Write) (b : Bool) → bytes_eq w.key key ≡ b → (is_kept h acts w && b) ≡ (b && list_any (λ r. r == w.revision) (revisions (kept h key acts)))
    agree w true t =
        let same : w.key ≡ key = (bytes_eq-Decides w.key key).0 t in
        ap (λ k. list_any (λ r. r == w.revision) (revisions (kept h k acts)) && true) same ∙ elim (list_any (λ r. r == w.revision) (revisions (kept h key acts))) as (λ c. (c && true) ≡ c) [ true ↦ refl | false ↦ refl ]
    agree w false t = elim (is_kept h acts w) as (λ c. (c && false) ≡ false) [ true ↦ refl | false ↦ refl ]

-- ---- how many are retained

bytes_eq-flip : (a b : List ℕ) → bytes_eq a b ≡ false → bytes_eq b a ≡ false
bytes_eq-flip a b f = by_test (bytes_eq b a) refl
  where
    by_test : (c : Bool) → bytes_eq b a ≡ c → c ≡ false
    by_test true t = let clash : bytes_eq a b ≡ true = (bytes_eq-Decides a b).1 (sym ((bytes_eq-Decides b a).0 t)) in cc
    by_test false t = refl

-- of other keys the same writes are retained
retained_others : (h : ℕ) (acts : List Act) (w : Write) → filter (λ v. not (bytes_eq v.key w.key)) (retained h (acts ++ Wrote w ∷ [])) ≡ filter (λ v. not (bytes_eq v.key w.key)) (retained h acts)
retained_others h acts w =
    let other : Write → Bool = λ v. not (bytes_eq v.key w.key) in
    let ws = writes_of acts in
    let after = acts ++ Wrote w ∷ [] in
    let itself : bytes_eq w.key w.key ≡ true = (bytes_eq-Decides w.key w.key).1 refl in
    filter-filter other (is_kept h after) (writes_of after)
    ∙ filter_agree (λ v. is_kept h after v && other v) (λ v. is_kept h acts v && other v) (λ v. agree v (bytes_eq v.key w.key) refl) (writes_of after)
    ∙ ap (filter (λ v. is_kept h acts v && other v)) (writes_of-wrote acts w)
    ∙ filter-append (λ v. is_kept h acts v && other v) ws (w ∷ [])
    ∙ ap (λ vs. filter (λ v. is_kept h acts v && other v) ws ++ vs) (alone (is_kept h acts w) (bytes_eq w.key w.key) itself)
    ∙ append-nil (filter (λ v. is_kept h acts v && other v) ws)
    ∙ sym (filter-filter other (is_kept h acts) ws)
  where
    agree : (v : Write) (b : Bool) → bytes_eq v.key w.key ≡ b → (is_kept h (acts ++ Wrote w ∷ []) v && not b) ≡ (is_kept h acts v && not b)
    agree v true t =
        elim (is_kept h (acts ++ Wrote w ∷ []) v) as (λ c. (c && false) ≡ (is_kept h acts v && false)) [
          | true ↦ elim (is_kept h acts v) as (λ c. false ≡ (c && false)) [ true ↦ refl | false ↦ refl ]
          | false ↦ elim (is_kept h acts v) as (λ c. false ≡ (c && false)) [ true ↦ refl | false ↦ refl ]
        ]
    agree v false t = ap (λ vs. list_any (λ r. r == v.revision) (revisions vs) && true) (kept_other h v.key acts w (bytes_eq-flip v.key w.key t))

    alone : (c b : Bool) → b ≡ true → cond (c && not b) (w ∷ []) [] ≡ []
    alone true b t = rw t refl
    alone false b t = refl

-- how many are retained changes as how many are kept of the key that is written
pub retained_count : (h : ℕ) (acts : List Act) (w : Write) → CountsFrom 1 (writes_of (acts ++ Wrote w ∷ [])) → length (retained h (acts ++ Wrote w ∷ [])) + length (kept h w.key acts) ≡ length (retained h acts) + length (kept h w.key (acts ++ Wrote w ∷ []))
retained_count h acts w counts =
    let of : Write → Bool = λ v. bytes_eq v.key w.key in
    let other : Write → Bool = λ v. not (bytes_eq v.key w.key) in
    let after = acts ++ Wrote w ∷ [] in
    let before : CountsFrom 1 (writes_of acts) = CountsFrom-left 1 (writes_of acts) (w ∷ []) (subst (CountsFrom 1) (writes_of-wrote acts w) counts) in
    omega (
      arith,
      length-filter_both of other (λ v. refl) (retained h after),
      length-filter_both of other (λ v. refl) (retained h acts),
      ap length (retained_of_key h w.key after counts),
      ap length (retained_of_key h w.key acts before),
      ap length (retained_others h acts w),
    )
