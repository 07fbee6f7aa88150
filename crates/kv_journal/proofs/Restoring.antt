-- What is kept of a key, by what is stored of it.
use Rattle.std.proofs.Common.{◌≡◌, ℕ, ◌+◌, ◌-◌, ◌<◌, ◌≤◌, Bool, true, false, cond, ◌&&◌, ◌==◌, not, List, [], ◌∷◌, ◌++◌, Option, Some, None, ⊎_elim, length, filter, refl, sym, subst, ap, ◌∙◌, arith, append_assoc, append-nil, length-append}
use Rattle.std.specs.Prelude.{nat_le}
use Rattle.std.specs.List.{Contains, last_or, list_any}
use Rattle.std.specs.Option.{option_map_or}
use Rattle.std.specs.Str.{bytes_eq}
use Rattle.std.specs.Cmp.Lexicographic.{same_text}
use Rattle.std.proofs.lemmas.Bool.{and_parts, leb-true, le-leb}
use Rattle.std.proofs.lemmas.List.{drop_all}
use Rattle.std.proofs.lemmas.List.Elements.{Contains-append_cases, Contains-append_right, filter-append, filter_agree}
use Rattle.kv_model.specs.Acceptance.{IsAccepted, IsLawful, LawfulFrom}
use Rattle.kv_model.specs.Acts.{Act, Wrote, Seal, Compact, Write, is_purge, is_put, writes_of}
use Rattle.kv_model.specs.Compaction.{stored_writes}
use Rattle.kv_model.specs.Configuration.{Configuration}
use Rattle.kv_model.specs.Retained.{is_cleared, is_kept, kept, last_n, last_write, revisions, since_purge, writes_of_key}
use Rattle.kv_model.specs.further.OneByOne.{removes}
use Rattle.kv_model.proofs.Keeping.{kept_cleared, kept_other, kept_same, kept_seal, kept_spared, last_n-push, since_purge-push, writes_of_key-push, writes_of_key-spared, writes_of_key-wrote}
use Rattle.kv_model.proofs.Members.{Contains-from_filter, Contains-map, Contains-none, Contains-cases, any_from_Contains, filter-filter, filter_all, filter_none}
use Rattle.kv_model.proofs.Numbered.{writes_of-wrote, writes_of-seal, writes_of-compact}
use Rattle.kv_model.proofs.Storing.{next_revision, stored-push}
use Rattle.kv_store.proofs.Standings.{last_or-push, lawful-push}
use Rattle.kv_journal.proofs.Ends.{end_stays, kept_is_an_end}

-- the stored writes of a key
abbrev of_key : ℕ → List ℕ → List Act → List Write
of_key h key acts = filter (λ w. bytes_eq w.key key) (stored_writes h acts)

-- a stored write of the key is no later than the key's last write
abbrev IsNoLater : List ℕ → List Act → Write → Type 0
IsNoLater key acts w = (v : Write) × (last_write key acts ≡ Some v) × (w.revision ≤ v.revision)

record Restores (h : ℕ) (key : List ℕ) (acts : List Act) : Type 0 where
  same : kept h key acts ≡ last_n h (since_purge (of_key h key acts))
  late : (w : Write) → Contains (of_key h key acts) w → IsNoLater key acts w
  within : (w : Write) → Contains (of_key h key acts) w → w.revision ≤ length (writes_of acts)

one_write : (h : ℕ) (key : List ℕ) (acts : List Act) (w : Write) (b : Bool) → bytes_eq w.key key ≡ b → stored_writes h (acts ++ Wrote w ∷ []) ≡ stored_writes h acts ++ w ∷ [] → of_key h key (acts ++ Wrote w ∷ []) ≡ of_key h key acts ++ cond b (w ∷ []) []
one_write h key acts w b e stored =
    ap (λ (ws : List Write). filter (λ v. bytes_eq v.key key) ws) stored ∙ filter-append (λ v. bytes_eq v.key key) (stored_writes h acts) (w ∷ [])
    ∙ ap (λ (c : Bool). of_key h key acts ++ cond c (w ∷ []) []) e

restores_write : (config : Configuration) (h : ℕ) (key : List ℕ) (acts : List Act) (w : Write) → 0 < h → IsLawful config acts → IsAccepted config acts (Wrote w) → Restores h key acts → Restores h key (acts ++ Wrote w ∷ [])
restores_write config h key acts w some lawful accepted r = by (bytes_eq w.key key) refl
  where
    stored : stored_writes h (acts ++ Wrote w ∷ []) ≡ stored_writes h acts ++ w ∷ []
    stored = stored-push config h acts (Wrote w) lawful accepted

    count : length (writes_of (acts ++ Wrote w ∷ [])) ≡ length (writes_of acts) + 1
    count = omega (arith, ap (λ (ws : List Write). length ws) (writes_of-wrote acts w), length-append (writes_of acts) (w ∷ []))

    purged : (b : Bool) → last_n h (cond b [] (last_n h (since_purge (of_key h key acts))) ++ w ∷ []) ≡ last_n h (cond b [] (since_purge (of_key h key acts)) ++ w ∷ [])
    purged true = refl
    purged false = sym (last_n-push h (since_purge (of_key h key acts)) w some)

    by : (b : Bool) → bytes_eq w.key key ≡ b → Restores h key (acts ++ Wrote w ∷ [])
    by true e =
        let s = one_write h key acts w true e stored in
        record {
          same = kept_same h key acts w some e ∙ ap (λ (ws : List Write). last_n h (cond (is_purge w.op) [] ws ++ w ∷ [])) r.same ∙ purged (is_purge w.op)
              ∙ sym (ap (λ (ws : List Write). last_n h (since_purge ws)) s ∙ ap (last_n h) (since_purge-push (of_key h key acts) w));
          late = λ v m.
              let last : last_write key (acts ++ Wrote w ∷ []) ≡ Some w =
              ap (λ (ws : List Write). last_or None ws) (writes_of_key-wrote key acts w ∙ ap (λ (b : Bool). writes_of_key key acts ++ cond b (w ∷ []) []) e) ∙ last_or-push (writes_of_key key acts) w None in
              ⊎_elim
              (λ n. (w, last, omega (arith, r.within v n, next_revision config acts w accepted)))
              (λ n. (w, last, ⊎_elim (λ q. let d : w.revision ≡ v.revision = ap (λ (x : Write). x.revision) q in omega (arith, d)) (λ q. absurd (Contains-none v q)) (Contains-cases w [] v n)))
              (Contains-append_cases (of_key h key acts) (w ∷ []) v (subst (λ (ws : List Write). Contains ws v) s m));
          within = λ v m.
              ⊎_elim
              (λ n. omega (arith, r.within v n, count))
              (λ n. ⊎_elim (λ q. let d : w.revision ≡ v.revision = ap (λ (x : Write). x.revision) q in omega (arith, d, next_revision config acts w accepted, count)) (λ q. absurd (Contains-none v q)) (Contains-cases w [] v n))
              (Contains-append_cases (of_key h key acts) (w ∷ []) v (subst (λ (ws : List Write). Contains ws v) s m));
        }
    by false e =
        let s = one_write h key acts w false e stored ∙ append-nil (of_key h key acts) in
        record {
          same = kept_other h key acts w e ∙ r.same ∙ ap (λ (ws : List Write). last_n h (since_purge ws)) (sym s);
          late = λ v m.
              let old = r.late v (subst (λ (ws : List Write). Contains ws v) s m) in
              let last : last_write key (acts ++ Wrote w ∷ []) ≡ last_write key acts =
              ap (λ (ws : List Write). last_or None ws) (writes_of_key-wrote key acts w ∙ ap (λ (b : Bool). writes_of_key key acts ++ cond b (w ∷ []) []) e ∙ append-nil (writes_of_key key acts)) in
              (old.0, last ∙ old.1, old.2);
          within = λ v m. omega (arith, r.within v (subst (λ (ws : List Write). Contains ws v) s m), count);
        }

restores_seal : (config : Configuration) (h : ℕ) (key : List ℕ) (acts : List Act) → IsLawful config acts → Restores h key acts → Restores h key (acts ++ Seal ∷ [])
restores_seal config h key acts lawful r =
    let s : of_key h key (acts ++ Seal ∷ []) ≡ of_key h key acts = ap (λ (ws : List Write). filter (λ v. bytes_eq v.key key) ws) (stored-push config h acts Seal lawful tt) in
    let last : last_write key (acts ++ Seal ∷ []) ≡ last_write key acts = ap (λ (ws : List Write). last_or None ws) (writes_of_key-push key acts Seal) in
    record {
      same = kept_seal h key acts ∙ r.same ∙ ap (λ (ws : List Write). last_n h (since_purge ws)) (sym s);
      late = λ v m. let old = r.late v (subst (λ (ws : List Write). Contains ws v) s m) in (old.0, last ∙ old.1, old.2);
      within = λ v m. omega (arith, r.within v (subst (λ (ws : List Write). Contains ws v) s m), ap (λ (ws : List Write). length ws) (writes_of-seal acts));
    }

-- a key that is cleared has a last write at or below the floor
cleared_at : (floor : ℕ) (o : Option Write) (v : Write) → o ≡ Some v → option_map_or (λ w. not (is_put w.op) && nat_le w.revision floor) o false ≡ true → v.revision ≤ floor
cleared_at floor o v e h =
    let at : (not (is_put v.op) && nat_le v.revision floor) ≡ true = subst (λ (x : Option Write). option_map_or (λ w. not (is_put w.op) && nat_le w.revision floor) x false ≡ true) e h in
    leb-true v.revision floor (and_parts (not (is_put v.op)) (nat_le v.revision floor) at).1

restores_compact : (config : Configuration) (h : ℕ) (key : List ℕ) (acts : List Act) (floor : ℕ) → IsLawful config acts → IsAccepted config acts (Compact floor) → Restores h key acts → Restores h key (acts ++ Compact floor ∷ [])
restores_compact config h key acts floor lawful accepted r = by (is_cleared floor (writes_of_key key acts)) refl
  where
    more : List Act
    more = acts ++ Compact floor ∷ []

    stays : Write → Bool
    stays w = not (removes floor h acts w)

    s : of_key h key (acts ++ Compact floor ∷ []) ≡ filter (λ w. not (removes floor h acts w)) (of_key h key acts)
    s = ap (λ (ws : List Write). filter (λ v. bytes_eq v.key key) ws) (stored-push config h acts (Compact floor) lawful accepted)
        ∙ filter-filter (λ v. bytes_eq v.key key) (λ w. not (removes floor h acts w)) (stored_writes h acts)
        ∙ filter_agree (λ w. not (removes floor h acts w) && bytes_eq w.key key) (λ w. bytes_eq w.key key && not (removes floor h acts w)) (λ w. and_turned (not (removes floor h acts w)) (bytes_eq w.key key)) (stored_writes h acts)
        ∙ sym (filter-filter (λ w. not (removes floor h acts w)) (λ v. bytes_eq v.key key) (stored_writes h acts))
      where
        and_turned : (a b : Bool) → (a && b) ≡ (b && a)
        and_turned true true = refl
        and_turned true false = refl
        and_turned false true = refl
        and_turned false false = refl

    -- which are of the key
    is_of_key : (w : Write) → Contains (of_key h key acts) w → w.key ≡ key
    is_of_key w m = same_text w.key key (sym (Contains-from_filter (λ v. bytes_eq v.key key) (stored_writes h acts) w m).1)

    among : (w : Write) → Contains (of_key h key (acts ++ Compact floor ∷ [])) w → Contains (of_key h key acts) w
    among w m = (Contains-from_filter (λ w. not (removes floor h acts w)) (of_key h key acts) w (subst (λ (ws : List Write). Contains ws w) s m)).0

    count : length (writes_of (acts ++ Compact floor ∷ [])) ≡ length (writes_of acts)
    count = ap (λ (ws : List Write). length ws) (writes_of-compact acts floor)

    removed : (a b : Bool) → a ≡ true → b ≡ false → not (a && not b) ≡ false
    removed a b p q = rw (p, q) refl

    spared : (a b : Bool) → b ≡ true → not (a && not b) ≡ true
    spared true b q = rw q refl
    spared false b q = refl

    by : (b : Bool) → is_cleared floor (writes_of_key key acts) ≡ b → Restores h key (acts ++ Compact floor ∷ [])
    by true e =
        let gone : (w : Write) → Contains (of_key h key acts) w → not (removes floor h acts w) ≡ false = λ w m.
        let old = r.late w m in
        let low : w.revision ≤ floor = omega (arith, old.2, cleared_at floor (last_write key acts) old.0 old.1 e) in
        let none : is_kept h (acts ++ Compact floor ∷ []) w ≡ false =
        ap (λ (k : List ℕ). list_any (λ r. r == w.revision) (revisions (kept h k (acts ++ Compact floor ∷ [])))) (is_of_key w m)
        ∙ ap (λ (ws : List Write). list_any (λ r. r == w.revision) (revisions ws)) (kept_cleared h key acts floor e) in
        removed (nat_le w.revision floor) (is_kept h (acts ++ Compact floor ∷ []) w) (le-leb w.revision floor low) none in
        let nothing : of_key h key (acts ++ Compact floor ∷ []) ≡ [] = s ∙ filter_none (λ w. not (removes floor h acts w)) (of_key h key acts) gone in
        record {
          same = kept_cleared h key acts floor e ∙ sym (ap (λ (ws : List Write). last_n h (since_purge ws)) nothing ∙ drop_all (0 - h) [] (omega arith));
          late = λ w m. absurd (Contains-none w (subst (λ (ws : List Write). Contains ws w) nothing m));
          within = λ w m. absurd (Contains-none w (subst (λ (ws : List Write). Contains ws w) nothing m));
        }
    by false e =
        let still = kept_spared h key acts floor e in
        let k = last_n h (since_purge (of_key h key acts)) in
        let end = kept_is_an_end h (of_key h key acts) in
        let f = end.0 in
        let g = filter (λ w. not (removes floor h acts w)) f in
        let stay : (w : Write) → Contains k w → not (removes floor h acts w) ≡ true = λ w m.
        let there : Contains (of_key h key acts) w = subst (λ (ws : List Write). Contains ws w) end.1 (Contains-append_right f k w m) in
        let in_kept : Contains (kept h key (acts ++ Compact floor ∷ [])) w = subst (λ (ws : List Write). Contains ws w) (sym (still ∙ r.same)) m in
        let is : is_kept h (acts ++ Compact floor ∷ []) w ≡ true =
        ap (λ (q : List ℕ). list_any (λ r. r == w.revision) (revisions (kept h q (acts ++ Compact floor ∷ [])))) (is_of_key w there)
        ∙ any_from_Contains w.revision (revisions (kept h key (acts ++ Compact floor ∷ []))) (Contains-map (λ v. v.revision) (kept h key (acts ++ Compact floor ∷ [])) w in_kept) in
        spared (nat_le w.revision floor) (is_kept h (acts ++ Compact floor ∷ []) w) is in
        let parts : of_key h key (acts ++ Compact floor ∷ []) ≡ g ++ k =
        s ∙ ap (λ (ws : List Write). filter (λ w. not (removes floor h acts w)) ws) (sym end.1) ∙ filter-append (λ w. not (removes floor h acts w)) f k
        ∙ ap (λ (ws : List Write). g ++ ws) (filter_all (λ w. not (removes floor h acts w)) k stay) in
        let before : last_n h (since_purge (f ++ k)) ≡ k = ap (λ (ws : List Write). last_n h (since_purge ws)) end.1 in
        let after : last_n h (since_purge (g ++ k)) ≡ k = end_stays h f g k before (λ none. ap (λ (ws : List Write). filter (λ w. not (removes floor h acts w)) ws) none) in
        let last : last_write key (acts ++ Compact floor ∷ []) ≡ last_write key acts = ap (λ (ws : List Write). last_or None ws) (writes_of_key-spared key acts floor e) in
        record {
          same = still ∙ r.same ∙ sym (ap (λ (ws : List Write). last_n h (since_purge ws)) parts ∙ after);
          late = λ w m. let old = r.late w (among w m) in (old.0, last ∙ old.1, old.2);
          within = λ w m. omega (arith, r.within w (among w m), count);
        }

step : (config : Configuration) (h : ℕ) (key : List ℕ) (acts : List Act) (act : Act) → 0 < h → IsLawful config acts → IsAccepted config acts act → Restores h key acts → Restores h key (acts ++ act ∷ [])
step config h key acts (Wrote w) some lawful accepted r = restores_write config h key acts w some lawful accepted r
step config h key acts Seal some lawful accepted r = restores_seal config h key acts lawful r
step config h key acts (Compact floor) some lawful accepted r = restores_compact config h key acts floor lawful accepted r

all_restore : (config : Configuration) (h : ℕ) (key : List ℕ) (before acts : List Act) → 0 < h → IsLawful config before → LawfulFrom config before acts → Restores h key before → Restores h key (before ++ acts)
all_restore config h key before [] some lawful more r = subst (Restores h key) (sym (append-nil before)) r
all_restore config h key before (act ∷ acts) some lawful more r =
    subst (Restores h key) (append_assoc before (act ∷ []) acts)
    (all_restore config h key (before ++ act ∷ []) acts some (lawful-push config before act lawful more.0) more.1 (step config h key before act some lawful more.0 r))

pub kept_of_stored : (config : Configuration) (h : ℕ) (key : List ℕ) (acts : List Act) → IsLawful config acts → 0 < h → kept h key acts ≡ last_n h (since_purge (filter (λ w. bytes_eq w.key key) (stored_writes h acts)))
kept_of_stored config h key acts lawful some =
    (all_restore config h key [] acts some tt lawful (record { same = refl; late = λ w m. absurd (Contains-none w m); within = λ w m. absurd (Contains-none w m) })).same
