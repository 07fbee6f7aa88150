-- Which acts a version stands for once one more is accepted, and what it stores of a key.
use Rattle.std.proofs.Common.{◌≡◌, ℕ, ◌+◌, ◌-◌, ◌<◌, ◌≤◌, Bool, true, false, cond, ◌==◌, List, [], ◌∷◌, ◌++◌, Option, Some, None, Result, Ok, unwrap_or, length, refl, sym, subst, ap, ◌∙◌, arith, append_assoc, append-nil, length-append, length-drop}
use Rattle.std.specs.List.{Contains, find, last_or}
use Rattle.std.specs.Str.{bytes_eq}
use Rattle.std.proofs.lemmas.Bool.{eqb-true}
use Rattle.std.proofs.lemmas.Bool.Decides.{nat_tests}
use Rattle.std.proofs.lemmas.List.{length-map}
use Rattle.std.proofs.lemmas.Slice.Eq.{bytes_eq-Decides}
use Rattle.kv_keys.specs.Grammar.{is_key}
use Rattle.kv_keys.specs.declared.error.KvError.{KvError}
use Rattle.kv_model.specs.Acceptance.{accept, next_write, IsAccepted, IsLawful, LawfulFrom}
use Rattle.kv_model.specs.Acts.{Act, Wrote, Seal, Compact, Write, is_purge, is_sealed, writes_of}
use Rattle.kv_model.specs.Compaction.{is_stored, stored_writes}
use Rattle.kv_model.specs.Configuration.{Configuration, IsLegal}
use Rattle.kv_store.specs.inside.Next.{HasOneMore, kept_after, kept_before, next_kept}
use Rattle.kv_model.specs.Reads.{unless_empty, write_at_of}
use Rattle.kv_model.specs.Requests.{Asked, key_of, op_of, value_of}
use Rattle.kv_model.specs.Retained.{kept, last_n, last_write, retained, revisions, writes_of_key}
use Rattle.kv_store.specs.Standing.{StandsFor}
use Rattle.kv_store.specs.Stored.{Stored, kept_at}
use Rattle.kv_model.specs.declared.write.Op.{Op}
use Rattle.kv_model.proofs.Found.{or_empty, unless_empty-long}
use Rattle.kv_model.proofs.Keeping.{kept_other, kept_revisions_same, kept_seal, retained_count, retained_seal, writes_of_key-push}
use Rattle.kv_model.proofs.Members.{Contains-here, Contains-map, Contains-there}
use Rattle.kv_model.proofs.Numbered.{accepted_is_next, counts_from_lawful, rises_counted, writes_of-seal, writes_of-wrote}
use Rattle.kv_model.proofs.Rising.{Rises-members}
use Rattle.kv_model.proofs.Storing.{floor_of-seal, floor_of-wrote, stored-push}

-- ---- acts

lawful_more : (config : Configuration) (before acts : List Act) (act : Act) → LawfulFrom config before acts → IsAccepted config (before ++ acts) act → LawfulFrom config before (acts ++ act ∷ [])
lawful_more config before [] act h k = (subst (λ b. IsAccepted config b act) (append-nil before) k, tt)
lawful_more config before (a ∷ acts) act h k =
    (h.0, lawful_more config (before ++ a ∷ []) acts act h.1 (subst (λ b. IsAccepted config b act) (sym (append_assoc before (a ∷ []) acts)) k))

-- one more act that is accepted leaves the acts lawful
pub lawful-push : (config : Configuration) (acts : List Act) (act : Act) → IsLawful config acts → IsAccepted config acts act → IsLawful config (acts ++ act ∷ [])
lawful-push config acts act h k = lawful_more config [] acts act h k

-- a seal seals, and a write doesn't
pub is_sealed-seal : (acts : List Act) → is_sealed (acts ++ Seal ∷ []) ≡ true
is_sealed-seal [] = refl
is_sealed-seal (Wrote w ∷ acts) = is_sealed-seal acts
is_sealed-seal (Seal ∷ acts) = refl
is_sealed-seal (Compact floor ∷ acts) = is_sealed-seal acts

pub is_sealed-wrote : (acts : List Act) (w : Write) → is_sealed (acts ++ Wrote w ∷ []) ≡ is_sealed acts
is_sealed-wrote [] w = refl
is_sealed-wrote (Wrote v ∷ acts) w = is_sealed-wrote acts w
is_sealed-wrote (Seal ∷ acts) w = refl
is_sealed-wrote (Compact floor ∷ acts) w = is_sealed-wrote acts w

pub is_sealed-compact : (acts : List Act) (floor : ℕ) → is_sealed (acts ++ Compact floor ∷ []) ≡ is_sealed acts
is_sealed-compact [] floor = refl
is_sealed-compact (Wrote v ∷ acts) floor = is_sealed-compact acts floor
is_sealed-compact (Seal ∷ acts) floor = refl
is_sealed-compact (Compact f ∷ acts) floor = is_sealed-compact acts floor

-- ---- what is stored of a key

-- some entry of each key is kept
pub history_some : (config : Configuration) → IsLegal config → 0 < config.history
history_some config legal = let numbers = legal.1 in grind (arith, nat_tests)

pub kept_before-is : (acts : List Act) (version : Stored) (key : List ℕ) → StandsFor acts version → kept_before key version ≡ revisions (kept version.config.history key acts)
kept_before-is acts version key s = ap (λ o. unwrap_or o []) (s.kept key) ∙ or_empty (revisions (kept version.config.history key acts))

-- ---- a seal

pub stands_for_seal : (acts : List Act) (version : Stored) → StandsFor acts version → StandsFor (acts ++ Seal ∷ []) (record version { sealed = true })
stands_for_seal acts version s =
    let h = version.config.history in
    record {
      legal = s.legal;
      lawful = lawful-push version.config acts Seal s.lawful tt;
      last = s.last ∙ ap length (sym (writes_of-seal acts));
      written = λ r. s.written r ∙ ap (find (λ (w : Write). w.revision == r)) (sym (stored-push version.config h acts Seal s.lawful tt));
      kept = λ key. s.kept key ∙ ap (λ ws. unless_empty (revisions ws)) (sym (kept_seal h key acts));
      last_of = λ key. s.last_of key ∙ ap (last_or None) (sym (writes_of_key-push key acts Seal));
      values = s.values ∙ ap length (sym (retained_seal h acts));
      floor = s.floor ∙ sym (floor_of-seal acts);
      sealed = sym (is_sealed-seal acts);
    }

-- ---- a write

pub last_or-push : (ws : List Write) (w : Write) (o : Option Write) → last_or o (ws ++ w ∷ []) ≡ Some w
last_or-push [] w o = refl
last_or-push (v ∷ ws) w o = last_or-push ws w (Some v)

-- a write is the last of its key, and of no other
last_write-wrote : (key : List ℕ) (acts : List Act) (w : Write) → last_write key (acts ++ Wrote w ∷ []) ≡ cond (bytes_eq w.key key) (Some w) (last_write key acts)
last_write-wrote key acts w = ap (last_or None) (writes_of_key-push key acts (Wrote w)) ∙ by_key (bytes_eq w.key key)
  where
    by_key : (b : Bool) → last_or None (cond b (writes_of_key key acts ++ w ∷ []) (writes_of_key key acts)) ≡ cond b (Some w) (last_or None (writes_of_key key acts))
    by_key true = last_or-push (writes_of_key key acts) w None
    by_key false = refl

pub find-push : (r : ℕ) (ws : List Write) (w : Write) → ((v : Write) → Contains ws v → v.revision < w.revision) → find (λ v. v.revision == r) (ws ++ w ∷ []) ≡ cond (w.revision == r) (Some w) (find (λ v. v.revision == r) ws)
find-push r [] w h = refl
find-push r (v ∷ ws) w h =
    ap (cond (v.revision == r) (Some v)) (find-push r ws w (λ u m. h u (Contains-there v ws u m)))
    ∙ in_turn (v.revision == r) refl (w.revision == r) refl
  where
    in_turn : (a : Bool) → (v.revision == r) ≡ a → (b : Bool) → (w.revision == r) ≡ b → cond a (Some v) (cond b (Some w) (find (λ u. u.revision == r) ws)) ≡ cond b (Some w) (cond a (Some v) (find (λ u. u.revision == r) ws))
    in_turn true p true q = absurd (omega (arith, h v (Contains-here v ws), eqb-true v.revision r p, eqb-true w.revision r q))
    in_turn true p false q = refl
    in_turn false p b q = refl

pub length-last_n : {X : Type 0} (n : ℕ) (xs : List X) (x : X) → 0 < n → 0 < length (last_n n (xs ++ x ∷ []))
length-last_n n xs x some = omega (arith, length-drop (length (xs ++ x ∷ []) - n) (xs ++ x ∷ []), length-append xs (x ∷ []))

-- at most one revision more is kept
pub next_kept-length : (h : ℕ) (op : Op) (revision : ℕ) (before : List ℕ) → length (next_kept h op revision before) ≤ length before + 1
next_kept-length h op revision before = by_purge (is_purge op)
  where
    by_purge : (b : Bool) → length (last_n h (cond b [] before ++ revision ∷ [])) ≤ length before + 1
    by_purge true = omega (arith, length-drop (length (revision ∷ []) - h) (revision ∷ []))
    by_purge false = omega (arith, length-drop (length (before ++ revision ∷ []) - h) (before ++ revision ∷ []), length-append before (revision ∷ []))

module _ (acts : List Act) (old new : Stored) (w : Write) (s : StandsFor acts old) (more : HasOneMore w old new) (accepted : IsAccepted old.config acts (Wrote w)) where
  lawful_after : IsLawful old.config (acts ++ Wrote w ∷ [])
  lawful_after = lawful-push old.config acts (Wrote w) s.lawful accepted

  counted : w.revision ≡ 1 + length (writes_of acts)
  counted =
      omega (arith, ap (λ (v : Write). v.revision) (sym (accepted_is_next old.config accepted.0 acts w accepted.1.1)))

  -- the stored writes have lesser revisions
  before_it : (v : Write) → Contains (stored_writes old.config.history acts) v → v.revision < w.revision
  before_it v m =
      let among = Contains-map (λ (u : Write). u.revision) (stored_writes old.config.history acts) v m in
      let small = (Rises-members 1 (1 + length (writes_of acts)) (revisions (stored_writes old.config.history acts)) v.revision (rises_counted (is_stored old.config.history acts) 1 (writes_of acts) (counts_from_lawful old.config acts s.lawful)) among).1 in
      omega (arith, small, counted)

  length_after : length (writes_of (acts ++ Wrote w ∷ [])) ≡ length (writes_of acts) + 1
  length_after = omega (arith, ap length (writes_of-wrote acts w), length-append (writes_of acts) (w ∷ []))

  kept_after-is : (key : List ℕ) → bytes_eq w.key key ≡ true → kept_after w old ≡ revisions (kept old.config.history key (acts ++ Wrote w ∷ []))
  kept_after-is key e =
      ap (next_kept old.config.history w.op w.revision) (kept_before-is acts old w.key s ∙ ap (λ k. revisions (kept old.config.history k acts)) ((bytes_eq-Decides w.key key).0 e))
      ∙ sym (kept_revisions_same old.config.history key acts w (history_some old.config s.legal) e)

  kept_of : (key : List ℕ) (b : Bool) → bytes_eq w.key key ≡ b → cond b (Some (kept_after w old)) (kept_at key old) ≡ unless_empty (revisions (kept old.config.history key (acts ++ Wrote w ∷ [])))
  kept_of key true e =
      let is = kept_after-is key e in
      let long : 0 < length (kept_after w old) = length-last_n old.config.history (cond (is_purge w.op) [] (kept_before w.key old)) w.revision (history_some old.config s.legal) in
      sym (unless_empty-long (kept_after w old) long) ∙ ap unless_empty is
  kept_of key false e =
      s.kept key ∙ ap (λ ws. unless_empty (revisions ws)) (sym (kept_other old.config.history key acts w e))

  values_after : new.values ≡ length (retained old.config.history (acts ++ Wrote w ∷ []))
  values_after =
      let itself : bytes_eq w.key w.key ≡ true = (bytes_eq-Decides w.key w.key).1 refl in
      let count = retained_count old.config.history acts w (counts_from_lawful old.config (acts ++ Wrote w ∷ []) lawful_after) in
      let now : length (kept_after w old) ≡ length (kept old.config.history w.key (acts ++ Wrote w ∷ [])) = ap length (kept_after-is w.key itself) ∙ length-map (kept old.config.history w.key (acts ++ Wrote w ∷ [])) (λ v. v.revision) in
      let before : length (kept_before w.key old) ≡ length (kept old.config.history w.key acts) = ap length (kept_before-is acts old w.key s) ∙ length-map (kept old.config.history w.key acts) (λ v. v.revision) in
      omega (arith, more.values, s.values, count, now, before)

  pub stands_for_write : StandsFor (acts ++ Wrote w ∷ []) new
  stands_for_write = record {
    legal = subst IsLegal (sym more.config) s.legal;
    lawful = subst (λ c. IsLawful c (acts ++ Wrote w ∷ [])) (sym more.config) lawful_after;
    last = more.last ∙ ap (λ n. n + 1) s.last ∙ sym length_after;
    written = λ r.
        more.written r
        ∙ ap (cond (w.revision == r) (Some w)) (s.written r)
        ∙ sym (ap (find (λ (v : Write). v.revision == r)) (stored-push old.config old.config.history acts (Wrote w) s.lawful accepted) ∙ find-push r (stored_writes old.config.history acts) w before_it)
        ∙ ap (λ (c : Configuration). write_at_of c.history r (acts ++ Wrote w ∷ [])) (sym more.config);
    kept = λ key.
        more.kept key
        ∙ kept_of key (bytes_eq w.key key) refl
        ∙ ap (λ (c : Configuration). unless_empty (revisions (kept c.history key (acts ++ Wrote w ∷ [])))) (sym more.config);
    last_of = λ key. more.last_of key ∙ ap (cond (bytes_eq w.key key) (Some w)) (s.last_of key) ∙ sym (last_write-wrote key acts w);
    values = values_after ∙ ap (λ (c : Configuration). length (retained c.history (acts ++ Wrote w ∷ []))) (sym more.config);
    floor = more.floor ∙ s.floor ∙ sym (floor_of-wrote acts w);
    sealed = more.sealed ∙ s.sealed ∙ sym (is_sealed-wrote acts w);
  }

-- where the rules accept a request and the version that follows has its write, they accept that write, and that version
-- stands for the acts with it
pub stands_after : (acts : List Act) (old new : Stored) (request : Asked) (w : Write) (last : ℕ) → last ≡ old.last → StandsFor acts old → accept old.config request acts ≡ Ok (next_write request acts) → w ≡ record { key = key_of request; op = op_of request; value = value_of request; revision = last + 1 } → is_key w.key ≡ true → HasOneMore w old new → (v : Write) × ((accept old.config request acts ≡ Ok v) × StandsFor (acts ++ Wrote v ∷ []) new)
stands_after acts old new request w last is s accepts made key more =
    let next : w ≡ next_write request acts = rw (is ∙ s.last) at made in
    let accepted : accept old.config request acts ≡ Ok w = accepts ∙ ap (λ (v : Write). let r : Result Write KvError = Ok v in r) (sym next) in
    (w, (accepted, stands_for_write acts old new w s more (request, (ap (λ (v : Write). is_key v.key) (sym next) ∙ key, accepted))))
