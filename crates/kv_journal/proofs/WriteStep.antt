-- The next of given stored writes, on the way to them.
use Rattle.std.proofs.Common.{◌≡◌, ℕ, ◌+◌, ◌<◌, ◌≤◌, Bool, true, false, cond, not, List, [], ◌∷◌, ◌++◌, None, ⊎_elim, filter, refl, sym, subst, ap, ◌∙◌, arith, append_assoc, append-nil}
use Rattle.std.specs.List.{Contains, last_or}
use Rattle.std.specs.Str.{bytes_eq}
use Rattle.std.proofs.lemmas.List.Elements.{Contains-append_cases, Contains-append_right, filter-append}
use Rattle.kv_model.specs.Acceptance.{IsAccepted}
use Rattle.kv_model.specs.Acts.{Act, Wrote, Write}
use Rattle.kv_model.specs.Compaction.{stored_writes}
use Rattle.kv_model.specs.Retained.{is_cleared}
use Rattle.kv_model.proofs.Keeping.{writes_of_key-wrote}
use Rattle.kv_model.proofs.Members.{Contains-cases, Contains-here, Contains-none}
use Rattle.kv_model.proofs.Storing.{floor_of-wrote, stored-push}
use Rattle.kv_store.proofs.Standings.{is_sealed-wrote, last_or-push, lawful-push}
use Rattle.kv_journal.specs.Restored.{those_of}
use Rattle.kv_journal.specs.inside.Reachable.{RiseWithin}
use Rattle.kv_journal.proofs.OfOneKey.{above_spares}
use Rattle.kv_journal.proofs.RisingWrites.{rise_higher, rise_members, rise_push}
use Rattle.kv_journal.proofs.Underway.{Goal, At, Blocked, accepts, number_more, still_timely, unwritten}

-- the write is the next of those to do
module _ (g : Goal) (acts : List Act) (r f : ℕ) (done : List Write) (w : Write) (todo : List Write) (a : At g acts r f done (w ∷ todo)) (blocked : Blocked g r f done (w ∷ todo)) (next : w.revision ≡ r + 1) where
  abbrev h : ℕ
  h = g.config.history

  abbrev after : List Act
  after = acts ++ Wrote w ∷ []

  among : Contains g.ws w
  among = subst (λ (vs : List Write). Contains vs w) (sym a.split) (Contains-append_right done (w ∷ todo) w (Contains-here w todo))

  not_spare : bytes_eq w.key g.spare ≡ false
  not_spare = g.other w among

  within_last : r < g.last
  within_last = omega (arith, next, (rise_members r g.last (w ∷ todo) w a.behind (Contains-here w todo)).1)

  accepted : IsAccepted g.config acts (Wrote w)
  accepted = accepts g acts r f done (w ∷ todo) w a blocked within_last (g.reach.writable w among) next

  stored_more : stored_writes h after ≡ stored_writes h acts ++ w ∷ []
  stored_more = stored-push g.config h acts (Wrote w) a.lawful accepted

  those_more : (key : List ℕ) → those_of key (done ++ w ∷ []) ≡ those_of key done ++ cond (bytes_eq w.key key) (w ∷ []) []
  those_more key = filter-append (λ v. bytes_eq v.key key) done (w ∷ [])

  -- it is above the floor, so no key is cleared
  spared_more : (key : List ℕ) → is_cleared f (those_of key (done ++ w ∷ [])) ≡ false
  spared_more key = by_test (bytes_eq w.key key) refl
    where
      by_test : (b : Bool) → bytes_eq w.key key ≡ b → is_cleared f (those_of key (done ++ w ∷ [])) ≡ false
      by_test true e =
          let same : those_of key (done ++ w ∷ []) ≡ those_of key done ++ w ∷ [] = those_more key ∙ ap (λ (b : Bool). those_of key done ++ cond b (w ∷ []) []) e in
          above_spares f (those_of key (done ++ w ∷ [])) w (ap (last_or None) same ∙ last_or-push (those_of key done) w None) (omega (arith, next, a.within))
      by_test false e =
          let same : those_of key (done ++ w ∷ []) ≡ those_of key done = those_more key ∙ ap (λ (b : Bool). those_of key done ++ cond b (w ∷ []) []) e ∙ append-nil (those_of key done) in
          ap (is_cleared f) same ∙ a.spared key

  real_more : filter (λ v. not (bytes_eq v.key g.spare)) (stored_writes h after) ≡ done ++ w ∷ []
  real_more =
      let other : Write → Bool = λ v. not (bytes_eq v.key g.spare) in
      ap (filter other) stored_more ∙ filter-append other (stored_writes h acts) (w ∷ [])
      ∙ ap (λ (vs : List Write). vs ++ filter other (w ∷ [])) a.real
      ∙ ap (λ (b : Bool). done ++ cond (not b) (w ∷ []) []) not_spare

  -- it is no filler
  fillers_more : (v : Write) → Contains (stored_writes h after) v → bytes_eq v.key g.spare ≡ true → (f < v.revision) × (v.revision ≤ g.floor)
  fillers_more v m t =
      ⊎_elim
      (λ n. a.fillers v n t)
      (λ n. ⊎_elim (λ e. clash e) (λ k. absurd (Contains-none v k)) (Contains-cases w [] v n))
      (Contains-append_cases (stored_writes h acts) (w ∷ []) v (subst (λ (vs : List Write). Contains vs v) stored_more m))
    where
      clash : w ≡ v → (f < v.revision) × (v.revision ≤ g.floor)
      clash e = let no : false ≡ true = sym not_spare ∙ ap (λ (u : Write). bytes_eq u.key g.spare) e ∙ t in cc

  -- the acts with it are on the way too
  pub wrote_next : At g after (r + 1) f (done ++ w ∷ []) todo
  wrote_next = record {
    lawful = lawful-push g.config acts (Wrote w) a.lawful accepted;
    split = a.split ∙ sym (append_assoc done (w ∷ []) todo);
    number = number_more acts w r a.number;
    below = rise_higher 0 w.revision (r + 1) (done ++ w ∷ []) (rise_push 0 r done w a.below (omega (arith, next))) (omega (arith, next));
    behind = subst (λ (n : ℕ). RiseWithin n g.last todo) next a.behind.1;
    floor_is = floor_of-wrote acts w ∙ a.floor_is;
    unsealed = is_sealed-wrote acts w ∙ a.unsealed;
    within = omega (arith, a.within);
    low = a.low;
    timely = λ l. still_timely g acts r f done (w ∷ todo) a blocked l;
    spared = spared_more;
    of_key = λ key e. writes_of_key-wrote key acts w ∙ ap (λ (vs : List Write). vs ++ cond (bytes_eq w.key key) (w ∷ []) []) (a.of_key key e) ∙ sym (those_more key);
    of_spare = λ q e. a.of_spare q (sym (ap (last_or None) (unwritten g.spare acts w not_spare)) ∙ e);
    real = real_more;
    fillers = fillers_more;
  }
