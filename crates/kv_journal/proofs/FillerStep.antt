-- A purge of a spare key on the way to given stored writes, where none of them has the next revision.
use Rattle.std.proofs.Common.{◌≡◌, ℕ, ◌+◌, ◌<◌, ◌≤◌, Bool, true, cond, not, List, [], ◌∷◌, ◌++◌, Some, None, ⊎_elim, filter, refl, sym, subst, ap, ◌∙◌, arith, append-nil}
use Rattle.std.specs.List.{Contains, last_or}
use Rattle.std.specs.Str.{bytes_eq}
use Rattle.std.proofs.lemmas.List.Elements.{Contains-append_cases, filter-append}
use Rattle.std.proofs.lemmas.Slice.Eq.{bytes_eq-Decides}
use Rattle.kv_model.specs.Acceptance.{IsAccepted}
use Rattle.kv_model.specs.Acts.{Act, Wrote, Write, is_purge}
use Rattle.kv_model.specs.Compaction.{stored_writes}
use Rattle.kv_model.specs.Retained.{last_write, writes_of_key}
use Rattle.kv_model.specs.declared.write.Op.TheVariants as ops
use Rattle.kv_model.proofs.Keeping.{writes_of_key-wrote}
use Rattle.kv_model.proofs.Members.{Contains-cases, Contains-none}
use Rattle.kv_model.proofs.Storing.{floor_of-wrote, stored-push}
use Rattle.kv_store.proofs.Standings.{is_sealed-wrote, last_or-push, lawful-push}
use Rattle.kv_journal.specs.inside.Reachable.{RiseWithin}
use Rattle.kv_journal.proofs.RisingWrites.{rise_higher}
use Rattle.kv_journal.proofs.Underway.{Goal, At, Blocked, accepts, number_more, still_timely, unwritten}

-- ---- a filler

-- a purge of the key with this revision
abbrev pub filler : List ℕ → ℕ → Write
filler key revision = record { key = key; op = ops.Purge; value = []; revision = revision }

module _ (g : Goal) (acts : List Act) (r f : ℕ) (done todo : List Write) (a : At g acts r f done todo) (blocked : Blocked g r f done todo) (more : r < g.last) (under : r < g.floor) (rest : RiseWithin (r + 1) g.last todo) where
  abbrev h : ℕ
  h = g.config.history

  abbrev w : Write
  w = filler g.spare (r + 1)

  abbrev after : List Act
  after = acts ++ Wrote w ∷ []

  itself : bytes_eq g.spare g.spare ≡ true
  itself = (bytes_eq-Decides g.spare g.spare).1 refl

  accepted : IsAccepted g.config acts (Wrote w)
  accepted = accepts g acts r f done todo w a blocked more (record { is = g.is; short = omega arith; marker = λ e. refl }) refl

  stored_more : stored_writes h after ≡ stored_writes h acts ++ w ∷ []
  stored_more = stored-push g.config h acts (Wrote w) a.lawful accepted

  -- it is the last write of the spare key
  purges : (q : Write) → last_write g.spare after ≡ Some q → is_purge q.op ≡ true
  purges q e =
      let same : writes_of_key g.spare after ≡ writes_of_key g.spare acts ++ w ∷ [] = writes_of_key-wrote g.spare acts w ∙ ap (λ (b : Bool). writes_of_key g.spare acts ++ cond b (w ∷ []) []) itself in
      let last : Some w ≡ Some q = sym (ap (last_or None) same ∙ last_or-push (writes_of_key g.spare acts) w None) ∙ e in
      let is : w ≡ q = cc in
      ap (λ (v : Write). is_purge v.op) (sym is)

  real_more : filter (λ v. not (bytes_eq v.key g.spare)) (stored_writes h after) ≡ done
  real_more =
      let other : Write → Bool = λ v. not (bytes_eq v.key g.spare) in
      ap (filter other) stored_more ∙ filter-append other (stored_writes h acts) (w ∷ [])
      ∙ ap (λ (vs : List Write). vs ++ filter other (w ∷ [])) a.real
      ∙ ap (λ (b : Bool). done ++ cond (not b) (w ∷ []) []) itself
      ∙ append-nil done

  -- it is above the floor so far, and not above the floor to come
  fillers_more : (v : Write) → Contains (stored_writes h after) v → bytes_eq v.key g.spare ≡ true → (f < v.revision) × (v.revision ≤ g.floor)
  fillers_more v m t =
      ⊎_elim
      (λ n. a.fillers v n t)
      (λ n. ⊎_elim (λ e. at e) (λ k. absurd (Contains-none v k)) (Contains-cases w [] v n))
      (Contains-append_cases (stored_writes h acts) (w ∷ []) v (subst (λ (vs : List Write). Contains vs v) stored_more m))
    where
      at : w ≡ v → (f < v.revision) × (v.revision ≤ g.floor)
      at e = let is : r + 1 ≡ v.revision = ap (λ (u : Write). u.revision) e in (omega (arith, is, a.within), omega (arith, is, under))

  -- the acts with it are on the way too
  pub filled : At g after (r + 1) f done todo
  filled = record {
    lawful = lawful-push g.config acts (Wrote w) a.lawful accepted;
    split = a.split;
    number = number_more acts w r a.number;
    below = rise_higher 0 r (r + 1) done a.below (omega arith);
    behind = rest;
    floor_is = floor_of-wrote acts w ∙ a.floor_is;
    unsealed = is_sealed-wrote acts w ∙ a.unsealed;
    within = omega (arith, a.within);
    low = a.low;
    timely = λ l. still_timely g acts r f done todo a blocked l;
    spared = a.spared;
    of_key = λ key e. unwritten key acts w e ∙ a.of_key key e;
    of_spare = purges;
    real = real_more;
    fillers = fillers_more;
  }
