-- Acts on the way to given stored writes: what holds of them, why no compaction to the next floor can be made, and that there is room for one more write then.
use Rattle.std.proofs.Common.{◌≡◌, ℕ, ◌+◌, ◌-◌, ◌<◌, ◌≤◌, Bool, true, false, cond, not, List, [], ◌∷◌, ◌++◌, Some, inl, inr, ◌⊎◌, length, filter, refl, sym, subst, ap, ◌∙◌, arith, append_assoc, append-nil, length-append}
use Rattle.std.specs.Prelude.{nat_lt}
use Rattle.std.specs.List.{Contains, list_any}
use Rattle.std.specs.Str.{bytes_eq}
use Rattle.std.proofs.lemmas.Bool.{cases_lt}
use Rattle.std.proofs.lemmas.List.Elements.{Contains-append_right, filter-append}
use Rattle.std.proofs.lemmas.Slice.Eq.{bytes_eq-Decides}
use Rattle.kv_keys.specs.Grammar.{is_key}
use Rattle.kv_model.specs.Acceptance.{IsAccepted, IsLawful}
use Rattle.kv_model.specs.Acts.{Act, Wrote, Write, floor_of, is_purge, is_sealed, writes_of}
use Rattle.kv_model.specs.Compaction.{is_stored, stored_writes}
use Rattle.kv_model.specs.Configuration.{Configuration}
use Rattle.kv_model.specs.Retained.{is_cleared, last_write, writes_of_key}
use Rattle.kv_model.proofs.Keeping.{writes_of_key-wrote}
use Rattle.kv_model.proofs.Members.{Contains-from_filter, Contains-here}
use Rattle.kv_model.proofs.Numbered.{counts_from_lawful, writes_of-wrote}
use Rattle.kv_journal.specs.Restored.{those_of}
use Rattle.kv_journal.specs.inside.Reachable.{IsReachable, IsWritable, RiseWithin, last_among, least_stored}
use Rattle.kv_journal.proofs.Asking.{all_others, filter_grows, stored_few, writable_accepted}
use Rattle.kv_journal.proofs.OfOneKey.{Follower, follower}
use Rattle.kv_journal.proofs.RisingWrites.{counted_rise, filter_fewer, rise_above, rise_last, rise_members}

-- what a course leads to, and the key that it may purge
pub record Goal : Type 0 where
  pub config : Configuration
  pub spare : List ℕ
  pub ws : List Write
  pub last : ℕ
  pub count : ℕ
  pub floor : ℕ
  pub is : is_key spare ≡ true
  pub other : (w : Write) → Contains ws w → bytes_eq w.key spare ≡ false
  pub reach : IsReachable config ws last count floor

-- acts on the way to it, with this last revision and this floor: which of the writes are done, and which are to do
pub record At (g : Goal) (acts : List Act) (r f : ℕ) (done todo : List Write) : Type 0 where
  pub lawful : IsLawful g.config acts
  pub split : g.ws ≡ done ++ todo
  pub number : length (writes_of acts) ≡ r
  pub below : RiseWithin 0 r done
  pub behind : RiseWithin r g.last todo
  pub floor_is : floor_of acts ≡ f
  pub unsealed : is_sealed acts ≡ false
  pub within : f ≤ r
  pub low : f ≤ g.floor
  pub timely : f < g.floor → r ≤ g.reach.time
  pub spared : (key : List ℕ) → is_cleared f (those_of key done) ≡ false
  pub of_key : (key : List ℕ) → bytes_eq g.spare key ≡ false → writes_of_key key acts ≡ those_of key done
  pub of_spare : (q : Write) → last_write g.spare acts ≡ Some q → is_purge q.op ≡ true
  pub real : filter (λ w. not (bytes_eq w.key g.spare)) (stored_writes g.config.history acts) ≡ done
  pub fillers : (w : Write) → Contains (stored_writes g.config.history acts) w → bytes_eq w.key g.spare ≡ true → (f < w.revision) × (w.revision ≤ g.floor)

-- why no compaction to the next floor can be made
pub data Blocked (g : Goal) (r f : ℕ) (done todo : List Write) : Type 0 where
  at_floor : (is : f ≡ g.floor) → Blocked g r f done todo
  at_last : (is : f ≡ r) → (below : f < g.floor) → Blocked g r f done todo
  by_marker : (below : f < g.floor) → (within : f + 1 ≤ r) → (found : Follower f done todo) → Blocked g r f done todo

-- texts that differ differ in either order
pub flip : (a b : List ℕ) → bytes_eq a b ≡ false → bytes_eq b a ≡ false
flip a b f = by_test (bytes_eq b a) refl
  where
    by_test : (c : Bool) → bytes_eq b a ≡ c → c ≡ false
    by_test true t = let clash : bytes_eq a b ≡ true = (bytes_eq-Decides a b).1 (sym ((bytes_eq-Decides b a).0 t)) in cc
    by_test false t = refl

-- ---- what is known on the way

module _ (g : Goal) (acts : List Act) (r f : ℕ) (done todo : List Write) (a : At g acts r f done todo) where
  abbrev h : ℕ
  h = g.config.history

  abbrev stored : List Write
  stored = stored_writes g.config.history acts

  -- no write of the goal is of the spare key
  pub done_other : (w : Write) → Contains done w → bytes_eq w.key g.spare ≡ false
  done_other w m = by_test (bytes_eq w.key g.spare) refl
    where
      in_real : Contains (filter (λ w. not (bytes_eq w.key g.spare)) stored) w
      in_real = subst (λ (vs : List Write). Contains vs w) (sym a.real) m

      by_test : (b : Bool) → bytes_eq w.key g.spare ≡ b → b ≡ false
      by_test true t =
          let other = (Contains-from_filter (λ w. not (bytes_eq w.key g.spare)) stored w in_real).1 in
          let no : false ≡ true = sym (ap not t) ∙ other in cc
      by_test false t = refl

  -- the stored writes rise
  pub stored_rise : RiseWithin 0 r stored
  stored_rise = let e : 0 + length (writes_of acts) ≡ r = omega (arith, a.number) in subst (λ (n : ℕ). RiseWithin 0 n stored) e (counted_rise (is_stored h acts) 0 (writes_of acts) (counts_from_lawful g.config acts a.lawful))

  -- at or above the goal's floor each revision to come has its write
  pub each_to_do : g.floor ≤ r → g.last ≤ length todo + r
  each_to_do l =
      let above : Write → Bool = λ w. nat_lt g.floor w.revision in
      let both : filter above g.ws ≡ filter above done ++ filter above todo = ap (filter above) a.split ∙ filter-append above done todo in
      omega (arith, g.reach.above, ap (λ (vs : List Write). length vs) both, length-append (filter above done) (filter above todo), rise_above g.floor 0 r done a.below l, filter_fewer above todo)

  -- what the goal says of a marker that blocks
  pub follows : (k : Follower f done todo) → f < g.floor → (r < k.next.revision) × (k.next.revision ≤ g.last) × (k.next.revision ≤ g.reach.time) × (least_stored (done ++ k.between) k.marker k.next < g.config.write_limit)
  follows k l =
      let parts : g.ws ≡ (done ++ k.between) ++ k.next ∷ k.rest = a.split ∙ ap (λ (vs : List Write). done ++ vs) k.parts ∙ sym (append_assoc done k.between (k.next ∷ k.rest)) in
      let low : k.marker.revision ≤ g.floor = omega (arith, k.at) in
      let fact = g.reach.compacted.followed (done ++ k.between) k.rest k.next k.marker parts (k.last, k.is_marker, low) in
      let among : Contains todo k.next = subst (λ (vs : List Write). Contains vs k.next) (sym k.parts) (Contains-append_right k.between (k.next ∷ k.rest) k.next (Contains-here k.next k.rest)) in
      let bounds = rise_members r g.last todo k.next a.behind among in
      (bounds.0, bounds.1, fact.0, fact.1)

  -- the time is not past yet
  pub still_timely : Blocked g r f done todo → f < g.floor → r + 1 ≤ g.reach.time
  still_timely (at_floor e) l = absurd (omega arith)
  still_timely (at_last e b) l = omega (arith, g.reach.compacted.late)
  still_timely (by_marker b w k) l = let facts = follows k l in omega (arith, facts.0, facts.2)

  -- where no filler is stored there is room for one more
  room_without : ((w : Write) → Contains stored w → bytes_eq w.key g.spare ≡ false) → (todo ≡ [] → last_among g.ws < g.last) → length stored < g.config.write_limit
  room_without none last = by_todo todo a.split last
    where
      same : stored ≡ done
      same = all_others g.spare stored done a.real none

      by_todo : (ts : List Write) → g.ws ≡ done ++ ts → (ts ≡ [] → last_among g.ws < g.last) → length stored < g.config.write_limit
      by_todo [] e l =
          omega (arith, g.reach.room (l refl), ap (λ (vs : List Write). length vs) (e ∙ append-nil done), ap (λ (vs : List Write). length vs) same)
      by_todo (t ∷ ts) e l =
          omega (arith, g.reach.few, ap (λ (vs : List Write). length vs) e, length-append done (t ∷ ts), ap (λ (vs : List Write). length vs) same)

  -- where nothing is to do the last write is before the last revision
  last_below : r < g.last → todo ≡ [] → last_among g.ws < g.last
  last_below l none =
      let all : g.ws ≡ done = a.split ∙ ap (λ (vs : List Write). done ++ vs) none ∙ append-nil done in
      omega (arith, ap last_among all, rise_last 0 r done a.below)

  -- stored writes that can't be fillers aren't
  no_fillers : ((w : Write) → Contains stored w → bytes_eq w.key g.spare ≡ true → ⊥) → (w : Write) → Contains stored w → bytes_eq w.key g.spare ≡ false
  no_fillers never w m = by_test (bytes_eq w.key g.spare) refl
    where
      by_test : (b : Bool) → bytes_eq w.key g.spare ≡ b → b ≡ false
      by_test true t = absurd (never w m t)
      by_test false t = refl

  -- at the goal's floor no filler is stored
  pub none_at_floor : f ≡ g.floor → (w : Write) → Contains stored w → bytes_eq w.key g.spare ≡ false
  none_at_floor e = no_fillers (λ w m t. let both = a.fillers w m t in omega (arith, both.0, both.1))

  -- nor where the floor is the last revision so far
  none_at_last : f ≡ r → (w : Write) → Contains stored w → bytes_eq w.key g.spare ≡ false
  none_at_last e = no_fillers (λ w m t. omega (arith, (a.fillers w m t).0, (rise_members 0 r stored w stored_rise m).1))

  -- there is room for one more write where no compaction can be made
  pub room : Blocked g r f done todo → r < g.last → length stored < g.config.write_limit
  room (at_floor e) l = room_without (none_at_floor e) (last_below l)
  room (at_last e b) l = room_without (none_at_last e) (last_below l)
  room (by_marker b w k) l =
      let facts = follows k b in
      let test : ℕ → Write → Bool = λ n v. nat_lt v.revision n in
      let bound : length (filter (test k.marker.revision) done) ≤ length (filter (test k.marker.revision) (done ++ k.between)) = filter_grows (test k.marker.revision) done k.between in
      let same : length (filter (test k.marker.revision) done) ≡ length (filter (test (f + 1)) done) = ap (λ (n : ℕ). length (filter (test n) done)) k.at in
      let few : length stored ≤ (r - f) + length (filter (test (f + 1)) done) = stored_few f r g.spare stored done stored_rise a.within a.real (λ v m t. (a.fillers v m t).0) in
      let least : (k.next.revision - k.marker.revision) + length (filter (test k.marker.revision) (done ++ k.between)) < g.config.write_limit = facts.3 in
      omega (arith, facts.0, few, bound, same, least, k.at)

  -- which of these holds
  pub blocked_or : (Blocked g r f done todo) ⊎ ((f < g.floor) × (f + 1 ≤ r) × (list_any (λ w. is_cleared (f + 1) (those_of w.key done)) done ≡ false))
  blocked_or = by_floor (cases_lt f g.floor)
    where
      by_test : f < g.floor → f + 1 ≤ r → (b : Bool) → list_any (λ w. is_cleared (f + 1) (those_of w.key done)) done ≡ b → (Blocked g r f done todo) ⊎ ((f < g.floor) × (f + 1 ≤ r) × (list_any (λ w. is_cleared (f + 1) (those_of w.key done)) done ≡ false))
      by_test l k false e = inr (l, k, e)
      by_test l k true e = inl (by_marker l k (follower f g.floor done todo l a.spared (λ key. subst (λ (vs : List Write). is_cleared g.floor (those_of key vs) ≡ false) a.split (g.reach.compacted.spared key)) e))

      by_last : f < g.floor → (f < r) ⊎ (r ≤ f) → (Blocked g r f done todo) ⊎ ((f < g.floor) × (f + 1 ≤ r) × (list_any (λ w. is_cleared (f + 1) (those_of w.key done)) done ≡ false))
      by_last l (inl k) = by_test l (omega arith) (list_any (λ w. is_cleared (f + 1) (those_of w.key done)) done) refl
      by_last l (inr k) = inl (at_last (omega (arith, a.within)) l)

      by_floor : (f < g.floor) ⊎ (g.floor ≤ f) → (Blocked g r f done todo) ⊎ ((f < g.floor) × (f + 1 ≤ r) × (list_any (λ w. is_cleared (f + 1) (those_of w.key done)) done ≡ false))
      by_floor (inl l) = by_last l (cases_lt f r)
      by_floor (inr l) = inl (at_floor (omega (arith, a.low)))

-- ---- one more write

-- the request for it is accepted where no compaction can be made
pub accepts : (g : Goal) (acts : List Act) (r f : ℕ) (done todo : List Write) (w : Write) → At g acts r f done todo → Blocked g r f done todo → r < g.last → IsWritable g.config w → w.revision ≡ r + 1 → IsAccepted g.config acts (Wrote w)
accepts g acts r f done todo w a b l writable next =
    writable_accepted g.config acts w writable a.unsealed (room g acts r f done todo a b l) (omega (arith, a.number, g.reach.limit)) (omega (arith, a.number, next))

-- there is one write more then
pub number_more : (acts : List Act) (w : Write) (r : ℕ) → length (writes_of acts) ≡ r → length (writes_of (acts ++ Wrote w ∷ [])) ≡ r + 1
number_more acts w r e = omega (arith, e, ap (λ (vs : List Write). length vs) (writes_of-wrote acts w), length-append (writes_of acts) (w ∷ []))

-- other keys have the same writes still
pub unwritten : (key : List ℕ) (acts : List Act) (w : Write) → bytes_eq w.key key ≡ false → writes_of_key key (acts ++ Wrote w ∷ []) ≡ writes_of_key key acts
unwritten key acts w e = writes_of_key-wrote key acts w ∙ ap (λ (b : Bool). writes_of_key key acts ++ cond b (w ∷ []) []) e ∙ append-nil (writes_of_key key acts)
