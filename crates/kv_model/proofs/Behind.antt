-- Which watch a compaction is refused for, and what it leaves of what is given.
use Rattle.std.proofs.Common.{◌≡◌, ℕ, zero, suc, ◌+◌, ◌-◌, ◌<◌, Bool, true, false, cond, List, [], ◌∷◌, ◌++◌, Option, Some, None, Ok, Err, length, drop, refl, sym, ap, ◌∙◌, arith}
use Rattle.std.specs.List.{slice_get}
use Rattle.kv_keys.specs.declared.error.KvError.TheVariants.{BadFloor, WatchBehind}
use Rattle.kv_model.specs.Acts.{Act, Compact, writes_of}
use Rattle.kv_model.specs.Compaction.{is_bad_floor}
use Rattle.kv_model.specs.declared.options.Options.{Options}
use Rattle.kv_model.specs.Given.{all_shown, ending, given, initial, matching}
use Rattle.kv_model.specs.State.{State, Watch, watch_at, watch_behind, first_behind, unless_behind, may_compact}
use Rattle.kv_model.proofs.Numbered.{writes_of-compact}
use Rattle.kv_model.proofs.Numbers.{at_get, at_within, at_suc}

-- what is given is over the accepted writes, and a compaction is none
pub given_compact : (h : ℕ) (began acts : List Act) (floor : ℕ) (filters : List (List ℕ)) (options : Options) → given h began (acts ++ Compact floor ∷ []) filters options ≡ given h began acts filters options
given_compact h began acts floor filters options =
    ap (λ ws. all_shown options (matching filters (initial h options.start began)) ++ (ending options.start ++ all_shown options (matching filters (drop (length (writes_of began)) ws)))) (writes_of-compact acts floor)

-- where no watch is the first that is behind, none is
first_none : (n floor h : ℕ) (acts : List Act) (ws : List Watch) → first_behind n floor h acts ws ≡ None → (i : ℕ) (w : Watch) → slice_get ws i ≡ Some w → watch_behind floor h acts w ≡ false
first_none n floor h acts [] e i w at = cc
first_none n floor h acts (v ∷ ws) e i w at = by_test (λ rest j there. first_none (n + 1) floor h acts ws rest j w there) (watch_behind floor h acts v) refl e i at
  where
    by_test : (first_behind (n + 1) floor h acts ws ≡ None → (j : ℕ) → slice_get ws j ≡ Some w → watch_behind floor h acts w ≡ false) →
        (b : Bool) → watch_behind floor h acts v ≡ b → cond b (Some n) (first_behind (n + 1) floor h acts ws) ≡ None → (i : ℕ) → slice_get (v ∷ ws) i ≡ Some w → watch_behind floor h acts w ≡ false
    by_test later true t e i at = cc
    by_test later false t e zero at = let same : v ≡ w = cc in ap (watch_behind floor h acts) (sym same) ∙ t
    by_test later false t e (suc j) at = later e j at

-- the first that is behind, and those before it
abbrev IsFirst : ℕ → ℕ → List Act → List Watch → ℕ → Type 0
IsFirst floor h acts ws i =
    ((w : Watch) × (slice_get ws i ≡ Some w) × (watch_behind floor h acts w ≡ true))
    × ((j : ℕ) (v : Watch) → j < i → slice_get ws j ≡ Some v → watch_behind floor h acts v ≡ false)

first_some : (n floor h : ℕ) (acts : List Act) (ws : List Watch) (m : ℕ) → first_behind n floor h acts ws ≡ Some m → (i : ℕ) × (m ≡ n + i) × IsFirst floor h acts ws i
first_some n floor h acts [] m e = cc
first_some n floor h acts (v ∷ ws) m e = by_test (first_some (n + 1) floor h acts ws m) (watch_behind floor h acts v) refl e
  where
    before : (i : ℕ) → watch_behind floor h acts v ≡ false → ((j : ℕ) (u : Watch) → j < i → slice_get ws j ≡ Some u → watch_behind floor h acts u ≡ false) →
        (j : ℕ) (u : Watch) → j < suc i → slice_get (v ∷ ws) j ≡ Some u → watch_behind floor h acts u ≡ false
    before i t none zero u l at = let same : v ≡ u = cc in ap (watch_behind floor h acts) (sym same) ∙ t
    before i t none (suc j) u l at = none j u (omega arith) at

    by_test : (first_behind (n + 1) floor h acts ws ≡ Some m → (i : ℕ) × (m ≡ n + 1 + i) × IsFirst floor h acts ws i) →
        (b : Bool) → watch_behind floor h acts v ≡ b → cond b (Some n) (first_behind (n + 1) floor h acts ws) ≡ Some m → (i : ℕ) × (m ≡ n + i) × IsFirst floor h acts (v ∷ ws) i
    by_test later true t e = let same : n ≡ m = cc in (0, omega (arith, same), ((v, refl, t), λ j u l at. absurd (omega arith)))
    by_test later false t e =
        let rest = later e in
        (suc rest.0, omega (arith, rest.1), (rest.2.0, before rest.0 t rest.2.1))

-- the same by the numbers of the watches
pub none_is_behind : (floor : ℕ) (s : State) → first_behind 1 floor s.config.history s.acts s.watches ≡ None → (number : ℕ) (w : Watch) → watch_at number s.watches ≡ Some w → watch_behind floor s.config.history s.acts w ≡ false
none_is_behind floor s e number w at = first_none 1 floor s.config.history s.acts s.watches e (number - 1) w (at_get s.watches number w at)

pub first_is_behind : (floor number : ℕ) (s : State) → first_behind 1 floor s.config.history s.acts s.watches ≡ Some number →
    ((w : Watch) × (watch_at number s.watches ≡ Some w) × (watch_behind floor s.config.history s.acts w ≡ true))
    × ((lesser : ℕ) (v : Watch) → lesser < number → watch_at lesser s.watches ≡ Some v → watch_behind floor s.config.history s.acts v ≡ false)
first_is_behind floor number s e =
    let first = first_some 1 floor s.config.history s.acts s.watches number e in
    let place : number ≡ suc first.0 = omega (arith, first.1) in (
      (first.2.0.0, ap (λ k. watch_at k s.watches) place ∙ at_suc first.0 s.watches ∙ first.2.0.1, first.2.0.2),
      λ lesser v l at. first.2.1 (lesser - 1) v (omega (arith, place, l, (at_within s.watches lesser v at).0)) (at_get s.watches lesser v at),
    )

-- a compaction that is made
pub compacts_to : (floor to : ℕ) (s : State) → may_compact floor s ≡ Ok to →
    (to ≡ floor) × (is_bad_floor floor s.acts ≡ false) × ((number : ℕ) (w : Watch) → watch_at number s.watches ≡ Some w → watch_behind floor s.config.history s.acts w ≡ false)
compacts_to floor to s h = by_test (is_bad_floor floor s.acts) refl (first_behind 1 floor s.config.history s.acts s.watches) refl h
  where
    by_test : (b : Bool) → is_bad_floor floor s.acts ≡ b → (o : Option ℕ) → first_behind 1 floor s.config.history s.acts s.watches ≡ o → cond b (Err BadFloor) (unless_behind floor o) ≡ Ok to →
        (to ≡ floor) × (is_bad_floor floor s.acts ≡ false) × ((number : ℕ) (w : Watch) → watch_at number s.watches ≡ Some w → watch_behind floor s.config.history s.acts w ≡ false)
    by_test true t o e r = cc
    by_test false t (Some n) e r = cc
    by_test false t None e r =
        let same : floor ≡ to = cc in
        (sym same, t, none_is_behind floor s e)

-- a compaction that is refused for a watch
pub refused_for : (floor number : ℕ) (s : State) → may_compact floor s ≡ Err (WatchBehind number) →
    (is_bad_floor floor s.acts ≡ false)
    × ((w : Watch) × (watch_at number s.watches ≡ Some w) × (watch_behind floor s.config.history s.acts w ≡ true))
    × ((lesser : ℕ) (v : Watch) → lesser < number → watch_at lesser s.watches ≡ Some v → watch_behind floor s.config.history s.acts v ≡ false)
refused_for floor number s h = by_test (is_bad_floor floor s.acts) refl (first_behind 1 floor s.config.history s.acts s.watches) refl h
  where
    by_test : (b : Bool) → is_bad_floor floor s.acts ≡ b → (o : Option ℕ) → first_behind 1 floor s.config.history s.acts s.watches ≡ o → cond b (Err BadFloor) (unless_behind floor o) ≡ Err (WatchBehind number) →
        (is_bad_floor floor s.acts ≡ false)
        × ((w : Watch) × (watch_at number s.watches ≡ Some w) × (watch_behind floor s.config.history s.acts w ≡ true))
        × ((lesser : ℕ) (v : Watch) → lesser < number → watch_at lesser s.watches ≡ Some v → watch_behind floor s.config.history s.acts v ≡ false)
    by_test true t o e r = cc
    by_test false t None e r = cc
    by_test false t (Some n) e r =
        let same : n ≡ number = cc in
        let first = first_is_behind floor number s (e ∙ ap Some same) in (t, first.0, first.1)
