-- What acts leave stored, one after the other.
use Rattle.std.specs.Prelude.{ℕ, Bool, ◌&&◌, not, nat_le, List, [], ◌∷◌, ◌++◌, filter}
use Rattle.kv_model.specs.Acts.{Act, Wrote, Seal, Compact, Write}
use Rattle.kv_model.specs.Retained.{is_kept}

-- a compaction to a floor removes a write at or below the floor that is then not kept
abbrev pub removes : ℕ → ℕ → List Act → Write → Bool
removes floor h acts w = nat_le w.revision floor && not (is_kept h (acts ++ Compact floor ∷ []) w)

-- the stored writes behind one more act: an accepted write comes behind them, and a compaction removes some of them
abbrev pub stored_after : ℕ → List Act → List Write → Act → List Write
stored_after h before ws (Wrote w) = ws ++ w ∷ []
stored_after h before ws Seal = ws
stored_after h before ws (Compact floor) = filter (λ w. not (removes floor h before w)) ws

-- what acts leave stored one by one
abbrev pub left_one_by_one : ℕ → List Act → List Write → List Act → List Write
left_one_by_one h before ws [] = ws
left_one_by_one h before ws (act ∷ acts) = left_one_by_one h (before ++ act ∷ []) (stored_after h before ws act) acts
