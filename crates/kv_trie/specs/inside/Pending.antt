-- A pair on the way down to its place.
use Rattle.std.specs.Prelude.{◌≡◌, Bool, true, false, Option, Some, None}
use Rattle.kv_trie.specs.declared.put.NewPair.{NewPair}
use Rattle.kv_trie.specs.Put.{pair_of}

-- the pair, and whether it is still there
pub record Pending (K V : Type 0) : Type 0 where
  pub pair : K × V
  pub there : Bool

-- as long as the pair is there, it is what is held
abbrev pub IsPending : {K V : Type 0} → Bool → Option (NewPair K V) → K × V → Type 0
IsPending false held pair = Unit {0}
IsPending true None pair = ⊥
IsPending true (Some held) pair = pair_of held ≡ pair
