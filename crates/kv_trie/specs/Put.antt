-- What a put makes of a map.
use Rattle.std.specs.Prelude.{◌≡◌, ℕ, List, Some, if◌then◌else◌}
use Rattle.std.specs.Arc.{arc_value}
use Rattle.std.specs.BTreeMap.{is_at}
use Rattle.std.specs.Map.{lookup}
use Rattle.std.specs.declared.cmp.Ordering.{Ordering}
use Rattle.kv_trie.specs.declared.put.NewPair.{NewPair}
use Rattle.kv_trie.specs.declared.put.NewPair.TheVariants.{Owned, Shared}
use Rattle.kv_trie.specs.Form.{order, put_pair}

-- the pair that is to be put, whoever has it
abbrev pub pair_of : {K V : Type 0} → NewPair K V → K × V
pair_of (Owned pair) = pair
pair_of (Shared pair) = arc_value pair

module _ {K V : Type 0} (cmp : K → K → Ordering) (place : K → ℕ) where
  -- the new map is the old one with this pair in the place of any with an equal key: its entries are those, and at each
  -- key it has what it had, but at the pair's key the pair's value
  abbrev pub IsMapWith : K × V → List (K × V) → List (K × V) → Type 0
  IsMapWith pair old new = (new ≡ put_pair (order cmp place 7) pair old) × ((q : K) → lookup (is_at (cmp q)) new ≡ (if is_at (cmp pair.0) q then Some pair.1 else lookup (is_at (cmp q)) old))
