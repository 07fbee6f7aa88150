-- What children make, looked at one after another.
use Rattle.std.proofs.Common.{false, ◌≡◌, ℕ, suc, ◌+◌, ◌<◌, List, ◌∷◌, length, drop, get_or, map, Option, Some, None, refl, sym, ap, ◌∙◌, arith}
use Rattle.std.specs.List.{slice_get}
use Rattle.std.specs.Option.{is_some}
use Rattle.std.proofs.lemmas.List.{drop_more, get_or-map, length-map}
use Rattle.std.proofs.lemmas.Option.{slice_get_read}
use Rattle.kv_trie.specs.declared.node.Node.{Node}
use Rattle.kv_trie.specs.Form.{Shape, Slots, leaf, branch, more, whole}
use Rattle.kv_trie.specs.Stored.{shape_of, slots_from}

module _ {P : Type 0} (cs : List (Option (Shape P))) where
  -- the one child so far, a pair alone, is at i
  pub record IsAlone (i at : ℕ) : Type 0 where
    pub pair : P
    pub small : i < length cs
    pub there : slice_get cs i ≡ Some (Some (leaf pair))
    pub slots : slots_from 0 cs ≡ more i (leaf pair) (slots_from at (drop at cs))

  -- of the children before `at` there is none, or one that is a pair alone
  abbrev pub IsOnly : Option ℕ → ℕ → Type 0
  IsOnly None at = slots_from 0 cs ≡ slots_from at (drop at cs)
  IsOnly (Some i) at = IsAlone i at

  slots_next : (low at : ℕ) (s : Option (Shape P)) → at < length cs → get_or cs at s ≡ s → slots_from low (drop at cs) ≡ slots_from low (s ∷ drop (at + 1) cs)
  slots_next low at s l e = ap (slots_from low) (drop_more cs at s l) ∙ ap (λ d. slots_from low (d ∷ drop (at + 1) cs)) e

  up : (at : ℕ) → suc at ≡ at + 1
  up at = omega arith

  pub only_missing : (o : Option ℕ) (at : ℕ) → IsOnly o at → at < length cs → get_or cs at None ≡ None → IsOnly o (at + 1)
  only_missing None at h l e = h ∙ slots_next at at None l e ∙ ap (λ j. slots_from j (drop (at + 1) cs)) (up at)
  only_missing (Some i) at h l e =
      record {
        pair = h.pair;
        small = h.small;
        there = h.there;
        slots = h.slots ∙ ap (more i (leaf h.pair)) (slots_next at at None l e ∙ ap (λ j. slots_from j (drop (at + 1) cs)) (up at));
      }

  pub only_leaf : (o : Option ℕ) (at : ℕ) (p : P) → is_some o ≡ false → IsOnly o at → at < length cs → get_or cs at (Some (leaf p)) ≡ Some (leaf p) → IsOnly (Some at) (at + 1)
  only_leaf None at p n h l e =
      record {
        pair = p;
        small = l;
        there = slice_get_read cs (length cs) at (Some (leaf p)) refl l (sym e);
        slots = h ∙ slots_next at at (Some (leaf p)) l e ∙ ap (λ j. more at (leaf p) (slots_from j (drop (at + 1) cs))) (up at);
      }
  only_leaf (Some i) at p n h l e = cc

  -- one more child makes a branch
  pub many : (o : Option ℕ) (at : ℕ) (a : Shape P) → IsOnly o at → at < length cs → get_or cs at (Some a) ≡ Some a → ((rest : Slots P) → o ≡ None → whole (more at a rest) ≡ Some (branch (more at a rest))) → whole (slots_from 0 cs) ≡ Some (branch (slots_from 0 cs))
  many None at a h l e m = rw (h ∙ slots_next at at (Some a) l e) (m (slots_from (suc at) (drop (at + 1) cs)) refl)
  many (Some i) at a h l e m = rw (h.slots ∙ ap (more i (leaf h.pair)) (slots_next at at (Some a) l e)) refl

-- the shape of the child at an index
pub stands : {K V : Type 0} (children : List (Node K V)) (at : ℕ) (c node : Node K V) (s : Option (Shape (K × V))) → at < length children → get_or children at c ≡ node → shape_of node ≡ s → get_or (map shape_of children) at s ≡ s
stands children at c node s l e h = get_or-map shape_of children at c s l ∙ ap shape_of e ∙ h

-- one more child that stands there makes a branch
pub one_more : {K V : Type 0} (children : List (Node K V)) (o : Option ℕ) (at : ℕ) (c node : Node K V) (a : Shape (K × V)) → IsOnly (map shape_of children) o at → at < length children → get_or children at c ≡ node → shape_of node ≡ Some a
    → ((rest : Slots (K × V)) → o ≡ None → whole (more at a rest) ≡ Some (branch (more at a rest)))
    → whole (slots_from 0 (map shape_of children)) ≡ Some (branch (slots_from 0 (map shape_of children)))
one_more children o at c node a h l e s m =
    let mapped : at < length (map shape_of children) = omega (arith, l, length-map children shape_of) in
    many (map shape_of children) o at a h mapped (stands children at c node (Some a) l e s) m
