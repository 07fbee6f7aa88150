-- The compact text of an object or an array, from the texts of what is inside.
use Rattle.std.proofs.Common.{◌≡◌, ℕ, true, List, [], ◌∷◌, ◌++◌, map, refl, ap, sym, ◌∙◌, append_assoc}
use Rattle.std.specs.List.{join_with_byte}
use Rattle.json.specs.Print.{quoted}
use Rattle.serde_json.specs.Data.{array, object, Items, no_items, item, Members, no_members, member}
use Rattle.serde_json.specs.Written.{compact_text, items_text, members_text}
use Rattle.kv_script.specs.Line.{Member, in_quotes, member_text, object_text, array_text}

-- each member has its name and the text of its value
abbrev pub AreMembers : Members → List Member → Type 0
AreMembers no_members [] = Unit {0}
AreMembers (member k d ms) (m ∷ members) = (quoted k ≡ in_quotes m.0) × (compact_text d ≡ m.1) × AreMembers ms members
AreMembers no_members (m ∷ members) = ⊥
AreMembers (member k d ms) [] = ⊥

abbrev pub AreItems : Items → List (List ℕ) → Type 0
AreItems no_items [] = Unit {0}
AreItems (item d ds) (text ∷ texts) = (compact_text d ≡ text) × AreItems ds texts
AreItems no_items (text ∷ texts) = ⊥
AreItems (item d ds) [] = ⊥

-- the pieces after the first, each after a comma, and the bracket at the end
abbrev tail : ℕ → List (List ℕ) → List ℕ
tail close [] = close ∷ []
tail close (piece ∷ pieces) = 44 ∷ (piece ++ tail close pieces)

joined : (close : ℕ) (piece : List ℕ) (pieces : List (List ℕ)) → join_with_byte 44 (piece ∷ pieces) ++ close ∷ [] ≡ piece ++ tail close pieces
joined close piece [] = refl
joined close piece (next ∷ pieces) = append_assoc piece _ _ ∙ ap (λ rest. piece ++ 44 ∷ rest) (joined close next pieces)

members_tail : (ms : Members) (members : List Member) → AreMembers ms members → members_text true ms ≡ tail 125 (map member_text members)
members_tail no_members [] h = refl
members_tail (member k d ms) (m ∷ members) h =
    ap (λ rest. 44 ∷ (quoted k ++ 58 ∷ (compact_text d ++ rest))) (members_tail ms members h.2)
    ∙ ap (λ name. 44 ∷ (name ++ 58 ∷ (compact_text d ++ tail 125 (map member_text members)))) h.0
    ∙ ap (λ value. 44 ∷ (in_quotes m.0 ++ 58 ∷ (value ++ tail 125 (map member_text members)))) h.1
    ∙ ap (λ text. 44 ∷ text) (sym (append_assoc (in_quotes m.0) (58 ∷ m.1) (tail 125 (map member_text members))))
members_tail no_members (m ∷ members) h = absurd h
members_tail (member k d ms) [] h = absurd h

-- an object's text, from its members'
pub compact-object : (ms : Members) (members : List Member) → AreMembers ms members → compact_text (object ms) ≡ object_text members
compact-object no_members [] h = refl
compact-object (member k d ms) (m ∷ members) h =
    ap (λ rest. 123 ∷ (quoted k ++ 58 ∷ (compact_text d ++ rest))) (members_tail ms members h.2)
    ∙ ap (λ name. 123 ∷ (name ++ 58 ∷ (compact_text d ++ tail 125 (map member_text members)))) h.0
    ∙ ap (λ value. 123 ∷ (in_quotes m.0 ++ 58 ∷ (value ++ tail 125 (map member_text members)))) h.1
    ∙ ap (λ text. 123 ∷ text) (sym (joined 125 (member_text m) (map member_text members)
    ∙ append_assoc (in_quotes m.0) (58 ∷ m.1) (tail 125 (map member_text members))))
compact-object no_members (m ∷ members) h = absurd h
compact-object (member k d ms) [] h = absurd h

items_tail : (ds : Items) (texts : List (List ℕ)) → AreItems ds texts → items_text true ds ≡ tail 93 texts
items_tail no_items [] h = refl
items_tail (item d ds) (text ∷ texts) h =
    ap (λ rest. 44 ∷ (compact_text d ++ rest)) (items_tail ds texts h.1) ∙ ap (λ first. 44 ∷ (first ++ tail 93 texts)) h.0
items_tail no_items (text ∷ texts) h = absurd h
items_tail (item d ds) [] h = absurd h

-- an array's text, from its items'
pub compact-array : (ds : Items) (texts : List (List ℕ)) → AreItems ds texts → compact_text (array ds) ≡ array_text texts
compact-array no_items [] h = refl
compact-array (item d ds) (text ∷ texts) h =
    ap (λ rest. 91 ∷ (compact_text d ++ rest)) (items_tail ds texts h.1)
    ∙ ap (λ first. 91 ∷ (first ++ tail 93 texts)) h.0
    ∙ ap (λ all. 91 ∷ all) (sym (joined 93 text texts))
compact-array no_items (text ∷ texts) h = absurd h
compact-array (item d ds) [] h = absurd h
