-- Pairs that ascend are fixed by what is found at each key.
use Rattle.std.proofs.Common.{true, false, ◌≡◌, ℕ, Bool, cond, List, [], ◌∷◌, Some, Ordering, refl, sym, ap, ap₂, ◌∙◌}
use Rattle.std.specs.declared.cmp.Ordering.TheVariants.{Less, Equal, Greater}
use Rattle.std.specs.Ordering.{is_eq, ordering_reverse}
use Rattle.std.specs.Cmp.{IsTotalOrder}
use Rattle.std.specs.BTreeMap.{is_at}
use Rattle.std.specs.List.{AllZip}
use Rattle.std.specs.Map.{lookup}
use Rattle.std.specs.Option.{is_some, unwrap_or}
use Rattle.std.proofs.lemmas.Cmp.{alike_right, tied_itself}
use Rattle.std.proofs.lemmas.List.Elements.{same_from_all_zip}
use Rattle.kv_trie.specs.Form.{Each, Ascends, order}
use Rattle.kv_trie.specs.Same.{HaveOneEntry}
use Rattle.kv_trie.proofs.Changes.{order_tied, equal_from_is_eq}
use Rattle.kv_trie.proofs.Lists.{below_all}
use Rattle.kv_trie.proofs.Maps.{order_total, found_in_order, past_first}

module _ {K V : Type 0} {R : K → K → Ordering} (total : IsTotalOrder R) where
  -- the first is found
  found_first : (e : K × V) (es : List (K × V)) → lookup (is_at (R e.0)) (e ∷ es) ≡ Some e.1
  found_first e es = rw (tied_itself total e.0) refl

  inside : (x y : V) → Some x ≡ Some y → x ≡ y
  inside x y h = ap (λ o. unwrap_or o x) h

  -- ---- lists with the same value at each key

  tail_step : (x y : K × V) (xs ys : List (K × V)) (q : K) (t : Bool) → R x.0 y.0 ≡ Equal → is_eq (R q x.0) ≡ t → Each (λ f. R x.0 f.0 ≡ Less) xs → Each (λ f. R y.0 f.0 ≡ Less) ys → cond t (Some x.1) (lookup (is_at (R q)) xs) ≡ cond t (Some y.1) (lookup (is_at (R q)) ys) → lookup (is_at (R q)) xs ≡ lookup (is_at (R q)) ys
  tail_step x y xs ys q true tied t a b h =
      let k = equal_from_is_eq (R q x.0) t in
      past_first total q q x xs k a ∙ sym (past_first total q q y ys (sym (alike_right total x.0 y.0 q tied) ∙ k) b)
  tail_step x y xs ys q false tied t a b h = h

  -- they have so behind the first
  same_tails : (x y : K × V) (xs ys : List (K × V)) → R x.0 y.0 ≡ Equal → Each (λ f. R x.0 f.0 ≡ Less) xs → Each (λ f. R y.0 f.0 ≡ Less) ys → ((q : K) → lookup (is_at (R q)) (x ∷ xs) ≡ lookup (is_at (R q)) (y ∷ ys)) → (q : K) → lookup (is_at (R q)) xs ≡ lookup (is_at (R q)) ys
  same_tails x y xs ys tied a b h q =
      let same : is_eq (R q y.0) ≡ is_eq (R q x.0) = ap is_eq (sym (alike_right total x.0 y.0 q tied)) in
      tail_step x y xs ys q (is_eq (R q x.0)) tied refl a b (rw same at (h q))

  first_step : (x y : K × V) (xs ys : List (K × V)) (o : Ordering) → R x.0 y.0 ≡ o → Ascends R (x ∷ xs) → Ascends R (y ∷ ys) → ((q : K) → lookup (is_at (R q)) (x ∷ xs) ≡ lookup (is_at (R q)) (y ∷ ys)) → (((q : K) → lookup (is_at (R q)) xs ≡ lookup (is_at (R q)) ys) → AllZip (HaveOneEntry R) xs ys) → AllZip (HaveOneEntry R) (x ∷ xs) (y ∷ ys)
  first_step x y xs ys Less o a b h r =
      let never : true ≡ false = ap is_some (sym (found_first x xs) ∙ h x.0 ∙ below_all total x.0 y ys o b.0) in
      cc
  first_step x y xs ys Greater o a b h r =
      let below : R y.0 x.0 ≡ Less = total.antisymm y.0 x.0 ∙ ap ordering_reverse o in
      let never : true ≡ false = ap is_some (sym (found_first y ys) ∙ sym (h y.0) ∙ below_all total y.0 x xs below a.0) in
      cc
  first_step x y xs ys Equal o a b h r =
      let there : lookup (is_at (R x.0)) (y ∷ ys) ≡ Some y.1 = rw o refl in
      ((o, inside x.1 y.1 (sym (found_first x xs) ∙ h x.0 ∙ there)), r (same_tails x y xs ys o a.0 b.0 h))

  pub same_entries : (xs ys : List (K × V)) → Ascends R xs → Ascends R ys → ((q : K) → lookup (is_at (R q)) xs ≡ lookup (is_at (R q)) ys) → AllZip (HaveOneEntry R) xs ys
  same_entries [] [] a b h = tt
  same_entries [] (y ∷ ys) a b h =
      let never : false ≡ true = ap is_some (h y.0 ∙ found_first y ys) in
      cc
  same_entries (x ∷ xs) [] a b h =
      let never : true ≡ false = ap is_some (sym (found_first x xs) ∙ h x.0) in
      cc
  same_entries (x ∷ xs) (y ∷ ys) a b h = first_step x y xs ys (R x.0 y.0) refl a b h (same_entries xs ys a.1 b.1)

-- ---- in a trie's own order

AllZip-weaker : {A : Type 0} (Q R : A → A → Type 0) → ((x y : A) → Q x y → R x y) → (xs ys : List A) → AllZip Q xs ys → AllZip R xs ys
AllZip-weaker Q R f [] [] h = tt
AllZip-weaker Q R f [] (y ∷ ys) h = h
AllZip-weaker Q R f (x ∷ xs) [] h = h
AllZip-weaker Q R f (x ∷ xs) (y ∷ ys) h = (f x y h.0, AllZip-weaker Q R f xs ys h.1)

module _ {K V : Type 0} {cmp : K → K → Ordering} (total : IsTotalOrder cmp) (place : K → ℕ) (respects : (a b : K) → cmp a b ≡ Equal → place a ≡ place b) where
  -- entries that ascend in the trie's own order, with the same value at each key, are alike at each place
  pub same_entries_in_order : (xs ys : List (K × V)) → Ascends (order cmp place 7) xs → Ascends (order cmp place 7) ys → ((q : K) → lookup (is_at (cmp q)) xs ≡ lookup (is_at (cmp q)) ys) → AllZip (HaveOneEntry cmp) xs ys
  same_entries_in_order xs ys a b h =
      AllZip-weaker (HaveOneEntry (order cmp place 7)) (HaveOneEntry cmp) (λ x y e. (order_tied cmp place 7 x.0 y.0 e.0, e.1)) xs ys
      (same_entries (order_total total place 7) xs ys a b (λ q. found_in_order total place respects 7 q q xs ∙ h q ∙ sym (found_in_order total place respects 7 q q ys)))

  -- where a key is tied with itself alone, they are one list
  pub one_list : ((a b : K) → cmp a b ≡ Equal → a ≡ b) → (xs ys : List (K × V)) → Ascends (order cmp place 7) xs → Ascends (order cmp place 7) ys → ((q : K) → lookup (is_at (cmp q)) xs ≡ lookup (is_at (cmp q)) ys) → xs ≡ ys
  one_list strict xs ys a b h =
      sym (same_from_all_zip (HaveOneEntry cmp) xs ys (same_entries_in_order xs ys a b h) (λ x y e. sym (pair_same x y (strict x.0 y.0 e.0) e.1)))
    where
      pair_same : (x y : K × V) → x.0 ≡ y.0 → x.1 ≡ y.1 → x ≡ y
      pair_same x y h k = ap₂ (λ a b. (a, b)) h k
