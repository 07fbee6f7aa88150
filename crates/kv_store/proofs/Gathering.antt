-- What a visitor that gathers has in the end.
use Rattle.std.proofs.Common.{◌≡◌, ℕ, List, [], ◌∷◌, ◌++◌, Result, Ok, append_assoc, append-nil, refl, sym, ap, ◌∙◌}
use Rattle.std.specs.List.{flat_map}
use Rattle.kv_keys.specs.declared.error.KvError.{KvError}
use Rattle.kv_trie.specs.Shown.{Shown}

module _ {K V W : Type 0} (shows : W → K → V → Result (Unit {0}) KvError → W → Type 0) (held : W → List ℕ) (more : W → K × V → List ℕ) (says : (a : W) (k : K) (v : V) (b : W) → shows a k v (Ok tt) b → (held b ≡ held a ++ more a (k, v)) × ((p : K × V) → more b p ≡ more a p)) where
  same_more : (a b : W) → ((p : K × V) → more b p ≡ more a p) → (ps : List (K × V)) → flat_map (more b) ps ≡ flat_map (more a) ps
  same_more a b same [] = refl
  same_more a b same (p ∷ ps) = rw (same p, same_more a b same ps) refl

  -- what each pair adds, in turn, behind what it had
  pub gathered : (ps : List (K × V)) (a b : W) → Shown shows ps a b → held b ≡ held a ++ flat_map (more a) ps
  gathered [] a b h = ap held h ∙ sym (append-nil (held a))
  gathered (p ∷ ps) a b h =
      let one = says a p.0 p.1 h.0 h.1 in
      gathered ps h.0 b h.2
      ∙ ap (λ l. held h.0 ++ l) (same_more a h.0 one.1 ps)
      ∙ ap (λ l. l ++ flat_map (more a) ps) one.0
      ∙ append_assoc (held a) (more a p) (flat_map (more a) ps)
