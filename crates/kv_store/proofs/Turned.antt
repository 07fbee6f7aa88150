-- No two revisions share a place, since turned twice a revision is itself.
use Rattle.std.proofs.Common.{◌≡◌, ℕ, ◌+◌, ◌*◌, ◌/◌, ◌%◌, ◌<◌, refl, sym, ap, ◌∙◌, arith}
use Rattle.std.proofs.lemmas.Nat.{mod_below}
use Rattle.kv_store.specs.Places.{place_of_revision}

-- five digits below a rest, the first of them highest
abbrev joined : (a b c d e f : ℕ) → ℕ
joined a b c d e f = a * 1048576 + (b * 32768 + (c * 1024 + (d * 32 + (e + f * 33554432))))

module _ (a b c d e f : ℕ) (aa : a < 32) (bb : b < 32) (cc : c < 32) (dd : d < 32) (ee : e < 32) where
  fifth : joined a b c d e f % 32 ≡ e
  fifth = omega (arith, ee)

  fourth : joined a b c d e f / 32 % 32 ≡ d
  fourth = omega (arith, ee, dd)

  third : joined a b c d e f / 1024 % 32 ≡ c
  third = omega (arith, ee, dd, cc)

  second : joined a b c d e f / 32768 % 32 ≡ b
  second = omega (arith, ee, dd, cc, bb)

  first : joined a b c d e f / 1048576 % 32 ≡ a
  first = omega (arith, ee, dd, cc, bb, aa)

  rest : joined a b c d e f / 33554432 ≡ f
  rest = omega (arith, ee, dd, cc, bb, aa)

  turned : place_of_revision (joined a b c d e f) ≡ joined e d c b a f
  unfolding place_of_revision
  turned = rw (fifth, fourth, third, second, first, rest) refl

digits : (n : ℕ) → n ≡ joined (n / 1048576 % 32) (n / 32768 % 32) (n / 1024 % 32) (n / 32 % 32) (n % 32) (n / 33554432)
digits n = omega arith

twice : (n : ℕ) → place_of_revision (place_of_revision n) ≡ n
unfolding place_of_revision
twice n =
    turned (n % 32) (n / 32 % 32) (n / 1024 % 32) (n / 32768 % 32) (n / 1048576 % 32) (n / 33554432) (mod_below n 32 (omega arith)) (mod_below (n / 32) 32 (omega arith)) (mod_below (n / 1024) 32 (omega arith)) (mod_below (n / 32768) 32 (omega arith)) (mod_below (n / 1048576) 32 (omega arith))
    ∙ sym (digits n)

pub apart : (m n : ℕ) → place_of_revision m ≡ place_of_revision n → m ≡ n
apart m n h = sym (twice m) ∙ ap place_of_revision h ∙ twice n
