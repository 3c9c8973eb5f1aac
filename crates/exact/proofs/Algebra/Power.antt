-- Powers in any commutative ring: they add, and what can be cancelled once can be cancelled many times. Assumes nothing.
use Rattle.std.specs.Prelude.{◌≡◌, ℕ, zero, suc, ◌+◌}
use Rattle.std.proofs.Common.{sym, ◌∙◌, ap, zero-add, suc-add}
use Rattle.exact.specs.Meaning.Number.{Ops, power}
use Rattle.exact.proofs.Algebra.Ring.{Laws}

module _ (O : Ops) (L : Laws O) where
  open O use {Car, mul as ◌*◌}

  infixl 7 ◌*◌
  pub power_add : (x : Car) (m n : ℕ) → power O x (m + n) ≡ power O x m * power O x n
  power_add x zero n = ap (power O x) (zero-add n) ∙ sym (L.one_mul (power O x n))
  power_add x (suc m) n = ap (power O x) (suc-add m n) ∙ ap (λ y. x * y) (power_add x m n) ∙ sym (L.mul_assoc x (power O x m) (power O x n))

  pub power_cancel : (c : Car) → ((x y : Car) → c * x ≡ c * y → x ≡ y) → (n : ℕ) (x y : Car) → power O c n * x ≡ power O c n * y → x ≡ y
  power_cancel c can zero x y h = sym (L.one_mul x) ∙ h ∙ L.one_mul y
  power_cancel c can (suc n) x y h =
      power_cancel c can n x y
      (can (power O c n * x) (power O c n * y) (sym (L.mul_assoc c (power O c n) x) ∙ h ∙ L.mul_assoc c (power O c n) y))
