-- What the parities of a ring number's coefficients, as the machine finds them, say: whether root two divides it, and its residue.
-- Assumes nothing.
use Rattle.std.specs.Prelude.{◌≡◌, refl, Bool, true, false, not, ◌&&◌, ℕ, ◌+◌, ◌*◌, ◌^◌, ℤ, ◌+ℤ◌}
use Rattle.std.proofs.Common.{sym, ◌∙◌, ap}
use Rattle.std.specs.Int.{w64}
use Rattle.exact.specs.Meaning.Number.{odd, bit, residue}
use Rattle.exact.proofs.Whole.Parity.{false_true}
use Rattle.exact.proofs.Whole.Machine.{arg, ◌∔◌, held}
use Rattle.exact.specs.Algebra.Over.{divides}
use Rattle.ring.specs.Code.{is₁}
use Rattle.ring.specs.Meaning.{quad}
use Rattle.ring.specs.Number.{Small}
use Rattle.ring.specs.declared.ZOmega.{ZOmega}

-- ---- what the first test says of both
then : (p q : Bool) → not p ≡ true → not q ≡ not p && not q
then true q e = absurd (false_true e)
then false q e = refl

else : (p q : Bool) → not p ≡ false → not p ≡ not p && not q
else true q e = refl
else false q e = absurd (false_true (sym e))

-- ---- both sums are even, or the first is not; p and q are what the tests found
abbrev odd_sum : ℤ → ℤ → Bool
odd_sum y z = odd (held w64 (held w64 y +ℤ held w64 z))

module _ (x : ZOmega) (s : Small x) where
  sum_bd : odd_sum x.b x.d ≡ odd (x.b +ℤ x.d)
  sum_bd = ap odd (is₁ (2 ^ 31) (arg 1 ∔ arg 3) tt x s.sized)

  sum_ca : odd_sum x.c x.a ≡ odd (x.c +ℤ x.a)
  sum_ca = ap odd (is₁ (2 ^ 31) (arg 2 ∔ arg 0) tt x s.sized)

  pub first_even : (p q : Bool) → p ≡ odd_sum x.b x.d → not p ≡ true → q ≡ odd_sum x.c x.a → not q ≡ divides (quad x)
  first_even p q e h f = rw (f ∙ sum_ca) (then (odd (x.b +ℤ x.d)) (odd (x.c +ℤ x.a)) (rw (e ∙ sum_bd) at h))

  pub first_odd : (p : Bool) → p ≡ odd_sum x.b x.d → not p ≡ false → not p ≡ divides (quad x)
  first_odd p e h = rw (e ∙ sum_bd) (else (odd (x.b +ℤ x.d)) (odd (x.c +ℤ x.a)) (rw (e ∙ sum_bd) at h))

-- ---- the four bits, one after the other
abbrev bit_of : ℤ → ℕ
bit_of z = bit (odd (held w64 z))

module _ (x : ZOmega) (small : Small x) (p q r s : ℕ) where
  pub four_bits : p ≡ bit_of x.a → q ≡ bit_of x.b → r ≡ bit_of x.c → s ≡ bit_of x.d → p * 8 + q * 4 + r * 2 + s ≡ residue (quad x)
  four_bits e f g h =
      rw (
        e,
        f,
        g,
        h,
        is₁ (2 ^ 31) (arg 0) tt x small.sized,
        is₁ (2 ^ 31) (arg 1) tt x small.sized,
        is₁ (2 ^ 31) (arg 2) tt x small.sized,
        is₁ (2 ^ 31) (arg 3) tt x small.sized,
      )
