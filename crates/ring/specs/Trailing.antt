-- A number's size by -1 - x and one more, and its trailing zeros: a lemma for each need and each return. Assumes nothing.
use Rattle.std.specs.Prelude.{◌≡◌, true, false, ℕ, ◌+◌, ◌<◌, T, ℤ, pos, negsuc, nat_abs, ◌-ℤ◌}
use Rattle.std.proofs.Common.{sym, ◌∙◌, ap, arith, ltb-true, Fits, SFits, to_z-of_z}
use Rattle.std.specs.Int.Count.{count_trailing_zeros}
use Rattle.std.specs.Int.Signed.{lt_z, non_neg}
use Rattle.std.specs.Int.{w8, w64}
use Rattle.exact.proofs.Whole.Parity.{false_true}
use Rattle.exact.proofs.Whole.Machine.{held}
use Rattle.exact.proofs.Whole.Flipped.{flipped, flip_held}
use Rattle.exact.specs.Whole.Twos.{Zeros}
use Rattle.exact.proofs.Whole.Twos.{zeros_none, zeros_some}

-- ---- below 0
below_size : (x : ℤ) → SFits w64 x → lt_z x (pos 0) ≡ true
    → T (non_neg (flipped x)) × (nat_abs (flipped x) + 1 ≡ nat_abs x) × (nat_abs (flipped x) < 9223372036854775808)
below_size (pos n) f e = let h : n < 0 = ltb-true n 0 e in absurd (omega arith)
below_size (negsuc n) f e = (tt, omega arith, omega (arith, f.sfits))

above_cast : (x : ℤ) → SFits w64 x → lt_z x (pos 0) ≡ false → T (non_neg x) × Fits w64 (nat_abs x)
above_cast (pos n) f e = (tt, record { fits = omega (arith, f.sfits) })
above_cast (negsuc n) f e = absurd (false_true (sym e))

module _ (x : ℤ) (f : SFits w64 x) where
  abbrev y : ℤ
  y = held w64 (negsuc 0 -ℤ held w64 x)

  module _ (e : lt_z (held w64 x) (pos 0) ≡ true) where
    sizes : T (non_neg (flipped x)) × (nat_abs (flipped x) + 1 ≡ nat_abs x) × (nat_abs (flipped x) < 9223372036854775808)
    sizes = below_size x f (rw (to_z-of_z f) at e)

    pub flip_cast : T (non_neg y) × Fits w64 (nat_abs y)
    flip_cast = rw (flip_held x f) (sizes.0, record { fits = omega (arith, sizes.2) })

    pub flip_more : Fits w64 (nat_abs y + 1)
    flip_more = rw (flip_held x f) (record { fits = omega (arith, sizes.2) })

    pub flip_size : nat_abs y + 1 ≡ nat_abs x
    flip_size = ap (λ z. nat_abs z + 1) (flip_held x f) ∙ sizes.1

  -- ---- not below 0
  pub size_cast : lt_z (held w64 x) (pos 0) ≡ false → T (non_neg (held w64 x)) × Fits w64 (nat_abs (held w64 x))
  size_cast e = rw (to_z-of_z f) (above_cast x f (rw (to_z-of_z f) at e))

  pub size_is : nat_abs (held w64 x) ≡ nat_abs x
  size_is = ap nat_abs (to_z-of_z f)

  -- ---- trailing zeros; s is the size
  module _ (s : ℕ) (is : s ≡ nat_abs (held w64 x)) where
    pub none_left : s ≡ 0 → Zeros x 0
    none_left = zeros_none x s (is ∙ size_is)

    module _ (some : s ≡ 0 → ⊥) where
      pub counted : Zeros x (count_trailing_zeros 64 s)
      counted = zeros_some x s f (is ∙ size_is) some

      pub count_cast : Fits w8 (count_trailing_zeros 64 s)
      count_cast = record { fits = omega (arith, counted.few) }
