-- A number below 0 is one less than it is above -1: the machine adds 1, and what it takes from 0 is a natural number. Assumes nothing.
use Rattle.std.specs.Prelude.{◌≡◌, refl, true, false, ℕ, zero, suc, ◌^◌, ◌<◌, T, ℤ, pos, negsuc, nat_abs, neg_ℤ, ◌+ℤ◌, ◌-ℤ◌}
use Rattle.std.proofs.Common.{sym, ◌∙◌, ap, subst, arith, ltb-true, SFits, Fits, to_z-of_z}
use Rattle.std.proofs.Math.IntN.{suc_ℤ, +ℤ_one, +ℤ_idl}
use Rattle.std.specs.Int.Signed.{lt_z, non_neg}
use Rattle.std.specs.Int.{w64}
use Rattle.exact.proofs.Whole.Machine.{held}
use Rattle.exact.proofs.Whole.Parity.{false_true}
use Rattle.exact.proofs.Whole.Size.{sfits_abs}

abbrev above : ℤ → ℤ
above x = held w64 x +ℤ pos 1

abbrev less : ℤ → ℤ
less x = pos 0 -ℤ held w64 (above x)

-- the natural number of which x is the negative, less one
pub record Below (x : ℤ) : Type 0 where
  pub size : ℕ
  pub small : size < 2 ^ 63
  pub above_fits : SFits w64 (above x)
  pub less_fits : SFits w64 (less x)
  pub is : held w64 (less x) ≡ pos size

pub below : (x : ℤ) → SFits w64 x → lt_z (held w64 x) (pos 0) ≡ true → Below x
below x f t = go x f (ap (λ (y : ℤ). lt_z y (pos 0)) (sym (to_z-of_z f)) ∙ t)
  where
    go : (x : ℤ) → SFits w64 x → lt_z x (pos 0) ≡ true → Below x
    go (pos n) f e = absurd (omega (arith, ltb-true n 0 e))
    go (negsuc n) f e =
        record {
          size = n;
          small = f.sfits;
          above_fits = af;
          less_fits = subst (SFits w64) (sym less_is) fits;
          is = ap (held w64) less_is ∙ to_z-of_z fits;
        }
      where
        above_is : above (negsuc n) ≡ suc_ℤ (negsuc n)
        above_is = ap (λ (y : ℤ). y +ℤ pos 1) (to_z-of_z f) ∙ +ℤ_one (negsuc n)

        smaller : (n : ℕ) → n < 2 ^ 63 → nat_abs (suc_ℤ (negsuc n)) < 2 ^ 63
        smaller zero h = omega arith
        smaller (suc n) h = h

        af : SFits w64 (above (negsuc n))
        af = subst (SFits w64) (sym above_is) (sfits_abs (smaller n f.sfits))

        back : (n : ℕ) → neg_ℤ (suc_ℤ (negsuc n)) ≡ pos n
        back zero = refl
        back (suc n) = refl

        less_is : less (negsuc n) ≡ pos n
        less_is = ap (λ (y : ℤ). pos 0 -ℤ y) (to_z-of_z af ∙ above_is) ∙ +ℤ_idl (neg_ℤ (suc_ℤ (negsuc n))) ∙ back n

        fits : SFits w64 (pos n)
        fits = sfits_abs f.sfits

-- casts
pub cast_of : {z : ℤ} {n : ℕ} → z ≡ pos n → n < 2 ^ 63 → T (non_neg z) × Fits w64 (nat_abs z)
cast_of e h = rw e (tt, record { fits = omega arith })

pub not_below : (x : ℤ) → SFits w64 x → lt_z (held w64 x) (pos 0) ≡ false → T (non_neg (held w64 x)) × Fits w64 (nat_abs (held w64 x))
not_below x f t = rw (to_z-of_z f) (go x f (ap (λ (y : ℤ). lt_z y (pos 0)) (sym (to_z-of_z f)) ∙ t))
  where
    go : (x : ℤ) → SFits w64 x → lt_z x (pos 0) ≡ false → T (non_neg x) × Fits w64 (nat_abs x)
    go (pos n) f e = (tt, record { fits = omega (arith, f.sfits) })
    go (negsuc n) f e = absurd (false_true (sym e))
