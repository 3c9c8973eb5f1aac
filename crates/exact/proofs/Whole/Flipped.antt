-- -1 - x, which fits whatever signed width x fits, and is not below 0 where x is. Assumes nothing.
use Rattle.std.specs.Prelude.{◌≡◌, ℤ, pos, negsuc, ◌-ℤ◌}
use Rattle.std.proofs.Common.{◌∙◌, ap, arith, SFits, to_z-of_z}
use Rattle.std.specs.Int.{Width}
use Rattle.exact.proofs.Whole.Linear.{int}
use Rattle.exact.proofs.Whole.Linear.{difference}
use Rattle.exact.proofs.Whole.Machine.{held}

abbrev pub flipped : ℤ → ℤ
flipped (pos n) = negsuc n
flipped (negsuc n) = pos n

flip_is : (x : ℤ) → negsuc 0 -ℤ x ≡ flipped x
flip_is (pos n) = omega (arith, int, difference (negsuc 0) (pos n))
flip_is (negsuc n) = omega (arith, int, difference (negsuc 0) (negsuc n))

-- ---- as a program has it: each number read back from its bits
module _ {w : Width} where
  pub flipped_fits : (x : ℤ) → SFits w x → SFits w (flipped x)
  flipped_fits (pos n) f = record { sfits = f.sfits }
  flipped_fits (negsuc n) f = record { sfits = f.sfits }

  pub flip_fits : (x : ℤ) → SFits w x → SFits w (negsuc 0 -ℤ held w x)
  flip_fits x f = rw (to_z-of_z f, flip_is x) (flipped_fits x f)

  pub flip_held : (x : ℤ) → SFits w x → held w (negsuc 0 -ℤ held w x) ≡ flipped x
  flip_held x f = to_z-of_z (flip_fits x f) ∙ ap (λ z. negsuc 0 -ℤ z) (to_z-of_z f) ∙ flip_is x
