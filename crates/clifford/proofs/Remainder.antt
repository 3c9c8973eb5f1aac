-- The remainder from 0 up of a number read back from its bits, by the library's remainder. Assumes nothing.
use Rattle.std.specs.Prelude.{◌≡◌, refl, ℕ, ◌<◌, ℤ, pos, negsuc, nat_abs}
use Rattle.std.proofs.Common.{sym, subst, to_z-of_z}
use Rattle.std.specs.Int.Signed.{mag}
use Rattle.std.specs.Int.{w32, int_rem_euclid}
use Rattle.exact.proofs.Whole.Machine.{held}
use Rattle.clifford.specs.declared.Clifford.{Clifford}
use Rattle.clifford.specs.Meaning.{modulo, reduced, Ranged}
use Rattle.clifford.specs.Arguments.{Reduced}
use Rattle.clifford.proofs.Arguments.{reduced_ranged}

-- a number that fits is read back as it is
pub held_small : (z : ℤ) → mag z < 2147483648 → held w32 z ≡ z
held_small z h = to_z-of_z {w = w32} {z = z} (record { sfits = h })

is_modulo : (z : ℤ) (m : ℕ) → nat_abs (int_rem_euclid z (pos m)) ≡ modulo z m
is_modulo (pos n) m = refl
is_modulo (negsuc n) m = refl

-- p is the remainder of z
module _ (z p : ℤ) (m : ℕ) (s : mag z < 2147483648) (e : p ≡ int_rem_euclid (held w32 z) (pos m)) (f : mag p < 2147483648) where
  remainder : nat_abs (held w32 p) ≡ modulo z m
  remainder = rw (held_small p f, e, held_small z s) (is_modulo z m)

pub reduced_by : (a b c d p q r s : ℤ) → mag a < 2147483648 → mag b < 2147483648 → mag c < 2147483648 → mag d < 2147483648
    → p ≡ int_rem_euclid (held w32 a) (pos 3) → mag p < 2147483648
    → q ≡ int_rem_euclid (held w32 b) (pos 2) → mag q < 2147483648
    → r ≡ int_rem_euclid (held w32 c) (pos 4) → mag r < 2147483648
    → s ≡ int_rem_euclid (held w32 d) (pos 8) → mag s < 2147483648
    → Reduced a b c d (record { a = nat_abs (held w32 p); b = nat_abs (held w32 q); c = nat_abs (held w32 r); d = nat_abs (held w32 s) })
reduced_by a b c d p q r s fa fb fc fd e e' f f' g g' h h' = record { is = is; ranged = subst Ranged (sym is) (reduced_ranged a b c d) }
  where
    is : ◌≡◌ {A = Clifford} (record { a = nat_abs (held w32 p); b = nat_abs (held w32 q); c = nat_abs (held w32 r); d = nat_abs (held w32 s) })
        (reduced a b c d)
    is = λ i. record {
      a = remainder a p 3 fa e e' i;
      b = remainder b q 2 fb f f' i;
      c = remainder c r 4 fc g g' i;
      d = remainder d s 8 fd h h' i;
    }
