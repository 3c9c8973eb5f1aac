-- The definitions at some numbers: the order against root two at both signs, where 7 < 5·root two < 8; and the parts of omega, and of 1 over
-- root two. Assumes nothing.
use Rattle.std.specs.Prelude.{◌≡◌, refl, pos, negsuc}
use Rattle.std.proofs.Common.{not-le_of_lt, lit≤, lit<}
use Rattle.exact.specs.Meaning.Number.{ints, omega', const_q}
use Rattle.view.specs.Meaning.Surd.{real, imaginary}
use Rattle.view.specs.Meaning.Near.{AtMost}

seven : AtMost (pos 7) (pos 5)
seven = record { upper = lit≤ tt; lower = lit≤ tt }

not_eight : AtMost (pos 8) (pos 5) → ⊥
not_eight h = not-le_of_lt (lit< tt) h.upper

minus_eight : AtMost (negsuc 7) (negsuc 4)
minus_eight = record { upper = lit≤ tt; lower = lit≤ tt }

not_minus_seven : AtMost (negsuc 6) (negsuc 4) → ⊥
not_minus_seven h = not-le_of_lt (lit< tt) h.lower

minus_one : AtMost (negsuc 0) (pos 0)
minus_one = record { upper = lit≤ tt; lower = lit≤ tt }

not_zero : AtMost (pos 0) (negsuc 0) → ⊥
not_zero h = not-le_of_lt (lit< tt) h.lower

-- omega is root two over 2, and as much times i
omega_real : real 0 (omega' ints) ≡ record { A = pos 0; B = pos 1; s = 1 }
omega_real = refl

omega_imaginary : imaginary 0 (omega' ints) ≡ record { A = pos 0; B = pos 1; s = 1 }
omega_imaginary = refl

-- 1 over root two
root_half : real 1 (const_q ints (pos 1)) ≡ record { A = pos 0; B = pos 1; s = 1 }
root_half = refl
