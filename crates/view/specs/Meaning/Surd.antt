-- The real and the imaginary part of a matrix's entry (docs/SCOPE.md, Jobs): A + B·root two over a power of two, A and B whole.
-- A ring number (a,b,c,d) is d + (c - a) over root two, and i times b + (c + a) over root two. `Tied` proves both in the ring itself.
use Rattle.std.specs.Prelude.{Bool, cond, ℕ, ◌+◌, ◌/◌, ◌%◌, eqb, ℤ, ◌+ℤ◌, ◌-ℤ◌}
use Rattle.exact.specs.Meaning.Number.{Ω}

-- A + B·root two, over 2 to the s
pub record Surd : Type 0 where
  pub A : ℤ
  pub B : ℤ
  pub s : ℕ

abbrev pub even : ℕ → Bool
even k = eqb (k % 2) 0

-- u + v over root two, over root two to the k
abbrev pub over : ℕ → ℤ → ℤ → Surd
over k u v = record { A = cond (even k) (u +ℤ u) v; B = cond (even k) v u; s = (k + 2) / 2 }

abbrev pub real : ℕ → Ω → Surd
real k x = over k x.d (x.c -ℤ x.a)

abbrev pub imaginary : ℕ → Ω → Surd
imaginary k x = over k x.b (x.c +ℤ x.a)
