-- Triples (docs/SCOPE.md, Triples): (z,w,n) with exponent k, the matrix that it stands for, and when it is unitary and reduced.
use Rattle.std.specs.Prelude.{◌≡◌, ℕ, ◌^◌, pos, ◌+ℤ◌}
use Rattle.exact.specs.Meaning.Number.{Ops, Quad, Ω, ints, mul_q, neg_q, conj_q, omega^}
use Rattle.exact.specs.Meaning.Matrix.{Mat, Matrix, Least}

pub record Triple : Type 0 where
  pub k : ℕ
  pub n : ℕ
  pub z : Ω
  pub w : Ω

module _ (O : Ops) where
  open O use {Car, add as ◌+'◌, mul as ◌*'◌, neg}

  infixl 6 ◌+'◌
  infixl 7 ◌*'◌
  -- rows [z, -w*·u] and [w, z*·u]; u is omega^n
  abbrev pub rows : Quad Car → Quad Car → Quad Car → Mat (Quad Car)
  rows z w u = record { p = z; q = neg_q O (mul_q O (conj_q O w) u); r = w; s = mul_q O (conj_q O z) u }

  -- a² + b² + c² + d²
  abbrev pub squares : Quad Car → Car
  squares x = x.a *' x.a +' x.b *' x.b +' x.c *' x.c +' x.d *' x.d

  -- ab + bc + cd - da
  abbrev pub crosses : Quad Car → Car
  crosses x = x.a *' x.b +' x.b *' x.c +' x.c *' x.d +' neg (x.d *' x.a)

-- the matrix: the rows over root two to the k
abbrev pub entries : Triple → Matrix
entries t = record { m = rows ints t.z t.w (omega^ t.n); e = t.k }

pub record Unitary (t : Triple) : Type 0 where
  pub squares_sum : squares ints t.z +ℤ squares ints t.w ≡ pos (2 ^ t.k)
  pub crosses_sum : crosses ints t.z +ℤ crosses ints t.w ≡ pos 0

-- k is the least exponent not below 0
pub record Reduced (t : Triple) : Type 0 where
  pub least : Least (entries t) t.k
