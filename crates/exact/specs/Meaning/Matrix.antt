-- Matrices (docs/SCOPE.md, Triples): two by two, of ring numbers, over a power of root two; the least such power; and which differ by a power of
-- omega.
use Rattle.std.specs.Prelude.{◌≡◌, ℕ, ◌+◌, ◌≤◌, pos}
use Rattle.exact.specs.Meaning.Number.{Ops, Quad, ints, omegas, conj_q, Ω, omega^, root2^}

-- [p q; r s]
pub record Mat (A : Type 0) : Type 0 where
  pub p : A
  pub q : A
  pub r : A
  pub s : A

module _ (O : Ops) where
  open O use {Car, add as ◌+'◌, mul as ◌*'◌, const}

  infixl 6 ◌+'◌
  infixl 7 ◌*'◌
  abbrev pub unit_m : Mat Car
  unit_m = record { p = const (pos 1); q = const (pos 0); r = const (pos 0); s = const (pos 1) }

  abbrev pub add_m : Mat Car → Mat Car → Mat Car
  add_m x y = record { p = x.p +' y.p; q = x.q +' y.q; r = x.r +' y.r; s = x.s +' y.s }

  abbrev pub mul_m : Mat Car → Mat Car → Mat Car
  mul_m x y = record {
    p = x.p *' y.p +' x.q *' y.r;
    q = x.p *' y.q +' x.q *' y.s;
    r = x.r *' y.p +' x.s *' y.r;
    s = x.r *' y.q +' x.s *' y.s;
  }

  abbrev pub scale_m : Car → Mat Car → Mat Car
  scale_m c x = record { p = c *' x.p; q = c *' x.q; r = c *' x.r; s = c *' x.s }

-- the conjugate transposed
module _ (O : Ops) where
  abbrev pub star_m : Mat (Quad O.Car) → Mat (Quad O.Car)
  star_m x = record { p = conj_q O x.p; q = conj_q O x.r; r = conj_q O x.q; s = conj_q O x.s }

-- ---- m over root two to the e
pub record Matrix : Type 0 where
  pub m : Mat Ω
  pub e : ℕ

abbrev pub unit : Matrix
unit = record { m = unit_m omegas; e = 0 }

infixl 7 ◌·◌
abbrev pub ◌·◌ : Matrix → Matrix → Matrix
x · y = record { m = mul_m omegas x.m y.m; e = x.e + y.e }

abbrev pub star : Matrix → Matrix
star x = record { m = star_m ints x.m; e = x.e }

-- the same matrix: they agree after each is multiplied by root two to the other's exponent
pub record Same (x y : Matrix) : Type 0 where
  pub same : scale_m omegas (root2^ y.e) x.m ≡ scale_m omegas (root2^ x.e) y.m

-- a number times a matrix
abbrev pub scaled : Ω → Matrix → Matrix
scaled c x = record { m = scale_m omegas c x.m; e = x.e }

-- they differ by a power of omega: x is omega to the power times y
pub record ByOmega (x y : Matrix) : Type 0 where
  pub power : ℕ
  pub few : power ≤ 7
  pub same : Same x (scaled (omega^ power) y)

-- k is the least exponent that the matrix can be written with
pub record Least (x : Matrix) (k : ℕ) : Type 0 where
  pub written : Mat Ω
  pub same : Same x (record { m = written; e = k })
  pub least : (y : Matrix) → Same x y → k ≤ y.e
