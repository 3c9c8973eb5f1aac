-- Ring numbers (docs/SCOPE.md, Numbers): (a,b,c,d) is a·omega³ + b·omega² + c·omega + d, where omega⁴ = -1.
-- Each operation is written once over any ring's operations (`Ops`); at `ints`, the whole numbers, it is SCOPE's.
use Rattle.std.specs.Prelude.{Bool, cond, ℕ, zero, suc, ◌+◌, ◌*◌, ◌%◌, ◌≤◌, eqb, ℤ, pos, negsuc, neg_ℤ, nat_abs, ◌+ℤ◌, ◌*ℤ◌}

-- what a ring has: sums, products, negatives, and the whole numbers in it
pub record Ops : Type 1 where
  pub Car : Type 0
  pub add : Car → Car → Car
  pub mul : Car → Car → Car
  pub neg : Car → Car
  pub const : ℤ → Car

abbrev pub ints : Ops
ints = record { Car = ℤ; add = ◌+ℤ◌; mul = ◌*ℤ◌; neg = neg_ℤ; const = λ a. a }

abbrev pub power : (O : Ops) → O.Car → ℕ → O.Car
power O x zero = O.const (pos 1)
power O x (suc n) = O.mul x (power O x n)

pub record Quad (A : Type 0) : Type 0 where
  pub a : A
  pub b : A
  pub c : A
  pub d : A

module _ (O : Ops) where
  open O use {Car, add as ◌+'◌, mul as ◌*'◌, neg, const}

  infixl 6 ◌+'◌
  infixl 7 ◌*'◌
  abbrev pub const_q : ℤ → Quad Car
  const_q n = record { a = const (pos 0); b = const (pos 0); c = const (pos 0); d = const n }

  abbrev pub add_q : Quad Car → Quad Car → Quad Car
  add_q x y = record { a = x.a +' y.a; b = x.b +' y.b; c = x.c +' y.c; d = x.d +' y.d }

  abbrev pub neg_q : Quad Car → Quad Car
  neg_q x = record { a = neg x.a; b = neg x.b; c = neg x.c; d = neg x.d }

  -- multiplied out, with omega⁴ = -1
  abbrev pub mul_q : Quad Car → Quad Car → Quad Car
  mul_q x y = record {
    a = x.a *' y.d +' x.b *' y.c +' x.c *' y.b +' x.d *' y.a;
    b = x.b *' y.d +' x.c *' y.c +' x.d *' y.b +' neg (x.a *' y.a);
    c = x.c *' y.d +' x.d *' y.c +' neg (x.a *' y.b +' x.b *' y.a);
    d = x.d *' y.d +' neg (x.a *' y.c +' x.b *' y.b +' x.c *' y.a);
  }

  -- complex conjugation: omega goes to its inverse, -omega³
  abbrev pub conj_q : Quad Car → Quad Car
  conj_q x = record { a = neg x.c; b = neg x.b; c = neg x.a; d = x.d }

  abbrev pub omega' : Quad Car
  omega' = record { a = const (pos 0); b = const (pos 0); c = const (pos 1); d = const (pos 0) }

  abbrev pub root2 : Quad Car
  root2 = record { a = const (negsuc 0); b = const (pos 0); c = const (pos 1); d = const (pos 0) }

  abbrev pub quads : Ops
  quads = record { Car = Quad Car; add = add_q; mul = mul_q; neg = neg_q; const = const_q }

-- ---- the ring numbers
abbrev pub Ω : Type 0
Ω = Quad ℤ

abbrev pub omegas : Ops
omegas = quads ints

abbrev pub omega^ : ℕ → Ω
omega^ = power omegas (omega' ints)

abbrev pub root2^ : ℕ → Ω
root2^ = power omegas (root2 ints)

-- ---- a residue is the four parities, a in the highest bit
abbrev pub odd : ℤ → Bool
odd z = eqb (nat_abs z % 2) 1

abbrev pub bit : Bool → ℕ
bit b = cond b 1 0

abbrev pub residue : Ω → ℕ
residue x = bit (odd x.a) * 8 + bit (odd x.b) * 4 + bit (odd x.c) * 2 + bit (odd x.d)

-- ---- each coefficient is at most n in size
pub record Sized (n : ℕ) (x : Ω) : Type 0 where
  pub a_small : nat_abs x.a ≤ n
  pub b_small : nat_abs x.b ≤ n
  pub c_small : nat_abs x.c ≤ n
  pub d_small : nat_abs x.d ≤ n

-- ---- a whole number z is up z - down z, two natural numbers of which one is 0
abbrev pub up : ℤ → ℕ
up (pos n) = n
up (negsuc n) = 0

abbrev pub down : ℤ → ℕ
down (pos n) = 0
down (negsuc n) = suc n
