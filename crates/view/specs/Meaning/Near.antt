-- How near a float is to A + B·root two over 2 to the s, by whole numbers and squares; and which float it is.
use Rattle.std.specs.Prelude.{◌≡◌, Bool, true, false, ℕ, ◌-◌, ◌*◌, ◌^◌, ◌≤◌, ℤ, pos, negsuc, neg_ℤ, nat_abs, ◌-ℤ◌, ◌*ℤ◌, Float}
use Rattle.std.specs.Float.{binary64}
use Rattle.std.specs.Float.Ieee.{round, add, mul, of_int, of_bits}
use Rattle.std.specs.Float.Ieee.Exact.{HasValue}
use Rattle.exact.specs.Meaning.Number.{up, down}
use Rattle.view.specs.Meaning.Surd.{Surd}

-- p is at most q·root two; `up z` is z where z is above 0, `down z` is -z where z is below 0, and each is 0 elsewhere
pub record AtMost (p q : ℤ) : Type 0 where
  pub upper : up p * up p ≤ 2 * (up q * up q)
  pub lower : 2 * (down q * down q) ≤ down p * down p

-- 2 to the -1074, the smallest f64 above 0, is the unit: every finite f64 is a whole number of it, and so is a whole number over 2 to the s
abbrev pub smallest : ℕ
smallest = 1074

abbrev pub units : ℕ → ℤ → ℤ
units s a = a *ℤ pos (2 ^ (smallest - s))

abbrev pub is_neg : ℤ → Bool
is_neg (pos n) = false
is_neg (negsuc n) = true

-- 2 to the -50, in units
abbrev pub tolerance : ℕ
tolerance = 2 ^ (smallest - 50)

-- r is finite and no -0, and neither r - (A + B·root two) / 2^s nor its negative is over 2 to the -50
pub record Near (q : Surd) (r : Float) : Type 0 where
  pub r_units : ℤ
  pub value : HasValue r (is_neg r_units) (nat_abs r_units) (2 ^ smallest)
  pub most : AtMost (r_units -ℤ units q.s q.A -ℤ pos tolerance) (units q.s q.B)
  pub least : AtMost (units q.s q.A -ℤ r_units -ℤ pos tolerance) (neg_ℤ (units q.s q.B))

-- ---- which float
-- the f64 nearest to root two
abbrev pub root_two : Float
root_two = of_bits binary64 0x3ff6_a09e_667f_3bcd

-- 2 to the -s
abbrev pub half^ : ℕ → Float
half^ s = round binary64 false 1 (2 ^ s)

-- one rounded product by the root-two constant, one rounded sum, and the scaling by 2 to the -s
unfoldable pub rounded : Surd → Float
rounded q = mul binary64 (add binary64 (of_int binary64 q.A) (mul binary64 (of_int binary64 q.B) root_two)) (half^ q.s)

-- the float that stands for A + B·root two over 2 to the s
pub record Shows (q : Surd) (r : Float) : Type 0 where
  pub near : Near q r
  pub is : r ≡ rounded q
