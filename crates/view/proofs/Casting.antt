-- An integer of magnitude up to 2 ^ 53 as an f64. Assumes nothing.
use Prim.Native.Nat.{suc, ◌^◌, ◌≤◌, ◌<◌}
use native.Mathlib.Nat.{zero-lt-suc}
use lib.IntN.{ℤ, pos, negsuc, nat_abs}
use lib.Dec.{T, le→leb, lt→ltb}
use lib.Ieee.{binary64, of_int, in_float}
use lib.Ieee.Exact.{HasValue}
use lib.Ieee.Back.{round_whole}
use Rattle.view.specs.Meaning.Near.{is_neg}

pub in_float_lem : (z : ℤ) → nat_abs z ≤ 2 ^ 53 → T (in_float binary64 z)
unfolding in_float
in_float_lem (pos n) h = le→leb n (2 ^ 53) h
in_float_lem (negsuc n) h = lt→ltb n (2 ^ 53) h

pub cast_value : (z : ℤ) → nat_abs z ≤ 2 ^ 53 → HasValue (of_int binary64 z) (is_neg z) (nat_abs z) 1
unfolding of_int
cast_value (pos n) h = round_whole binary64 _ n h
cast_value (negsuc n) h = round_whole binary64 _ (suc n) h

pub neg_positive : (z : ℤ) → T (is_neg z) → 0 < nat_abs z
neg_positive (pos n) t = absurd t
neg_positive (negsuc n) t = zero-lt-suc n
