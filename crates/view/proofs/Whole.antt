-- The float that the code computes: a rounded product, a rounded sum, an exact scaling; and how near it is. Assumes nothing.
use mathlib.Core.Path.{◌≡◌, refl, sym, ap, ◌∙◌, subst}
use mathlib.Core.Bool.{Bool, false, cond}
use Prim.Native.Nat.{ℕ, ◌+◌, ◌-◌, ◌*◌, ◌^◌, ◌≤◌, ◌<◌}
use native.Mathlib.Nat.{le_trans, le_of_eq, lt_of_le_of_lt, mul-one, add-mul, mul_assoc, mul_comm, mul-pos}
use native.Mathlib.Omega.{arith}
use lib.IntN.{ℤ, nat_abs}
use lib.Dec.{T, lit≤, lit<}
use lib.Pow.{pow-add, pow_pos, pow_mono}
use lib.Ieee.{Float, binary64, add, mul, of_int}
use lib.Ieee.Exact.{HasValue}
use lib.Ieee.Positive.{first_pos}
use Rattle.exact.specs.Meaning.Number.{up, down}
use Rattle.view.specs.Meaning.Surd.{Surd}
use Rattle.view.specs.Meaning.Near.{root_two, half^, rounded, is_neg, tolerance, Near, Shows}
use Rattle.view.proofs.Casting.{cast_value, neg_positive}
use Rattle.view.proofs.Powers.{half_value}
use Rattle.view.proofs.Rounding.{under}
use Rattle.view.proofs.Operations.{Summed, add_near}
use Rattle.view.proofs.Units.{rescale, whole_power, at_most, room, exact, exact_is, exact_small, scale_exact, pow_up, shift_lt, reach, self}
use Rattle.view.proofs.Error.{sum_small, halve, Facts, Parts, join, up_is, down_is, Most, Least, unscale_most, unscale_least}
use Rattle.view.proofs.Product.{Product, product}
use Rattle.view.proofs.Signs.{signed, signed_is, at_most_above, at_most_below}

-- a float that is ±n units, no -0, and within 4 * 2 ^ 1021 units of (a + b√2) / 2 ^ s
pub record Valued (r : Float) (a b : ℤ) (s : ℕ) : Type 0 where
  pub neg : Bool
  pub num : ℕ
  pub value : HasValue r neg num (2 ^ 1074)
  pub below_zero : T neg → 0 < num
  pub close : Parts (cond neg 0 num) (cond neg num 0) a b (2 ^ (1074 - s)) (2 ^ 1021)

module _ (x y p : Float) (a b : ℤ) (s : ℕ) (S : s ≤ 52) (A : nat_abs a ≤ 2 ^ s) (B : nat_abs b ≤ 2 ^ s)
    (hx : HasValue x (is_neg a) (nat_abs a) 1) (hp : HasValue p false 1 (2 ^ s)) (m : Product y b s) where
  abbrev q : ℕ
  q = 2 ^ s

  abbrev v : ℕ
  v = 2 ^ (1074 - s)

  abbrev w : ℕ
  w = exact (nat_abs b) s

  a_most : nat_abs a * v ≤ 2 ^ 1074
  a_most = at_most 1074 (nat_abs a) s (room s 1074 S (lit≤ tt)) A

  b_most : nat_abs b * v ≤ 2 ^ 1074
  b_most = at_most 1074 (nat_abs b) s (room s 1074 S (lit≤ tt)) B

  -- ---- the sum, in units of which q are one
  x_value : HasValue x (is_neg a) (nat_abs a * v * q) (2 ^ 1074)
  x_value =
      rescale x (is_neg a) (nat_abs a) 1 (nat_abs a * v * q) (2 ^ 1074) (lit< tt)
      (wider (nat_abs a) v q (2 ^ 1074) (whole_power 1074 s (room s 1074 S (lit≤ tt)))) hx
    where
      wider : (n v q U : ℕ) → v * q ≡ U → n * U ≡ n * v * q * 1
      wider n v q U e = ap (λ (z : ℕ). n * z) (sym e) ∙ sym (mul_assoc n v q) ∙ sym (mul-one (n * v * q))

  small : nat_abs a * v * q + m.h * q < 2 ^ (53 + (s + 1023))
  small =
      subst (λ (z : ℕ). z < 2 ^ (53 + (s + 1023))) (add-mul (nat_abs a * v) m.h q)
      (shift_lt (nat_abs a * v + m.h) s 1076 53 1023 refl
      (sum_small (nat_abs a * v) m.h w (2 ^ 1021) (pow_pos 1021) a_most m.most (exact_small (nat_abs b) s S B)))

  the_sum : Summed binary64 (add binary64 x (mul binary64 y root_two)) (is_neg a) (nat_abs a * v * q) (is_neg b) (m.h * q) (2 ^ (s + 1023))
  the_sum =
      add_near binary64 x (mul binary64 y root_two) (is_neg a) (is_neg b) (nat_abs a * v * q) (m.h * q) (s + 1023)
      (λ t. mul-pos (mul-pos (neg_positive a t) (pow_pos (1074 - s))) (pow_pos s)) m.below_zero x_value m.value small (reach s 1023 S (lit≤ tt))

  sum_small_enough : the_sum.num < 2 ^ 2098
  sum_small_enough =
      under the_sum.num (nat_abs a * v * q + m.h * q) (2 ^ (53 + (s + 1023))) (2 ^ (s + 1023)) (2 ^ 2098) the_sum.bound small
      (pow_mono (after s)) (le_trans (le_of_eq (sym (double (53 + (s + 1023))))) (pow_mono (below s S)))
    where
      after : (s : ℕ) → s + 1023 ≤ 53 + (s + 1023)
      after s = omega arith

      double : (k : ℕ) → 2 ^ (1 + k) ≡ 2 ^ k * 2
      double k = pow-add 2 1 k ∙ mul_comm 2 (2 ^ k)

      below : (s : ℕ) → s ≤ 52 → 1 + (53 + (s + 1023)) ≤ 2098
      below s h = omega arith

  -- ---- its error, once n * q units are n
  module _ (n : ℕ) (e : the_sum.num ≡ n * q) where
    abbrev g : Bool
    g = the_sum.neg

    most : Most g (is_neg a) (is_neg b) n (nat_abs a * v) m.h (2 ^ 1023)
    most =
        unscale_most g (is_neg a) (is_neg b) n (nat_abs a * v) m.h (2 ^ 1023) q (pow_pos s)
        (subst (λ (z : ℕ). Most g (is_neg a) (is_neg b) (n * q) (nat_abs a * v * q) (m.h * q) z) (pow_up s 1023)
        (subst (λ (z : ℕ). Most g (is_neg a) (is_neg b) z (nat_abs a * v * q) (m.h * q) (2 ^ (s + 1023))) e the_sum.most))

    least : Least g (is_neg a) (is_neg b) n (nat_abs a * v) m.h (2 ^ 1023)
    least =
        unscale_least g (is_neg a) (is_neg b) n (nat_abs a * v) m.h (2 ^ 1023) q (pow_pos s)
        (subst (λ (z : ℕ). Least g (is_neg a) (is_neg b) (n * q) (nat_abs a * v * q) (m.h * q) z) (pow_up s 1023)
        (subst (λ (z : ℕ). Least g (is_neg a) (is_neg b) z (nat_abs a * v * q) (m.h * q) (2 ^ (s + 1023))) e the_sum.least))

    facts : Facts (cond g 0 n) (cond g n 0) (up a * v) (down a * v) b m.h (2 ^ 1021)
    facts =
        subst (λ (z : ℕ). Facts (cond g 0 n) (cond g n 0) z (down a * v) b m.h (2 ^ 1021)) (up_is a v)
        (subst (λ (z : ℕ). Facts (cond g 0 n) (cond g n 0) (cond (is_neg a) 0 (nat_abs a * v)) z b m.h (2 ^ 1021)) (down_is a v) (most, least))

    valued_by : Valued (mul binary64 (add binary64 x (mul binary64 y root_two)) p) a b s
    valued_by = record {
      neg = g;
      num = n;
      value =
          scale_exact (add binary64 x (mul binary64 y root_two)) p g n s the_sum.kept the_sum.drop
          (subst (λ (z : ℕ). HasValue (add binary64 x (mul binary64 y root_two)) g z (2 ^ 1074)) e the_sum.value)
          (sym e ∙ the_sum.digits) the_sum.kept_le
          (lt_of_le_of_lt (self n q (pow_pos s)) (subst (λ (z : ℕ). z < 2 ^ 2098) e sum_small_enough)) hp;
      below_zero = λ t. first_pos n q (subst (λ (z : ℕ). 0 < z) e (the_sum.below_zero t));
      close =
          join (cond g 0 n) (cond g n 0) a b v w m.h (2 ^ 1021) (exact_is (nat_abs b) s S)
          (halve m.h w (2 ^ 1021) m.most) (halve w m.h (2 ^ 1021) m.least) facts b_most;
    }

  pub valued : Valued (mul binary64 (add binary64 x (mul binary64 y root_two)) p) a b s
  valued =
      let n = the_sum.multiple (nat_abs a * v) m.h s refl refl in
      valued_by n.0 n.1

-- ---- in the words of the contracts
near_of : {r : Float} (a b : ℤ) (s : ℕ) → Valued r a b s → Near (record { A = a; B = b; s = s }) r
near_of a b s r =
    let g = signed_is r.neg r.num r.below_zero in
    let loose : 4 * 2 ^ 1021 ≤ tolerance = lit≤ tt in
    record {
      r_units = signed r.neg r.num;
      value = rw (g.0, g.1) r.value;
      most = at_most_above r.neg r.num a b (2 ^ (1074 - s)) (2 ^ 1021) tolerance loose r.close;
      least = at_most_below r.neg r.num a b (2 ^ (1074 - s)) (2 ^ 1021) tolerance loose r.close;
    }

pub wide : (z : ℤ) (s : ℕ) → s ≤ 52 → nat_abs z ≤ 2 ^ s → nat_abs z ≤ 2 ^ 53
wide z s S h = le_trans h (le_trans (pow_mono S) (lit≤ tt))

-- what code computes that casts, multiplies, adds and scales as `rounded` says
pub shows_of : (x y p : Float) (q : Surd) → q.s ≤ 52 → nat_abs q.A ≤ 2 ^ q.s → nat_abs q.B ≤ 2 ^ q.s
    → x ≡ of_int binary64 q.A → y ≡ of_int binary64 q.B → p ≡ half^ q.s
    → Shows q (mul binary64 (add binary64 x (mul binary64 y root_two)) p)
unfolding rounded
shows_of x y p q S A B ex ey ep =
    let a = of_int binary64 q.A in
    let b = of_int binary64 q.B in
    let ha = cast_value q.A (wide q.A q.s S A) in
    let hb = cast_value q.B (wide q.B q.s S B) in
    rw (ex, ey, ep) (record {
      near =
          near_of q.A q.B q.s
          (valued a b (half^ q.s) q.A q.B q.s S A B ha (half_value q.s S) (product b q.B q.s S B hb));
      is = refl;
    })
