-- Powers of two that divide a whole number: told by its bits, shared by two numbers where their `or` has them, counted by its trailing zeros,
-- and taken off by a shift. Assumes nothing.
use Rattle.std.specs.Prelude.{◌≡◌, refl, ℕ, zero, suc, ◌+◌, ◌-◌, ◌*◌, ◌/◌, ◌%◌, ◌^◌, ◌≤◌, ◌<◌, ℤ, pos, negsuc, neg_ℤ, nat_abs, ◌*ℤ◌}
use Rattle.std.proofs.Common.{sym, ◌∙◌, ap, ap₂, subst, mul_comm, mul_assoc, mul-zero, suc-mul, pow-suc, zero-add, add-one, arith, pow_pos, pow-add, SFits, Fits, of_z, to_z}
use Rattle.std.proofs.Math.Nat.{mod-add-mod, mod-one, zero-mod, div-add-mod}
use Rattle.std.proofs.Math.Arith.{digits_div, digits_mod}
use Rattle.std.specs.Int.Bits.{bit_or, or_add_and, or_zero_l}
use Rattle.std.proofs.lemmas.Nat.{or_mod, and_le_l, and_le_r, or_lt, mod-pow-add}
use Rattle.std.specs.Int.Count.{count_trailing_zeros, under}
use Rattle.std.proofs.Math.Pow.{mod-mod-pow}
use Rattle.std.specs.Int.Signed.{shr_z}
use Rattle.std.specs.Int.{w64}
use Rattle.std.proofs.Math.Facts.{of_z-to_z, Fits-of_z, sfits_to_z}
use Rattle.exact.specs.Whole.Twos.{TwoTo, Zeros}

-- ---- multiples
pub multiple : (q d : ℕ) → 0 < d → q * d % d ≡ 0
multiple q d h = subst (λ x. x % d ≡ 0) exact (digits_mod q h)
  where
    exact : q * d + 0 ≡ q * d
    exact = omega arith

quotient : (n d : ℕ) → n % d ≡ 0 → n ≡ d * (n / d)
quotient n d e = omega (arith, div-add-mod n d)

-- what a sum and one summand are multiples of, the other is
other : (a b d : ℕ) → a % d ≡ 0 → (a + b) % d ≡ 0 → b % d ≡ 0
other a b d e f = ap (λ x. x % d) (sym (zero-add b) ∙ ap (λ x. x + b) (sym e)) ∙ mod-add-mod a d b ∙ f

pow_multiple : (n m : ℕ) → m ≤ n → 2 ^ n % 2 ^ m ≡ 0
pow_multiple n m h =
    subst (λ x. x % 2 ^ m ≡ 0) (sym (pow-add 2 (n - m) m) ∙ ap (λ j. 2 ^ j) whole) (multiple (2 ^ (n - m)) (2 ^ m) (pow_pos m))
  where
    whole : n - m + m ≡ n
    whole = omega arith

-- a lower power divides too
pub less_often : (j m n : ℕ) → j ≤ m → n % 2 ^ m ≡ 0 → n % 2 ^ j ≡ 0
less_often j m n h e = sym (mod-mod-pow n (m - j) j) ∙ ap (λ x. x % 2 ^ j) (ap (λ i. n % 2 ^ i) whole ∙ e) ∙ zero-mod (2 ^ j)
  where
    whole : m - j + j ≡ m
    whole = omega arith

-- twice as far where the quotient is even
pub one_more : (m n q : ℕ) → n ≡ 2 ^ m * q → q % 2 ≡ 0 → n % 2 ^ suc m ≡ 0
one_more m n q e f = subst (λ x. x % 2 ^ suc m ≡ 0) (sym whole) (multiple (q / 2) (2 ^ suc m) (pow_pos (suc m)))
  where
    twice : q ≡ q / 2 * 2
    twice = omega arith

    whole : n ≡ q / 2 * 2 ^ suc m
    whole =
        e
        ∙ ap (λ x. 2 ^ m * x) twice
        ∙ mul_comm (2 ^ m) (q / 2 * 2)
        ∙ mul_assoc (q / 2) 2 (2 ^ m)
        ∙ ap (λ x. q / 2 * x) (mul_comm 2 (2 ^ m) ∙ sym (pow-suc 2 m))

-- ---- by the bits of a signed number
module _ (m : ℕ) (h : m ≤ 64) where
  pub two_bits : (z : ℤ) → SFits w64 z → TwoTo m z → of_z w64 z % 2 ^ m ≡ 0
  two_bits (pos n) f e = e
  two_bits (negsuc n) f e = other (suc n) (2 ^ 64 - suc n) (2 ^ m) e (subst (λ x. x % 2 ^ m ≡ 0) whole (pow_multiple 64 m h))
    where
      whole : 2 ^ 64 ≡ suc n + (2 ^ 64 - suc n)
      whole = omega (arith, f.sfits)

  pub bits_two : (z : ℤ) → SFits w64 z → of_z w64 z % 2 ^ m ≡ 0 → TwoTo m z
  bits_two (pos n) f e = e
  bits_two (negsuc n) f e = other (2 ^ 64 - suc n) (suc n) (2 ^ m) e (subst (λ x. x % 2 ^ m ≡ 0) whole (pow_multiple 64 m h))
    where
      whole : 2 ^ 64 ≡ 2 ^ 64 - suc n + suc n
      whole = omega (arith, f.sfits)

-- ---- what two numbers share, their `or` has
or_both : (a b : ℕ) → bit_or a b ≡ 0 → (a ≡ 0) × (b ≡ 0)
or_both a b e = let s = or_add_and a b in (omega (arith, and_le_r a b), omega (arith, and_le_l a b))

abbrev pub or_z : ℤ → ℤ → ℤ
or_z x y = to_z w64 (bit_or (of_z w64 x) (of_z w64 y))

module _ (x y : ℤ) (f : SFits w64 x) (g : SFits w64 y) where
  pub or_fits : Fits w64 (bit_or (of_z w64 x) (of_z w64 y))
  or_fits = record { fits = or_lt 64 (of_z w64 x) (of_z w64 y) (Fits-of_z f).fits (Fits-of_z g).fits }

  pub or_sfits : SFits w64 (or_z x y)
  or_sfits = sfits_to_z or_fits

  module _ (m : ℕ) (h : m ≤ 64) where
    low : bit_or (of_z w64 x % 2 ^ m) (of_z w64 y % 2 ^ m) ≡ of_z w64 (or_z x y) % 2 ^ m
    low = sym (ap (λ n. n % 2 ^ m) (of_z-to_z or_fits) ∙ or_mod (of_z w64 x) (of_z w64 y) m)

    pub or_each : TwoTo m (or_z x y) → TwoTo m x × TwoTo m y
    or_each e =
        let s = or_both (of_z w64 x % 2 ^ m) (of_z w64 y % 2 ^ m) (low ∙ two_bits m h (or_z x y) or_sfits e) in
        (bits_two m h x f s.0, bits_two m h y g s.1)

    pub or_all : TwoTo m x → TwoTo m y → TwoTo m (or_z x y)
    or_all d e =
        bits_two m h (or_z x y) or_sfits
        (sym low ∙ ap₂ bit_or (two_bits m h x f d) (two_bits m h y g e) ∙ or_zero_l 0)

-- ---- trailing zeros
pub record Trailing (n m k : ℕ) : Type 0 where
  pub so_often : n % 2 ^ m ≡ 0
  pub no_more : n % 2 ^ suc m ≡ 0 → ⊥
  pub few : m < k

pub trailing : (k n : ℕ) → 0 < n → n < 2 ^ k → Trailing n (count_trailing_zeros k n) k
unfolding count_trailing_zeros
trailing zero n l h = absurd (omega arith)
trailing (suc k) n l h = go (n % 2) refl (λ a b. trailing k (n / 2) a b)
  where
    t : ℕ
    t = count_trailing_zeros k (n / 2)

    part : (j : ℕ) → n % 2 ^ suc j ≡ n / 2 % 2 ^ j * 2 + n % 2
    part j = ap (λ i. n % 2 ^ i) (sym (add-one j)) ∙ mod-pow-add n j 1

    go : (r : ℕ) → n % 2 ≡ r → (0 < n / 2 → n / 2 < 2 ^ k → Trailing (n / 2) t k) → Trailing n (under r t) (suc k)
    go zero e less =
        let u = less (omega arith) (omega (arith, pow-suc 2 k)) in
        record {
          so_often = omega (arith, part t, u.so_often);
          no_more = λ f. u.no_more (omega (arith, part (suc t)));
          few = omega (arith, u.few);
        }
    go (suc r) e less = record { so_often = mod-one n; no_more = λ f. omega (arith, f); few = omega arith }

pub zeros_none : (z : ℤ) (s : ℕ) → s ≡ nat_abs z → s ≡ 0 → Zeros z 0
zeros_none z s e f =
    record { so_often = mod-one (nat_abs z); no_more = λ g h. g (nought z (sym e ∙ f)); of_zero = λ g. refl; few = omega arith }
  where
    nought : (z : ℤ) → nat_abs z ≡ 0 → z ≡ pos 0
    nought (pos n) e = ap pos e
    nought (negsuc n) e = absurd (omega arith)

pub zeros_some : (z : ℤ) (s : ℕ) → SFits w64 z → s ≡ nat_abs z → (s ≡ 0 → ⊥) → Zeros z (count_trailing_zeros 64 s)
zeros_some z s f e g =
    let t = trailing 64 s (omega (arith, g)) (omega (arith, most z f)) in
    record {
      so_often = subst (λ n. n % 2 ^ count_trailing_zeros 64 s ≡ 0) e t.so_often;
      no_more = λ h i. t.no_more (subst (λ n. n % 2 ^ suc (count_trailing_zeros 64 s) ≡ 0) (sym e) i);
      of_zero = λ h. absurd (g (e ∙ ap nat_abs h));
      few = t.few;
    }
  where
    most : (z : ℤ) → SFits w64 z → nat_abs z ≤ 2 ^ 63
    most (pos n) f = omega (arith, f.sfits)
    most (negsuc n) f = omega (arith, f.sfits)

-- ---- taken off by a shift
pub shift_times : (m : ℕ) (z : ℤ) → TwoTo m z → pos (2 ^ m) *ℤ shr_z z (2 ^ m) ≡ z
shift_times m (pos n) e = ap pos (sym (quotient n (2 ^ m) e))
shift_times m (negsuc n) e = ap (λ x. neg_ℤ (pos (2 ^ m * suc x))) quotient_is ∙ ap (λ x. neg_ℤ (pos x)) whole
  where
    q : ℕ
    q = suc n / 2 ^ m

    is : suc n ≡ 2 ^ m * q
    is = quotient (suc n) (2 ^ m) e

    some : (j : ℕ) → suc n ≡ 2 ^ m * j → j ≡ suc (j - 1)
    some zero f = absurd (omega (arith, mul-zero (2 ^ m)))
    some (suc j) f = omega arith

    split : n ≡ (q - 1) * 2 ^ m + (2 ^ m - 1)
    split = omega (arith, pow_pos m, is ∙ ap (λ x. 2 ^ m * x) (some q is) ∙ mul_comm (2 ^ m) (suc (q - 1)), suc-mul (q - 1) (2 ^ m))

    less : 2 ^ m - 1 < 2 ^ m
    less = omega (arith, pow_pos m)

    quotient_is : n / 2 ^ m ≡ q - 1
    quotient_is = ap (λ x. x / 2 ^ m) split ∙ digits_div (q - 1) less

    whole : 2 ^ m * suc (q - 1) ≡ suc n
    whole = sym (is ∙ ap (λ x. 2 ^ m * x) (some q is))
