-- The checks of jobs 1, 4 and 7: what each test says. Assumes nothing.
use Rattle.std.specs.Prelude.{◌≡◌, refl, Bool, true, false, not, ◌&&◌, [], ◌∷◌, ℕ, ◌*◌, ◌%◌, ◌^◌, ◌≤◌, ◌<◌, T, eqb, ℤ, pos, negsuc, nat_abs, ◌-ℤ◌}
use Rattle.std.proofs.Common.{sym, ◌∙◌, ap, ap₂, subst, mod-eq_of_lt, one-mul, arith, leb-true, leb-false, ltb-true, ltb-false, eqb-true, leb→le, le→leb, pow_mono, SFits, Fits, to_z, of_z, to_z-of_z}
use Rattle.std.proofs.lemmas.Bool.{eqb-false, not-true, not-false}
use Rattle.std.specs.Int.Signed.{le_z, lt_z, non_neg, mag}
use Rattle.std.specs.Int.{w8, w64}
use Rattle.std.proofs.Math.Facts.{to_z_pos}
use Rattle.exact.specs.Meaning.Number.{ints, Sized}
use Rattle.exact.specs.Meaning.Triple.{Triple, squares, crosses, Unitary}
use Rattle.exact.specs.Meaning.Limits.{largest, deepest}
use Rattle.exact.specs.Algebra.Over.{divides}
use Rattle.exact.proofs.Whole.Linear.{int}
use Rattle.exact.proofs.Whole.Linear.{sum, difference}
use Rattle.exact.proofs.Whole.Parity.{false_true}
use Rattle.exact.proofs.Whole.Size.{sfits_abs}
use Rattle.exact.proofs.Whole.Machine.{held, arg, lit, ◌∸◌, need_by}
use Rattle.exact.proofs.Matrices.Sizes.{squares_size, crosses_size}
use Rattle.ring.specs.Meaning.{quad}
use Rattle.ring.specs.declared.ZOmega.{ZOmega}
use Rattle.exact.specs.Meaning.Outcome.{Decides}
use Rattle.exact.specs.Meaning.Refusals.{InExponents, InCoefficients, checks}
use Rattle.exact.specs.Outcomes.Ladder.{Checks}

-- ---- unitary does not ask for n
abbrev pub UnitaryAt : ℕ → ZOmega → ZOmega → Type 0
UnitaryAt k z w = Unitary (record { k = k; n = 0; z = quad z; w = quad w })

-- refusals 3, 4 and 5 by their number, or 0
abbrev pub CheckOutcome : ℤ → ZOmega → ZOmega → ℕ → Type 0
CheckOutcome k z w r = Checks (checks k (quad z) (quad w)) r

-- ---- divisibility of both
abbrev pub both_test : Triple → Bool
both_test t = divides t.z && divides t.w

-- ---- yes and no
pub refutes : {P : Type 0} → (P → ⊥) → Decides P false
refutes f = record { yes = λ e. absurd (false_true e); no = λ e. f }

pub refutes_equal : {P : Type 0} (x y : ℕ) → (x ≡ y → ⊥) → (P → ⊥) → Decides P (eqb x y)
refutes_equal x y n f = record { yes = λ e. absurd (n (eqb-true x y e)); no = λ e. f }

-- of a number x as the machine reads it back
module _ {n : ℕ} {b : Bool} (x : ℤ) (f : mag x < 2 ^ 63) (d : Decides (nat_abs (held w64 x) ≤ n) b) where
  pub met : not b ≡ false → nat_abs x ≤ n
  met t = subst (λ (y : ℤ). nat_abs y ≤ n) (to_z-of_z {w = w64} {z = x} (record { sfits = f })) (d.yes (not-false b t))

  missed : b ≡ false → nat_abs x ≤ n → ⊥
  missed t h = d.no t (subst (λ (y : ℤ). nat_abs y ≤ n) (sym (to_z-of_z {w = w64} {z = x} (record { sfits = f }))) h)

  -- where P needs it
  pub out : {P : Type 0} → (P → nat_abs x ≤ n) → not b ≡ true → Decides P false
  out g t = refutes (λ p. missed (not-true b t) (g p))

-- the last coefficient decides
module _ (x : ZOmega) (f : mag x.d < 2 ^ 63) {b : Bool} (d : Decides (nat_abs (held w64 x.d) ≤ largest) b) where
  pub last_decides : nat_abs x.a ≤ largest → nat_abs x.b ≤ largest → nat_abs x.c ≤ largest → Decides (Sized largest (quad x)) b
  last_decides a_in b_in c_in =
      record {
        yes = λ e. record { a_small = a_in; b_small = b_in; c_small = c_in; d_small = met x.d f d (rw e refl) };
        no = λ e s. missed x.d f d e s.d_small;
      }

-- of a number that the machine has as v
module _ (x v : ℤ) (is : v ≡ x) where
  pub too_low : lt_z v (negsuc 1073741823) ≡ true → nat_abs x ≤ largest → ⊥
  too_low t = go x (ap (λ (y : ℤ). lt_z y (negsuc 1073741823)) (sym is) ∙ t)
    where
      go : (x : ℤ) → lt_z x (negsuc 1073741823) ≡ true → nat_abs x ≤ largest → ⊥
      go (pos n) e h = false_true e
      go (negsuc n) e h = omega (arith, ltb-true 1073741823 n e)

  pub high_enough : lt_z v (negsuc 1073741823) ≡ false → Decides (nat_abs x ≤ largest) (le_z v (pos 1073741824))
  high_enough t = rw is (go x (ap (λ (y : ℤ). lt_z y (negsuc 1073741823)) (sym is) ∙ t))
    where
      go : (x : ℤ) → lt_z x (negsuc 1073741823) ≡ false → Decides (nat_abs x ≤ largest) (le_z x (pos 1073741824))
      go (pos n) e = record { yes = λ p. leb-true n 1073741824 p; no = λ p h. omega (arith, leb-false n 1073741824 p) }
      go (negsuc n) e = record { yes = λ p. omega (arith, ltb-false 1073741823 n e); no = λ p h. false_true (sym p) }

  pub below_zero : lt_z v (pos 0) ≡ true → InExponents x → ⊥
  below_zero t h = go x (ap (λ (y : ℤ). lt_z y (pos 0)) (sym is) ∙ t) h.low.le
    where
      go : (x : ℤ) → lt_z x (pos 0) ≡ true → T (le_z (pos 0) x) → ⊥
      go (pos n) e h = omega (arith, ltb-true n 0 e)
      go (negsuc n) e h = h

  pub over_sixty : lt_z (pos 60) v ≡ true → InExponents x → ⊥
  over_sixty t h = go x (ap (lt_z (pos 60)) (sym is) ∙ t) h.high.le
    where
      go : (x : ℤ) → lt_z (pos 60) x ≡ true → T (le_z x (pos 60)) → ⊥
      go (pos n) e h = omega (arith, ltb-true 60 n e, leb→le n 60 h)
      go (negsuc n) e h = false_true e

  pub in_exponents : lt_z v (pos 0) ≡ false → lt_z (pos 60) v ≡ false → InExponents x
  in_exponents s t = go x (ap (λ (y : ℤ). lt_z y (pos 0)) (sym is) ∙ s) (ap (lt_z (pos 60)) (sym is) ∙ t)
    where
      go : (x : ℤ) → lt_z x (pos 0) ≡ false → lt_z (pos 60) x ≡ false → InExponents x
      go (pos n) e f = record { low = record { le = le→leb 0 n (omega arith) }; high = record { le = le→leb n 60 (ltb-false 60 n f) } }
      go (negsuc n) e f = absurd (false_true (sym e))

  pub exponent_cast : InExponents x → T (non_neg v) × Fits w8 (nat_abs v)
  exponent_cast h = rw is (go x h.low.le h.high.le)
    where
      go : (x : ℤ) → T (le_z (pos 0) x) → T (le_z x (pos 60)) → T (non_neg x) × Fits w8 (nat_abs x)
      go (pos n) s t = (tt, record { fits = omega (arith, leb→le n 60 t) })
      go (negsuc n) s t = absurd s

pub exponent_size : (x : ℤ) → InExponents x → nat_abs x ≤ deepest
exponent_size x h = go x h.low.le h.high.le
  where
    go : (x : ℤ) → T (le_z (pos 0) x) → T (le_z x (pos 60)) → nat_abs x ≤ deepest
    go (pos n) s t = leb→le n 60 t
    go (negsuc n) s t = absurd s

-- ---- 2 to the k as the machine has it
pub shifted : (k : ℕ) → k ≤ deepest → to_z w64 (1 * 2 ^ k % 18446744073709551616) ≡ pos (2 ^ k)
shifted k h =
    ap (to_z w64) (ap (λ n. n % 18446744073709551616) (one-mul (2 ^ k)) ∙ mod-eq_of_lt (omega (arith, pow_mono h)))
    ∙ to_z_pos w64 (omega (arith, pow_mono h))

-- ---- equal bits
pub same_bits : (x y : ℤ) → SFits w64 x → SFits w64 y → of_z w64 x ≡ of_z w64 y → x ≡ y
same_bits x y f g e = sym (to_z-of_z f) ∙ ap (to_z w64) e ∙ to_z-of_z g

-- ---- the two sums, compared in halves
pub squares_halves : (k : ℕ) (z w : ZOmega) → UnitaryAt k z w → squares ints (quad z) ≡ pos (2 ^ k) -ℤ squares ints (quad w)
squares_halves k z w u =
    omega
    (arith, int, u.squares_sum, sum (squares ints (quad z)) (squares ints (quad w)), difference (pos (2 ^ k)) (squares ints (quad w)))

pub crosses_halves : (k : ℕ) (z w : ZOmega) → UnitaryAt k z w → crosses ints (quad z) ≡ pos 0 -ℤ crosses ints (quad w)
crosses_halves k z w u =
    omega (arith, int, u.crosses_sum, sum (crosses ints (quad z)) (crosses ints (quad w)), difference (pos 0) (crosses ints (quad w)))

pub halves_unitary : (k : ℕ) (z w : ZOmega) → squares ints (quad z) ≡ pos (2 ^ k) -ℤ squares ints (quad w)
    → crosses ints (quad z) ≡ pos 0 -ℤ crosses ints (quad w) → UnitaryAt k z w
halves_unitary k z w s c =
    record {
      squares_sum = omega (arith, int, s, sum (squares ints (quad z)) (squares ints (quad w)), difference (pos (2 ^ k)) (squares ints (quad w)));
      crosses_sum = omega (arith, int, c, sum (crosses ints (quad z)) (crosses ints (quad w)), difference (pos 0) (crosses ints (quad w)));
    }

-- ---- as the machine compares them
size_fits : {x : ℤ} → nat_abs x ≤ 2 ^ 62 → SFits w64 x
size_fits h = sfits_abs (omega arith)

module _ (k : ℕ) (z w : ZOmega) (hk : k ≤ deepest) (h : InCoefficients (quad z) (quad w)) where
  module _ (p a b : ℤ) (ep : p ≡ pos (2 ^ k)) (ea : a ≡ squares ints (quad z)) (eb : b ≡ squares ints (quad w)) where
    p_size : nat_abs p ≤ 2 ^ 60
    p_size = rw ep (pow_mono hk)

    a_size : nat_abs a ≤ 2 ^ 62
    a_size = rw ea (squares_size (quad z) h.z_in)

    b_size : nat_abs b ≤ 2 ^ 62
    b_size = rw eb (squares_size (quad w) h.w_in)

    pub squares_need : SFits w64 (held w64 p -ℤ held w64 b)
    squares_need = need_by w64 (p ∷ b ∷ []) (2 ^ 60 ∷ 2 ^ 62 ∷ []) (p_size, (b_size, tt)) (arg 0 ∸ arg 1) tt

    squares_are : held w64 p -ℤ held w64 b ≡ pos (2 ^ k) -ℤ squares ints (quad w)
    squares_are = ap₂ ◌-ℤ◌ (to_z-of_z (size_fits (omega (arith, p_size))) ∙ ep) (to_z-of_z (size_fits b_size) ∙ eb)

    pub squares_agree : of_z w64 a ≡ of_z w64 (held w64 p -ℤ held w64 b) → squares ints (quad z) ≡ pos (2 ^ k) -ℤ squares ints (quad w)
    squares_agree e = sym ea ∙ same_bits a (held w64 p -ℤ held w64 b) (size_fits a_size) squares_need e ∙ squares_are

    pub squares_differ : (of_z w64 a ≡ of_z w64 (held w64 p -ℤ held w64 b) → ⊥) → UnitaryAt k z w → ⊥
    squares_differ f u = f (ap (of_z w64) (ea ∙ squares_halves k z w u ∙ sym squares_are))

  module _ (a b : ℤ) (ea : a ≡ crosses ints (quad z)) (eb : b ≡ crosses ints (quad w)) where
    x_size : nat_abs a ≤ 2 ^ 62
    x_size = rw ea (crosses_size (quad z) h.z_in)

    y_size : nat_abs b ≤ 2 ^ 62
    y_size = rw eb (crosses_size (quad w) h.w_in)

    pub crosses_need : SFits w64 (pos 0 -ℤ held w64 b)
    crosses_need = need_by w64 (b ∷ []) (2 ^ 62 ∷ []) (y_size, tt) (lit (pos 0) ∸ arg 0) tt

    crosses_are : pos 0 -ℤ held w64 b ≡ pos 0 -ℤ crosses ints (quad w)
    crosses_are = ap (λ y. pos 0 -ℤ y) (to_z-of_z (size_fits y_size) ∙ eb)

    pub crosses_decide : squares ints (quad z) ≡ pos (2 ^ k) -ℤ squares ints (quad w)
        → Decides (UnitaryAt k z w) (eqb (of_z w64 a) (of_z w64 (pos 0 -ℤ held w64 b)))
    crosses_decide s =
        record {
          yes = λ e.
              halves_unitary k z w s
              (sym ea
              ∙ same_bits a (pos 0 -ℤ held w64 b) (size_fits x_size) crosses_need (eqb-true (of_z w64 a) (of_z w64 (pos 0 -ℤ held w64 b)) e)
              ∙ crosses_are);
          no = λ e u. eqb-false (of_z w64 a) (of_z w64 (pos 0 -ℤ held w64 b)) e (ap (of_z w64) (ea ∙ crosses_halves k z w u ∙ sym crosses_are));
        }
