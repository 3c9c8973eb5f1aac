-- Where refusals 3, 4 and 5 are passed, the exponent and the coefficients are in their limits and the triple is unitary. Assumes nothing.
use Rattle.std.specs.Prelude.{◌≡◌, refl, Bool, true, false, ℕ, ◌^◌, ◌≤◌, T, eqb, leb, ℤ, pos, negsuc, nat_abs, ◌+ℤ◌, ◌≤ℤ◌}
use Rattle.std.proofs.Common.{ap, arith, eqb-true, leb→le, le→leb}
use Rattle.std.proofs.lemmas.Bool.{eqb-false}
use Rattle.std.specs.Int.Signed.{le_z}
use Rattle.exact.specs.Meaning.Number.{Ω, ints, Sized}
use Rattle.exact.specs.Meaning.Triple.{squares, crosses, Unitary}
use Rattle.exact.specs.Meaning.Limits.{deepest, largest}
use Rattle.exact.specs.Meaning.Refusals.{handed_in, InExponents, InCoefficients, checks}
use Rattle.exact.proofs.Outcomes.Ladder.{Passed, Placeless, OnePlace}
use Rattle.exact.proofs.Outcomes.Places.{one_plain}

pub record Taken (k : ℤ) (z w : Ω) : Type 0 where
  pub exponent_in : InExponents k
  pub coefficients_in : InCoefficients z w
  pub unitary_there : (n : ℕ) → Unitary (handed_in k n z w)

-- ---- what is not false is true, where a test decides
stable : (b : Bool) → ((T b → ⊥) → ⊥) → T b
stable true h = tt
stable false h = absurd (h (λ t. t))

stable_le : (m n : ℕ) → ((m ≤ n → ⊥) → ⊥) → m ≤ n
stable_le m n h = leb→le m n (stable (leb m n) (λ f. h (λ l. f (le→leb m n l))))

stable_nat : (m n : ℕ) → ((m ≡ n → ⊥) → ⊥) → m ≡ n
stable_nat m n h = go (eqb m n) refl
  where
    go : (b : Bool) → eqb m n ≡ b → m ≡ n
    go true e = eqb-true m n e
    go false e = absurd (h (eqb-false m n e))

stable_int : (x y : ℤ) → ((x ≡ y → ⊥) → ⊥) → x ≡ y
stable_int (pos m) (pos n) h = ap pos (stable_nat m n (λ f. h (λ e. f (cc))))
stable_int (pos m) (negsuc n) h = absurd (h (λ e. let z : ◌≡◌ {A = ℕ} 0 1 = cc in omega arith))
stable_int (negsuc m) (pos n) h = absurd (h (λ e. let z : ◌≡◌ {A = ℕ} 0 1 = cc in omega arith))
stable_int (negsuc m) (negsuc n) h = ap negsuc (stable_nat m n (λ f. h (λ e. f (cc))))

stable_sized : (x : Ω) → ((Sized largest x → ⊥) → ⊥) → Sized largest x
stable_sized x h =
    record {
      a_small = stable_le (nat_abs x.a) largest (λ f. h (λ s. f s.a_small));
      b_small = stable_le (nat_abs x.b) largest (λ f. h (λ s. f s.b_small));
      c_small = stable_le (nat_abs x.c) largest (λ f. h (λ s. f s.c_small));
      d_small = stable_le (nat_abs x.d) largest (λ f. h (λ s. f s.d_small));
    }

-- ---- the three refusals
module _ (k : ℤ) (z w : Ω) where
  pub checks_taken : Passed (checks k z w) → Taken k z w
  checks_taken h =
      record {
        exponent_in = record { low = low; high = high };
        coefficients_in =
            record { z_in = stable_sized z (λ f. not_small (λ i. f i.z_in)); w_in = stable_sized w (λ f. not_small (λ i. f i.w_in)) };
        unitary_there = λ n. record { squares_sum = squares_sum; crosses_sum = crosses_sum };
      }
    where
      not_in : (InExponents k → ⊥) → ⊥
      not_in f = h.0 0 (f, refl)

      low : pos 0 ≤ℤ k
      low = record { le = stable (le_z (pos 0) k) (λ f. not_in (λ i. f i.low.le)) }

      high : k ≤ℤ pos deepest
      high = record { le = stable (le_z k (pos deepest)) (λ f. not_in (λ i. f i.high.le)) }

      not_small : (InCoefficients z w → ⊥) → ⊥
      not_small f = h.1.0 0 (f, refl)

      not_unitary : (Unitary (handed_in k 0 z w) → ⊥) → ⊥
      not_unitary f = h.1.1.0 0 (f, refl)

      squares_sum : squares ints z +ℤ squares ints w ≡ pos (2 ^ nat_abs k)
      squares_sum = stable_int _ _ (λ f. not_unitary (λ u. f u.squares_sum))

      crosses_sum : crosses ints z +ℤ crosses ints w ≡ pos 0
      crosses_sum = stable_int _ _ (λ f. not_unitary (λ u. f u.crosses_sum))

  pub taken_checks : Taken k z w → Passed (checks k z w)
  taken_checks t = ((λ p h. h.0 t.exponent_in), ((λ p h. h.0 t.coefficients_in), ((λ p h. h.0 (t.unitary_there 0)), tt)))

  pub checks_placeless : Placeless (checks k z w)
  checks_placeless = (((λ e. omega arith), (λ p h. h.1)), (((λ e. omega arith), (λ p h. h.1)), (((λ e. omega arith), (λ p h. h.1)), tt)))

  pub checks_one : OnePlace (checks k z w)
  checks_one = (one_plain, (one_plain, (one_plain, tt)))
