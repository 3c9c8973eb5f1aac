-- Powers of two that divide a ring number, each of its coefficients: the quotient, and that root two divides that twice more only where the
-- next power of two divides the number. Assumes nothing.
use Rattle.std.specs.Prelude.{◌≡◌, [], ◌∷◌, ℕ, suc, ◌+◌, ◌*◌, ◌%◌, ◌^◌, ◌≤◌, ℤ, pos, nat_abs, ◌+ℤ◌, ◌*ℤ◌}
use Rattle.std.proofs.Common.{sym, ◌∙◌, ap, subst, mul-le-mul_right, one-mul, le_trans, le_of_eq, pow_pos, SFits, of_z, to_z}
use Rattle.std.specs.Int.Bits.{bit_or}
use Rattle.std.specs.Int.Signed.{shr_z}
use Rattle.std.specs.Int.{w64}
use Rattle.std.proofs.Math.Facts.{of_z-to_z}
use Rattle.exact.specs.Meaning.Number.{Ω, Quad, ints, add_q, mul_q, const_q, root2, root2^, odd, bit, Sized}
use Rattle.exact.proofs.Whole.Parity.{odd_double, bit_odd}
use Rattle.exact.proofs.Whole.Size.{nat_abs_mul}
use Rattle.exact.specs.Whole.Twos.{TwoTo}
use Rattle.exact.proofs.Whole.Twos.{one_more, or_z, or_fits, or_sfits, or_each, or_all, shift_times}
use Rattle.exact.proofs.Algebra.Ring.{ints_laws}
use Rattle.exact.proofs.Algebra.Solver.{Expr, var, con, ◌⊗◌, exprs}
use Rattle.exact.proofs.Algebra.Omega.{quad_path, root2_twice, root2^_add, X₀, parts, solve_q}
use Rattle.exact.proofs.Algebra.Norm.{two^}
use Rattle.exact.specs.Algebra.Twos.{Multiple, Shares}

pub or_shares : (x : Ω) → SFits w64 x.a → SFits w64 x.b → SFits w64 x.c → SFits w64 x.d
    → Shares x (to_z w64 (bit_or (bit_or (bit_or (of_z w64 x.a) (of_z w64 x.b)) (of_z w64 x.c)) (of_z w64 x.d)))
or_shares x fa fb fc fd =
    subst (Shares x) together
    (record {
      each = λ m l h.
          let s = or_each abc x.d f₂ fd m l h in
          let t = or_each ab x.c f₁ fc m l s.0 in
          let u = or_each x.a x.b fa fb m l t.0 in
          record { a_so = u.0; b_so = u.1; c_so = t.1; d_so = s.1 };
      all = λ m l h.
          or_all abc x.d f₂ fd m l (or_all ab x.c f₁ fc m l (or_all x.a x.b fa fb m l h.a_so h.b_so) h.c_so) h.d_so;
    })
  where
    ab : ℤ
    ab = or_z x.a x.b

    f₁ : SFits w64 ab
    f₁ = or_sfits x.a x.b fa fb

    abc : ℤ
    abc = or_z ab x.c

    f₂ : SFits w64 abc
    f₂ = or_sfits ab x.c f₁ fc

    -- what is stored in between is read back as it was
    together : or_z abc x.d ≡ to_z w64 (bit_or (bit_or (bit_or (of_z w64 x.a) (of_z w64 x.b)) (of_z w64 x.c)) (of_z w64 x.d))
    together =
        ap (λ n. to_z w64 (bit_or n (of_z w64 x.d)))
        (of_z-to_z (or_fits ab x.c f₁ fc) ∙ ap (λ n. bit_or n (of_z w64 x.c)) (of_z-to_z (or_fits x.a x.b fa fb)))

-- each coefficient shifted right
abbrev pub shifted : ℕ → Ω → Ω
shifted m x = record { a = shr_z x.a (2 ^ m); b = shr_z x.b (2 ^ m); c = shr_z x.c (2 ^ m); d = shr_z x.d (2 ^ m) }

-- root two to the 2m times, in coefficients
pub twos_times : (m : ℕ) (y : Ω)
    → mul_q ints (root2^ (m + m)) y
    ≡ record { a = pos (2 ^ m) *ℤ y.a; b = pos (2 ^ m) *ℤ y.b; c = pos (2 ^ m) *ℤ y.c; d = pos (2 ^ m) *ℤ y.d }
twos_times m y = ap (λ c. mul_q ints c y) (root2^_add m m ∙ sym (two^ m)) ∙ times (pos (2 ^ m))
  where
    scalar : Expr → Quad Expr
    scalar e = record { a = con (pos 0); b = con (pos 0); c = con (pos 0); d = e }

    n : Expr
    n = var 4

    times : (c : ℤ) → mul_q ints (const_q ints c) y ≡ record { a = c *ℤ y.a; b = c *ℤ y.b; c = c *ℤ y.c; d = c *ℤ y.d }
    times c =
        solve_q ints ints_laws (parts y (c ∷ [])) (mul_q exprs (scalar n) X₀)
        (record { a = n ⊗ X₀.a; b = n ⊗ X₀.b; c = n ⊗ X₀.c; d = n ⊗ X₀.d }) (tt, tt, tt, tt)

pub shifted_times : (m : ℕ) (x : Ω) → Multiple m x → mul_q ints (root2^ (m + m)) (shifted m x) ≡ x
shifted_times m x h =
    twos_times m (shifted m x)
    ∙ quad_path (shift_times m x.a h.a_so) (shift_times m x.b h.b_so) (shift_times m x.c h.c_so) (shift_times m x.d h.d_so)

-- ---- y by 2 to the m is x
module _ (m : ℕ) (x y : Ω) (e : mul_q ints (root2^ (m + m)) y ≡ x) where
  is : record { a = pos (2 ^ m) *ℤ y.a; b = pos (2 ^ m) *ℤ y.b; c = pos (2 ^ m) *ℤ y.c; d = pos (2 ^ m) *ℤ y.d } ≡ x
  is = sym (twos_times m y) ∙ e

  size_is : (p q : ℤ) → pos (2 ^ m) *ℤ p ≡ q → nat_abs q ≡ 2 ^ m * nat_abs p
  size_is p q f = ap nat_abs (sym f) ∙ nat_abs_mul (pos (2 ^ m)) p

  -- y is no larger
  pub quotient_sized : (n : ℕ) → Sized n x → Sized n y
  quotient_sized n s =
      record {
        a_small = less y.a x.a (ap (λ q. q.a) is) s.a_small;
        b_small = less y.b x.b (ap (λ q. q.b) is) s.b_small;
        c_small = less y.c x.c (ap (λ q. q.c) is) s.c_small;
        d_small = less y.d x.d (ap (λ q. q.d) is) s.d_small;
      }
    where
      less : (p q : ℤ) → pos (2 ^ m) *ℤ p ≡ q → nat_abs q ≤ n → nat_abs p ≤ n
      less p q f h =
          le_trans (le_of_eq (sym (one-mul (nat_abs p))))
          (le_trans (mul-le-mul_right (nat_abs p) (pow_pos m)) (le_trans (le_of_eq (sym (size_is p q f))) h))

  -- and where y is root two times root two times a number, 2 to the m + 1 divides x
  pub twice_more : (v : Ω) → mul_q ints (root2 ints) (mul_q ints (root2 ints) v) ≡ y → Multiple (suc m) x
  twice_more v f =
      record {
        a_so = more y.a x.a v.a (ap (λ q. q.a) is) (ap (λ q. q.a) double);
        b_so = more y.b x.b v.b (ap (λ q. q.b) is) (ap (λ q. q.b) double);
        c_so = more y.c x.c v.c (ap (λ q. q.c) is) (ap (λ q. q.c) double);
        d_so = more y.d x.d v.d (ap (λ q. q.d) is) (ap (λ q. q.d) double);
      }
    where
      double : add_q ints v v ≡ y
      double = sym (root2_twice v) ∙ f

      even : (p r : ℤ) → r +ℤ r ≡ p → nat_abs p % 2 ≡ 0
      even p r g = sym (bit_odd p) ∙ ap (λ z. bit (odd z)) (sym g) ∙ ap bit (odd_double r)

      more : (p q r : ℤ) → pos (2 ^ m) *ℤ p ≡ q → r +ℤ r ≡ p → TwoTo (suc m) q
      more p q r g h = one_more m (nat_abs q) (nat_abs p) (size_is p q g) (even p r h)
