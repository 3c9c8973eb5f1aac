-- The two branches of `float::over`: A and B for an even exponent and for an odd one, and that they are small. Assumes nothing.
use mathlib.Core.Path.{◌≡◌, refl, sym, ◌∙◌, ap, ap₂, subst}
use mathlib.Core.Bool.{Bool, true, false, cond}
use mathlib.Core.List.{[], ◌∷◌}
use Prim.Native.Nat.{ℕ, ◌+◌, ◌/◌, ◌%◌, ◌^◌, ◌≤◌}
use native.Mathlib.Nat.{le_trans}
use native.Mathlib.Omega.{arith}
use lib.Dec.{T, eqb, eqb→eq}
use lib.Pow.{pow_mono}
use lib.IntN.{ℤ, pos, negsuc, nat_abs, ◌+ℤ◌}
use lib.Ieee.{Float}
use mir.Syntax.{w64}
use Rattle.view.specs.Meaning.Surd.{Surd, over}
use Rattle.view.specs.Meaning.Near.{Shows}
use Rattle.view.specs.Size.{Fit}
use Rattle.exact.proofs.Whole.Machine as Machine
use Rattle.exact.proofs.Whole.Machine.{arg, ◌∔◌, need_by, result_by}

-- a number, stored and read back
abbrev held : ℤ → ℤ
held = Machine.held w64

held_is : (z : ℤ) → nat_abs z ≤ 2 ^ 31 → held z ≡ z
held_is z h = result_by w64 (z ∷ []) (2 ^ 31 ∷ []) (h, tt) (arg 0) tt

abbrev at_even : ℕ → ℤ → ℤ → Surd
at_even k u v = record { A = u +ℤ u; B = v; s = (k + 2) / 2 }

abbrev at_odd : ℕ → ℤ → ℤ → Surd
at_odd k u v = record { A = v; B = u; s = (k + 2) / 2 }

module _ (k : ℕ) (u v : ℤ) where
  even_is : k % 2 ≡ 0 → over k u v ≡ at_even k u v
  even_is e = ap (λ n. record { A = cond (eqb n 0) (u +ℤ u) v; B = cond (eqb n 0) v u; s = (k + 2) / 2 }) e

  odd_is : (k % 2 ≡ 0 → ⊥) → over k u v ≡ at_odd k u v
  odd_is e = ap (λ b. record { A = cond b (u +ℤ u) v; B = cond b v u; s = (k + 2) / 2 }) (is (eqb (k % 2) 0) (λ t. e (eqb→eq (k % 2) 0 t)))
    where
      is : (b : Bool) → (T b → ⊥) → b ≡ false
      is true f = absurd (f tt)
      is false f = refl

-- ---- sizes
half_size : (u : ℤ) → nat_abs u ≤ nat_abs (u +ℤ u)
half_size (pos n) = omega arith
half_size (negsuc n) = omega arith

module _ (q : Surd) (f : Fit q) where
  A_31 : nat_abs q.A ≤ 2 ^ 31
  A_31 = le_trans f.A_small (pow_mono f.s_few)

  B_31 : nat_abs q.B ≤ 2 ^ 31
  B_31 = le_trans f.B_small (pow_mono f.s_few)

-- ---- the arguments as the code hands them over
module _ (k : ℕ) (u v : ℤ) (f : Fit (over k u v)) (e : k % 2 ≡ 0) where
  fit_even : Fit (at_even k u v)
  fit_even = subst Fit (even_is k u v e) f

  u_31 : nat_abs u ≤ 2 ^ 31
  u_31 = le_trans (half_size u) (A_31 (at_even k u v) fit_even)

  abbrev even_args : Surd
  even_args = record { A = held (held u +ℤ held u); B = held v; s = (k + 2) / 2 }

  even_args_are : even_args ≡ at_even k u v
  even_args_are =
      ap₂ (λ a b. record { A = a; B = b; s = (k + 2) / 2 }) (result_by w64 (u ∷ []) (2 ^ 31 ∷ []) (u_31, tt) (arg 0 ∔ arg 0) tt)
      (held_is v (B_31 (at_even k u v) fit_even))

  pub shows_even : (r : Float) → Shows even_args r → Shows (over k u v) r
  shows_even r = subst (λ q. Shows q r) (even_args_are ∙ sym (even_is k u v e))

module _ (k : ℕ) (u v : ℤ) (f : Fit (over k u v)) (e : k % 2 ≡ 0 → ⊥) where
  fit_odd : Fit (at_odd k u v)
  fit_odd = subst Fit (odd_is k u v e) f

  abbrev odd_args : Surd
  odd_args = record { A = held v; B = held u; s = (k + 2) / 2 }

  odd_args_are : odd_args ≡ at_odd k u v
  odd_args_are =
      ap₂ (λ a b. record { A = a; B = b; s = (k + 2) / 2 }) (held_is v (A_31 (at_odd k u v) fit_odd))
      (held_is u (B_31 (at_odd k u v) fit_odd))

  pub shows_odd : (r : Float) → Shows odd_args r → Shows (over k u v) r
  shows_odd r = subst (λ q. Shows q r) (odd_args_are ∙ sym (odd_is k u v e))
