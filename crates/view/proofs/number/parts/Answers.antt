-- `number::parts` meets its contract. Assumes nothing.
use mathlib.Core.Path.{◌≡◌, sym, subst, ap₂}
use Prim.Native.Nat.{ℕ, ◌≤◌, ◌^◌}
use lib.IntN.{◌+ℤ◌, ◌-ℤ◌}
use mir.Syntax.{w64}
use Rattle.exact.specs.Meaning.Number.{Sized}
use Rattle.exact.proofs.Whole.Machine.{held, arg, ◌∔◌, ◌∸◌}
use Rattle.ring.specs.Meaning.{quad}
use Rattle.ring.specs.Code.{fits₁, is₁}
use Rattle.ring.specs.declared.ZOmega.{ZOmega}
use Rattle.view.specs.Meaning.Surd.{over, real, imaginary}
use Rattle.view.specs.Meaning.Near.{Shows}
use Rattle.view.specs.Size.{size, Fit}
use Rattle.view.proofs.Size.{coefficients, real_fit, imaginary_fit, at_most_60}
use Rattle.view.proofs.number.parts.Goals as goal

-- the two pairs of numbers as they are handed over
module _ (k : ℕ) (x : ZOmega) (h : (k ≤ 60) × (size (quad x) ≤ 2 ^ k)) where
  small : Sized (2 ^ 30) (quad x)
  small = coefficients (quad x) (at_most_60 h.0 h.1)

  real_handed : over k (held w64 x.d) (held w64 (held w64 x.c -ℤ held w64 x.a)) ≡ real k (quad x)
  real_handed = ap₂ (over k) (is₁ (2 ^ 30) (arg 3) tt x small) (is₁ (2 ^ 30) (arg 2 ∸ arg 0) tt x small)

  imaginary_handed : over k (held w64 x.b) (held w64 (held w64 x.c +ℤ held w64 x.a)) ≡ imaginary k (quad x)
  imaginary_handed = ap₂ (over k) (is₁ (2 ^ 30) (arg 1) tt x small) (is₁ (2 ^ 30) (arg 2 ∔ arg 0) tt x small)

pub overflow_sub-x : goal.overflow_sub-x
overflow_sub-x c = fits₁ (2 ^ 30) (arg 2 ∸ arg 0) tt c.args.x (small c.args.k c.args.x c.requires)

pub over-requires : goal.over-requires
over-requires c =
    subst Fit (sym (real_handed c.args.k c.args.x c.requires)) (real_fit c.args.k (quad c.args.x) c.requires.0 c.requires.1)

pub overflow_add-x : goal.overflow_add-x
overflow_add-x c =
    fits₁ (2 ^ 30) (arg 2 ∔ arg 0) tt c.args.x (small c.args.k c.args.x c.requires)

pub over-requires-2 : goal.over-requires-2
over-requires-2 c =
    subst Fit (sym (imaginary_handed c.args.k c.args.x c.requires)) (imaginary_fit c.args.k (quad c.args.x) c.requires.0 c.requires.1)

pub returns : goal.returns
returns c =
    record {
      re_shown = subst (λ q. Shows q c.over.result) (real_handed c.args.k c.args.x c.requires) c.over.ensures;
      im_shown = subst (λ q. Shows q c.over-2.result) (imaginary_handed c.args.k c.args.x c.requires) c.over-2.ensures;
    }
