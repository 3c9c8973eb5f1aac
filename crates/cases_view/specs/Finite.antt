-- Numbers that are no NaN, so that each has a bit pattern.
use Rattle.std.specs.Prelude.{not, T}
use Rattle.std.specs.Float.Ieee.{is_nan}
use Rattle.view.specs.declared.matrix.View.{View}

pub record Finite (v : View) : Type 0 where
  pub re00 : T (not (is_nan v.re00))
  pub im00 : T (not (is_nan v.im00))
  pub re01 : T (not (is_nan v.re01))
  pub im01 : T (not (is_nan v.im01))
  pub re10 : T (not (is_nan v.re10))
  pub im10 : T (not (is_nan v.im10))
  pub re11 : T (not (is_nan v.re11))
  pub im11 : T (not (is_nan v.im11))
