-- `float::near` meets its contract. Assumes nothing.
use mathlib.Core.Path.{sym, subst, ap, ◌∙◌}
use Prim.Native.Nat.{◌^◌, ◌≤◌}
use lib.IntN.{ℤ, nat_abs}
use lib.Ieee.{binary64, of_int}
use mir.Syntax.{w64}
use mir.ValLaws.{to_z-of_z}
use Rattle.view.proofs.Whole.{wide, shows_of}
use Rattle.view.proofs.float.near.Goals as goal

pub cast-requires : goal.cast-requires
cast-requires c =
    subst (λ (z : ℤ). nat_abs z ≤ 2 ^ 53) (sym (to_z-of_z w64 c.args.a c.ranges.a)) (wide c.args.a c.args.s c.requires.0 c.requires.1)

pub cast-requires-2 : goal.cast-requires-2
cast-requires-2 c =
    subst (λ (z : ℤ). nat_abs z ≤ 2 ^ 53) (sym (to_z-of_z w64 c.args.b c.ranges.b)) (wide c.args.b c.args.s c.requires.0 c.requires.2)

pub returns : goal.returns
returns c =
    let a = c.args.a in
    let b = c.args.b in
    shows_of
    c.cast.result
    c.cast-2.result
    c.power.result
    (record { A = a; B = b; s = c.args.s })
    c.requires.0
    c.requires.1
    c.requires.2
    (c.cast.ensures ∙ ap (of_int binary64) (to_z-of_z w64 a c.ranges.a))
    (c.cast-2.ensures ∙ ap (of_int binary64) (to_z-of_z w64 b c.ranges.b))
    c.power.ensures
