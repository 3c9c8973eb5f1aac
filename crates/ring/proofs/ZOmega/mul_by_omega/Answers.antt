-- `ring::ZOmega::mul_by_omega` meets its contract: each coefficient by what its size allows.
use mathlib.Core.Path.{sym, ◌∙◌}
use Prim.Native.Nat.{◌^◌}
use lib.IntN.{pos}
use borrow.Author.Rules.{rules}
use Rattle.exact.proofs.Algebra.Omega.{quad_path}
use Rattle.exact.proofs.Whole.Machine.{arg, lit, ◌∸◌}
use Rattle.ring.specs.Meaning.{quad}
use Rattle.ring.specs.Number.{turned}
use Rattle.ring.specs.Code.{is₁}
use Rattle.ring.proofs.ZOmega.mul_by_omega.Goals as goal

pub returns : goal.returns
returns c =
    quad_path
    (search (is₁ (2 ^ 31) (arg 1) tt))
    (search (is₁ (2 ^ 31) (arg 2) tt))
    (search (is₁ (2 ^ 31) (arg 3) tt))
    (search (rules, is₁ (2 ^ 31) (lit (pos 0) ∸ arg 0) tt))
    ∙ sym (turned (quad c.args.self))
