-- `ring::ZOmega::add` meets its contract: each coefficient by what its size allows.
use Prim.Native.Nat.{◌^◌}
use Rattle.exact.proofs.Algebra.Omega.{quad_path}
use Rattle.exact.proofs.Whole.Machine.{arg, ◌∔◌}
use Rattle.ring.specs.Code.{is₂}
use Rattle.ring.proofs.ZOmega.add.Goals as goal

pub returns : goal.returns
returns c =
    quad_path
    (search (is₂ (2 ^ 31) (arg 0 ∔ arg 4) tt))
    (search (is₂ (2 ^ 31) (arg 1 ∔ arg 5) tt))
    (search (is₂ (2 ^ 31) (arg 2 ∔ arg 6) tt))
    (search (is₂ (2 ^ 31) (arg 3 ∔ arg 7) tt))
