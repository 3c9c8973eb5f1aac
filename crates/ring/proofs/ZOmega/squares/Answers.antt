-- `ring::ZOmega::squares` meets its contract: each coefficient by what its size allows.
use Prim.Native.Nat.{◌^◌}
use Rattle.exact.proofs.Whole.Machine.{arg, ◌∔◌, ◌∗◌}
use Rattle.ring.specs.Code.{fits₁, is₁}
use Rattle.ring.proofs.ZOmega.squares.Goals as goal

pub overflow_add-result : goal.overflow_add-result
overflow_add-result c = search (fits₁ (2 ^ 30) (arg 0 ∗ arg 0 ∔ arg 1 ∗ arg 1) tt)

pub overflow_add-result-2 : goal.overflow_add-result-2
overflow_add-result-2 c = search (fits₁ (2 ^ 30) (arg 0 ∗ arg 0 ∔ arg 1 ∗ arg 1 ∔ arg 2 ∗ arg 2) tt)

pub overflow_add-result-3 : goal.overflow_add-result-3
overflow_add-result-3 c = search (fits₁ (2 ^ 30) (arg 0 ∗ arg 0 ∔ arg 1 ∗ arg 1 ∔ arg 2 ∗ arg 2 ∔ arg 3 ∗ arg 3) tt)

pub returns : goal.returns
returns c = search (is₁ (2 ^ 30) (arg 0 ∗ arg 0 ∔ arg 1 ∗ arg 1 ∔ arg 2 ∗ arg 2 ∔ arg 3 ∗ arg 3) tt)
