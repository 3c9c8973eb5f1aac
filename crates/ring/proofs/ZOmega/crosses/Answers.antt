-- `ring::ZOmega::crosses` meets its contract: each coefficient by what its size allows.
use Prim.Native.Nat.{◌^◌}
use Rattle.exact.proofs.Whole.Machine.{arg, ◌∔◌, ◌∸◌, ◌∗◌}
use Rattle.ring.specs.Code.{fits₁, is₁}
use Rattle.ring.proofs.ZOmega.crosses.Goals as goal

pub overflow_mul-result : goal.overflow_mul-result
overflow_mul-result c = search (fits₁ (2 ^ 30) (arg 0 ∗ arg 1) tt)

pub overflow_mul-result-2 : goal.overflow_mul-result-2
overflow_mul-result-2 c = search (fits₁ (2 ^ 30) (arg 1 ∗ arg 2) tt)

pub overflow_add-result : goal.overflow_add-result
overflow_add-result c = search (fits₁ (2 ^ 30) (arg 0 ∗ arg 1 ∔ arg 1 ∗ arg 2) tt)

pub overflow_mul-result-3 : goal.overflow_mul-result-3
overflow_mul-result-3 c = search (fits₁ (2 ^ 30) (arg 2 ∗ arg 3) tt)

pub overflow_add-result-2 : goal.overflow_add-result-2
overflow_add-result-2 c = search (fits₁ (2 ^ 30) (arg 0 ∗ arg 1 ∔ arg 1 ∗ arg 2 ∔ arg 2 ∗ arg 3) tt)

pub overflow_mul-result-4 : goal.overflow_mul-result-4
overflow_mul-result-4 c = search (fits₁ (2 ^ 30) (arg 3 ∗ arg 0) tt)

pub overflow_sub-result : goal.overflow_sub-result
overflow_sub-result c = search (fits₁ (2 ^ 30) (arg 0 ∗ arg 1 ∔ arg 1 ∗ arg 2 ∔ arg 2 ∗ arg 3 ∸ arg 3 ∗ arg 0) tt)

pub returns : goal.returns
returns c = search (is₁ (2 ^ 30) (arg 0 ∗ arg 1 ∔ arg 1 ∗ arg 2 ∔ arg 2 ∗ arg 3 ∸ arg 3 ∗ arg 0) tt)
