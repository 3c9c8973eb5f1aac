-- `ring::ZOmega::mul` meets its contract: each coefficient by what its size allows.
use Prim.Native.Nat.{◌^◌}
use Rattle.exact.proofs.Algebra.Omega.{quad_path}
use Rattle.exact.proofs.Whole.Machine.{arg, ◌∔◌, ◌∸◌, ◌∗◌}
use Rattle.ring.specs.Code.{fits₂, is₂}
use Rattle.ring.proofs.ZOmega.mul.Goals as goal

pub overflow_mul-result : goal.overflow_mul-result
overflow_mul-result c = search (fits₂ (2 ^ 30) (arg 0 ∗ arg 7) tt)

pub overflow_mul-result-2 : goal.overflow_mul-result-2
overflow_mul-result-2 c = search (fits₂ (2 ^ 30) (arg 1 ∗ arg 6) tt)

pub overflow_add-result : goal.overflow_add-result
overflow_add-result c = search (fits₂ (2 ^ 30) (arg 0 ∗ arg 7 ∔ arg 1 ∗ arg 6) tt)

pub overflow_mul-result-3 : goal.overflow_mul-result-3
overflow_mul-result-3 c = search (fits₂ (2 ^ 30) (arg 2 ∗ arg 5) tt)

pub overflow_add-result-2 : goal.overflow_add-result-2
overflow_add-result-2 c = search (fits₂ (2 ^ 30) (arg 0 ∗ arg 7 ∔ arg 1 ∗ arg 6 ∔ arg 2 ∗ arg 5) tt)

pub overflow_mul-result-4 : goal.overflow_mul-result-4
overflow_mul-result-4 c = search (fits₂ (2 ^ 30) (arg 3 ∗ arg 4) tt)

pub overflow_add-result-3 : goal.overflow_add-result-3
overflow_add-result-3 c = search (fits₂ (2 ^ 30) (arg 0 ∗ arg 7 ∔ arg 1 ∗ arg 6 ∔ arg 2 ∗ arg 5 ∔ arg 3 ∗ arg 4) tt)

pub overflow_mul-result-5 : goal.overflow_mul-result-5
overflow_mul-result-5 c = search (fits₂ (2 ^ 30) (arg 1 ∗ arg 7) tt)

pub overflow_mul-result-6 : goal.overflow_mul-result-6
overflow_mul-result-6 c = search (fits₂ (2 ^ 30) (arg 2 ∗ arg 6) tt)

pub overflow_add-result-4 : goal.overflow_add-result-4
overflow_add-result-4 c = search (fits₂ (2 ^ 30) (arg 1 ∗ arg 7 ∔ arg 2 ∗ arg 6) tt)

pub overflow_mul-result-7 : goal.overflow_mul-result-7
overflow_mul-result-7 c = search (fits₂ (2 ^ 30) (arg 3 ∗ arg 5) tt)

pub overflow_add-result-5 : goal.overflow_add-result-5
overflow_add-result-5 c = search (fits₂ (2 ^ 30) (arg 1 ∗ arg 7 ∔ arg 2 ∗ arg 6 ∔ arg 3 ∗ arg 5) tt)

pub overflow_mul-result-8 : goal.overflow_mul-result-8
overflow_mul-result-8 c = search (fits₂ (2 ^ 30) (arg 0 ∗ arg 4) tt)

pub overflow_sub-result : goal.overflow_sub-result
overflow_sub-result c = search (fits₂ (2 ^ 30) (arg 1 ∗ arg 7 ∔ arg 2 ∗ arg 6 ∔ arg 3 ∗ arg 5 ∸ arg 0 ∗ arg 4) tt)

pub overflow_mul-result-9 : goal.overflow_mul-result-9
overflow_mul-result-9 c = search (fits₂ (2 ^ 30) (arg 2 ∗ arg 7) tt)

pub overflow_mul-result-10 : goal.overflow_mul-result-10
overflow_mul-result-10 c = search (fits₂ (2 ^ 30) (arg 3 ∗ arg 6) tt)

pub overflow_add-result-6 : goal.overflow_add-result-6
overflow_add-result-6 c = search (fits₂ (2 ^ 30) (arg 2 ∗ arg 7 ∔ arg 3 ∗ arg 6) tt)

pub overflow_mul-result-11 : goal.overflow_mul-result-11
overflow_mul-result-11 c = search (fits₂ (2 ^ 30) (arg 0 ∗ arg 5) tt)

pub overflow_mul-result-12 : goal.overflow_mul-result-12
overflow_mul-result-12 c = search (fits₂ (2 ^ 30) (arg 1 ∗ arg 4) tt)

pub overflow_add-result-7 : goal.overflow_add-result-7
overflow_add-result-7 c = search (fits₂ (2 ^ 30) (arg 0 ∗ arg 5 ∔ arg 1 ∗ arg 4) tt)

pub overflow_sub-result-2 : goal.overflow_sub-result-2
overflow_sub-result-2 c = search (fits₂ (2 ^ 30) (arg 2 ∗ arg 7 ∔ arg 3 ∗ arg 6 ∸ (arg 0 ∗ arg 5 ∔ arg 1 ∗ arg 4)) tt)

pub overflow_mul-result-13 : goal.overflow_mul-result-13
overflow_mul-result-13 c = search (fits₂ (2 ^ 30) (arg 3 ∗ arg 7) tt)

pub overflow_mul-result-14 : goal.overflow_mul-result-14
overflow_mul-result-14 c = search (fits₂ (2 ^ 30) (arg 0 ∗ arg 6) tt)

pub overflow_mul-result-15 : goal.overflow_mul-result-15
overflow_mul-result-15 c = search (fits₂ (2 ^ 30) (arg 1 ∗ arg 5) tt)

pub overflow_add-result-8 : goal.overflow_add-result-8
overflow_add-result-8 c = search (fits₂ (2 ^ 30) (arg 0 ∗ arg 6 ∔ arg 1 ∗ arg 5) tt)

pub overflow_mul-result-16 : goal.overflow_mul-result-16
overflow_mul-result-16 c = search (fits₂ (2 ^ 30) (arg 2 ∗ arg 4) tt)

pub overflow_add-result-9 : goal.overflow_add-result-9
overflow_add-result-9 c = search (fits₂ (2 ^ 30) (arg 0 ∗ arg 6 ∔ arg 1 ∗ arg 5 ∔ arg 2 ∗ arg 4) tt)

pub overflow_sub-result-3 : goal.overflow_sub-result-3
overflow_sub-result-3 c = search (fits₂ (2 ^ 30) (arg 3 ∗ arg 7 ∸ (arg 0 ∗ arg 6 ∔ arg 1 ∗ arg 5 ∔ arg 2 ∗ arg 4)) tt)

pub returns : goal.returns
returns c =
    quad_path
    (search (is₂ (2 ^ 30) (arg 0 ∗ arg 7 ∔ arg 1 ∗ arg 6 ∔ arg 2 ∗ arg 5 ∔ arg 3 ∗ arg 4) tt))
    (search (is₂ (2 ^ 30) (arg 1 ∗ arg 7 ∔ arg 2 ∗ arg 6 ∔ arg 3 ∗ arg 5 ∸ arg 0 ∗ arg 4) tt))
    (search (is₂ (2 ^ 30) (arg 2 ∗ arg 7 ∔ arg 3 ∗ arg 6 ∸ (arg 0 ∗ arg 5 ∔ arg 1 ∗ arg 4)) tt))
    (search (is₂ (2 ^ 30) (arg 3 ∗ arg 7 ∸ (arg 0 ∗ arg 6 ∔ arg 1 ∗ arg 5 ∔ arg 2 ∗ arg 4)) tt))
