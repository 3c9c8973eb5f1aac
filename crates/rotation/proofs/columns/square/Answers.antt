-- `columns::square` meets its contract: each number by what the coefficients' size allows.
use Prim.Native.Nat.{◌^◌}
use Rattle.exact.proofs.Algebra.RootTwo.{root_path}
use Rattle.exact.proofs.Whole.Machine.{arg, ◌∔◌, ◌∸◌, ◌∗◌}
use Rattle.ring.specs.Code.{fits₁, is₁}
use Rattle.rotation.proofs.columns.square.Goals as goal

pub overflow_mul-re : goal.overflow_mul-re
overflow_mul-re c = search (fits₁ (2 ^ 30) (arg 3 ∗ arg 3) tt)

pub overflow_mul-re-2 : goal.overflow_mul-re-2
overflow_mul-re-2 c = search (fits₁ (2 ^ 30) (arg 1 ∗ arg 1) tt)

pub overflow_sub-re : goal.overflow_sub-re
overflow_sub-re c = search (fits₁ (2 ^ 30) (arg 3 ∗ arg 3 ∸ arg 1 ∗ arg 1) tt)

pub overflow_mul-re-3 : goal.overflow_mul-re-3
overflow_mul-re-3 c = search (fits₁ (2 ^ 30) (arg 0 ∗ arg 2) tt)

pub overflow_sub-re-2 : goal.overflow_sub-re-2
overflow_sub-re-2 c = search (fits₁ (2 ^ 30) (arg 3 ∗ arg 3 ∸ arg 1 ∗ arg 1 ∸ arg 0 ∗ arg 2) tt)

pub overflow_mul-re-4 : goal.overflow_mul-re-4
overflow_mul-re-4 c = search (fits₁ (2 ^ 30) (arg 0 ∗ arg 2) tt)

pub overflow_sub-re-3 : goal.overflow_sub-re-3
overflow_sub-re-3 c = search (fits₁ (2 ^ 30) (arg 3 ∗ arg 3 ∸ arg 1 ∗ arg 1 ∸ arg 0 ∗ arg 2 ∸ arg 0 ∗ arg 2) tt)

pub overflow_mul-re-5 : goal.overflow_mul-re-5
overflow_mul-re-5 c = search (fits₁ (2 ^ 30) (arg 2 ∗ arg 3) tt)

pub overflow_mul-re-6 : goal.overflow_mul-re-6
overflow_mul-re-6 c = search (fits₁ (2 ^ 30) (arg 0 ∗ arg 1) tt)

pub overflow_sub-re-4 : goal.overflow_sub-re-4
overflow_sub-re-4 c = search (fits₁ (2 ^ 30) (arg 2 ∗ arg 3 ∸ arg 0 ∗ arg 1) tt)

pub overflow_mul-re-7 : goal.overflow_mul-re-7
overflow_mul-re-7 c = search (fits₁ (2 ^ 30) (arg 0 ∗ arg 3) tt)

pub overflow_sub-re-5 : goal.overflow_sub-re-5
overflow_sub-re-5 c = search (fits₁ (2 ^ 30) (arg 2 ∗ arg 3 ∸ arg 0 ∗ arg 1 ∸ arg 0 ∗ arg 3) tt)

pub overflow_mul-re-8 : goal.overflow_mul-re-8
overflow_mul-re-8 c = search (fits₁ (2 ^ 30) (arg 1 ∗ arg 2) tt)

pub overflow_sub-re-6 : goal.overflow_sub-re-6
overflow_sub-re-6 c = search (fits₁ (2 ^ 30) (arg 2 ∗ arg 3 ∸ arg 0 ∗ arg 1 ∸ arg 0 ∗ arg 3 ∸ arg 1 ∗ arg 2) tt)

pub overflow_mul-im : goal.overflow_mul-im
overflow_mul-im c = search (fits₁ (2 ^ 30) (arg 2 ∗ arg 2) tt)

pub overflow_mul-im-2 : goal.overflow_mul-im-2
overflow_mul-im-2 c = search (fits₁ (2 ^ 30) (arg 0 ∗ arg 0) tt)

pub overflow_sub-im : goal.overflow_sub-im
overflow_sub-im c = search (fits₁ (2 ^ 30) (arg 2 ∗ arg 2 ∸ arg 0 ∗ arg 0) tt)

pub overflow_mul-im-3 : goal.overflow_mul-im-3
overflow_mul-im-3 c = search (fits₁ (2 ^ 30) (arg 1 ∗ arg 3) tt)

pub overflow_add-im : goal.overflow_add-im
overflow_add-im c = search (fits₁ (2 ^ 30) (arg 2 ∗ arg 2 ∸ arg 0 ∗ arg 0 ∔ arg 1 ∗ arg 3) tt)

pub overflow_mul-im-4 : goal.overflow_mul-im-4
overflow_mul-im-4 c = search (fits₁ (2 ^ 30) (arg 1 ∗ arg 3) tt)

pub overflow_add-im-2 : goal.overflow_add-im-2
overflow_add-im-2 c = search (fits₁ (2 ^ 30) (arg 2 ∗ arg 2 ∸ arg 0 ∗ arg 0 ∔ arg 1 ∗ arg 3 ∔ arg 1 ∗ arg 3) tt)

pub overflow_mul-im-5 : goal.overflow_mul-im-5
overflow_mul-im-5 c = search (fits₁ (2 ^ 30) (arg 2 ∗ arg 3) tt)

pub overflow_mul-im-6 : goal.overflow_mul-im-6
overflow_mul-im-6 c = search (fits₁ (2 ^ 30) (arg 0 ∗ arg 1) tt)

pub overflow_sub-im-2 : goal.overflow_sub-im-2
overflow_sub-im-2 c = search (fits₁ (2 ^ 30) (arg 2 ∗ arg 3 ∸ arg 0 ∗ arg 1) tt)

pub overflow_mul-im-7 : goal.overflow_mul-im-7
overflow_mul-im-7 c = search (fits₁ (2 ^ 30) (arg 0 ∗ arg 3) tt)

pub overflow_add-im-3 : goal.overflow_add-im-3
overflow_add-im-3 c = search (fits₁ (2 ^ 30) (arg 2 ∗ arg 3 ∸ arg 0 ∗ arg 1 ∔ arg 0 ∗ arg 3) tt)

pub overflow_mul-im-8 : goal.overflow_mul-im-8
overflow_mul-im-8 c = search (fits₁ (2 ^ 30) (arg 1 ∗ arg 2) tt)

pub overflow_add-im-4 : goal.overflow_add-im-4
overflow_add-im-4 c = search (fits₁ (2 ^ 30) (arg 2 ∗ arg 3 ∸ arg 0 ∗ arg 1 ∔ arg 0 ∗ arg 3 ∔ arg 1 ∗ arg 2) tt)

pub returns : goal.returns
returns c =
    record {
      re_is =
          root_path
          (search (is₁ (2 ^ 30) (arg 3 ∗ arg 3 ∸ arg 1 ∗ arg 1 ∸ arg 0 ∗ arg 2 ∸ arg 0 ∗ arg 2) tt))
          (search (is₁ (2 ^ 30) (arg 2 ∗ arg 3 ∸ arg 0 ∗ arg 1 ∸ arg 0 ∗ arg 3 ∸ arg 1 ∗ arg 2) tt));
      im_is =
          root_path
          (search (is₁ (2 ^ 30) (arg 2 ∗ arg 2 ∸ arg 0 ∗ arg 0 ∔ arg 1 ∗ arg 3 ∔ arg 1 ∗ arg 3) tt))
          (search (is₁ (2 ^ 30) (arg 2 ∗ arg 3 ∸ arg 0 ∗ arg 1 ∔ arg 0 ∗ arg 3 ∔ arg 1 ∗ arg 2) tt));
    }
