-- The arguments of job 6: whatever the four numbers, reduced they are in their ranges, and `modulo` is the remainder. Assumes nothing.
use Rattle.std.specs.Prelude.{◌≡◌, ℤ}
use Rattle.clifford.specs.declared.Clifford.{Clifford}
use Rattle.clifford.specs.Meaning.{reduced, Ranged}

pub record Reduced (a b c d : ℤ) (r : Clifford) : Type 0 where
  pub is : r ≡ reduced a b c d
  pub ranged : Ranged r
