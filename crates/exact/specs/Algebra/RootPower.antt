-- Powers of root two in ℤ[root two]: p + q·root two times root two to the n, and when it can be divided by that, which the powers of two in p and in q
-- say; the quotient by shifts. Assumes nothing.
use Rattle.std.specs.Prelude.{ℕ, zero, suc, ◌+◌, ◌/◌, ℤ}
use Rattle.exact.specs.Meaning.Number.{ints}
use Rattle.exact.specs.Meaning.Rotation.{Root, times_r}
use Rattle.exact.specs.Whole.Twos.{TwoTo}

-- root two to the n times
abbrev pub lift_r : ℕ → Root ℤ → Root ℤ
lift_r zero r = r
lift_r (suc n) r = times_r ints (lift_r n r)

-- ---- what a power of root two divides
pub record DividesR (n : ℕ) (r : Root ℤ) : Type 0 where
  pub p_so : TwoTo ((n + 1) / 2) r.p
  pub q_so : TwoTo (n / 2) r.q
