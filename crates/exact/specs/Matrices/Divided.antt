-- A triple divided by a power of root two, its exponent as much lower: it has the same matrix, and there is one. Assumes nothing.
use Rattle.std.specs.Prelude.{◌≡◌, ℕ, ◌+◌}
use Rattle.exact.specs.Meaning.Number.{ints, mul_q, root2^}
use Rattle.exact.specs.Meaning.Triple.{Triple}

-- root two to the j times z and w of r is z and w of t
pub record Divided (j : ℕ) (t r : Triple) : Type 0 where
  pub k_is : t.k ≡ j + r.k
  pub n_is : r.n ≡ t.n
  pub z_is : mul_q ints (root2^ j) r.z ≡ t.z
  pub w_is : mul_q ints (root2^ j) r.w ≡ t.w
