-- How large an orthogonal rotation's numbers are: p² + 2q² is at most 2^e for an entry p + q·root two over root two to the e. Assumes nothing.
use Rattle.std.specs.Prelude.{ℕ, ◌≤◌, ℤ, nat_abs}
use Rattle.exact.specs.Meaning.Rotation.{Root, Three, Vect}

-- ---- of p and of q, of a vector, of all nine
pub record Up (n : ℕ) (r : Root ℤ) : Type 0 where
  pub p_small : nat_abs r.p ≤ n
  pub q_small : nat_abs r.q ≤ n

pub record UpV (n : ℕ) (v : Vect ℤ) : Type 0 where
  pub x_up : Up n v.x
  pub y_up : Up n v.y
  pub z_up : Up n v.z

pub record UpC (n : ℕ) (m : Three (Vect ℤ)) : Type 0 where
  pub x_up : UpV n m.x
  pub y_up : UpV n m.y
  pub z_up : UpV n m.z
