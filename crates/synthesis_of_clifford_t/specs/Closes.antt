-- The closing in code: which power of omega is left, that z is 0 where its residue is, and the letters as they are counted.
-- Assumes nothing.
use Rattle.std.specs.Prelude.{◌≡◌, ℕ, ◌+◌, ◌-◌, ◌*◌, ◌/◌, ◌%◌, ℤ, pos, negsuc}
use Rattle.exact.specs.Meaning.Triple.{Triple}
use Rattle.synthesis_of_clifford_t.specs.declared.Closing as declared
use Rattle.steps.specs.Closing.{swaps, phase}

-- ---- which power of omega
abbrev pub sign_of : ℤ → ℕ → ℕ → ℕ
sign_of (pos n) i j = i
sign_of (negsuc n) i j = j

-- ---- the closing by n, whether X stands, and the power of omega that is left
abbrev pub closing_by : ℕ → ℕ → ℕ → declared.Closing
closing_by n x m = record {
  tees = n % 2;
  tail = record { first = 0; h = 0; i = 0; x = x; s = (n + 4 * x + 16 - (n % 2 + 2 * m)) % 8 / 2; w = m };
}

pub record Closes (t : Triple) (c : declared.Closing) : Type 0 where
  pub is : c ≡ closing_by t.n (swaps t) (phase t)
