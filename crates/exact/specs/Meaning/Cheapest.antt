-- No cheaper spelling (docs/SCOPE.md, Normal form): a normal word has the fewest T letters of all words with its matrix, and all have one parity.
use Rattle.std.specs.Prelude.{◌≡◌, List, ℕ, ◌%◌, ◌≤◌}
use Rattle.exact.specs.Meaning.Matrix.{Matrix}
use Rattle.exact.specs.Meaning.Word.{Letter, word, tees}
use Rattle.exact.specs.Meaning.Normal.{Normal}

-- of the words whose matrix is like m, whatever their length, v is one, with t T letters; none has fewer, and all have an even number or all an odd one
pub record Cheapest (Like : Matrix → Matrix → Type 0) (m : Matrix) (v : List Letter) (t : ℕ) : Type 0 where
  pub like : Like (word v) m
  pub counted : tees v ≡ t
  pub fewest : (u : List Letter) → Like (word u) m → t ≤ tees u
  pub parity : (u : List Letter) → Like (word u) m → tees u % 2 ≡ t % 2

-- the theorem, where like is the same (`Same`) and where it is the same but for a phase (`ByOmega`)
abbrev pub NoCheaper : (Matrix → Matrix → Type 0) → Type 0
NoCheaper Like = (v : List Letter) → Normal v → Cheapest Like (word v) v (tees v)
