-- Demand 3 over the exports, which are what programs link: dunrossel_normalise; and dunrossel_matrix, whose ten numbers dunrossel_synthesise is handed.
use Rattle.std.specs.Prelude.{◌≡◌, List, [], ◌∷◌, ℕ, ◌≤◌, ℤ, pos, nat_abs, length, take, drop, get_or}
use Rattle.exact.specs.Meaning.Matrix.{Same}
use Rattle.exact.specs.Meaning.Word.{Letter, word, tees, bytes}
use Rattle.exact.specs.Meaning.Normal.{Normal}
use Rattle.exact.specs.Meaning.Limits.{enough, no_refusal}
use Rattle.exact.specs.Meaning.Lent.{over}
use Rattle.normal_form.specs.Meaning.{Normalises}
use Rattle.handed.specs.Meaning.{counts_of}
use Rattle.dunrossel.specs.Meaning.Exports.{Writes, Multiplies, Synthesises}

-- what a writing export leaves: the refusal; place, bytes, T letters and, of dunrossel_synthesise_steps, steps; the lent bytes at the end
abbrev pub Wrote : Type 0
Wrote = ℕ × (List ℕ × List ℕ)

-- what dunrossel_matrix leaves: the refusal, the ten, the place
abbrev pub Made : Type 0
Made = ℕ × (List ℤ × ℕ)

-- of the ten: k, n as a byte, and the eight of z and w
abbrev pub k_of : List ℤ → ℤ
k_of ten = get_or ten 0 (pos 0)

abbrev pub n_of : List ℤ → ℕ
n_of ten = nat_abs (get_or ten 1 (pos 0))

abbrev pub zw_of : List ℤ → List ℤ
zw_of ten = drop 2 ten

-- any outcomes that the exports' promises allow, each with room
pub record BothCalls (u : List Letter) (old₁ old₂ : List ℕ) (first : Wrote) (matrix : Made) (second : Wrote) : Type 0 where
  pub room₁ : enough ≤ length old₁
  pub room₂ : enough ≤ length old₂
  pub normalised : Writes Normalises (bytes u) old₁ first
  pub multiplied : Multiplies (bytes u) matrix
  pub synthesised : Synthesises counts_of (k_of matrix.1.0) (n_of matrix.1.0) (zw_of matrix.1.0) old₂ second

-- accepted, with v written
abbrev pub wrote : List Letter → List ℕ → Wrote
wrote v old = (no_refusal, (0 ∷ length v ∷ tees v ∷ [], over (bytes v) old))

pub record AgreedCalls (u v : List Letter) (old₁ old₂ : List ℕ) (first : Wrote) (matrix : Made) (second : Wrote) : Type 0 where
  pub normal : Normal v
  pub same : Same (word v) (word u)
  pub first_is : first ≡ wrote v old₁
  pub matrix_taken : matrix.0 ≡ no_refusal
  pub second_is : second ≡ wrote v old₂

-- ---- two words: the refusal, the counts, and the bytes that were written
abbrev pub seen : Wrote → ℕ × (List ℕ × List ℕ)
seen r = (r.0, (r.1.0, take (get_or r.1.0 1 0) r.1.1))

-- the same for both words and both ways
pub record OneCall (first first' second second' : Wrote) : Type 0 where
  pub first_same : seen first ≡ seen first'
  pub ways_same : seen first ≡ seen second
  pub second_same : seen second ≡ seen second'
