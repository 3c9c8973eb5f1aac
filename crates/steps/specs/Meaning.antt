-- The steps of a synthesis (docs/SCOPE.md, Synthesis): what a step makes of a triple, and how many there are until k is 0.
use Rattle.std.specs.Prelude.{◌≡◌, cond, List, [], ◌∷◌, ℕ, zero, suc, ◌+◌, ◌-◌, ◌<◌, ltb, get_or}
use Rattle.exact.specs.Meaning.Number.{Ω, residue}
use Rattle.exact.specs.Meaning.Matrix.{◌·◌, Same}
use Rattle.exact.specs.Meaning.Word.{Letter, H, T', word}
use Rattle.exact.specs.Meaning.Normal.{times}
use Rattle.exact.specs.Meaning.Triple.{Triple, entries, Reduced}

-- ---- m
-- `BIT_SHIFT` by residue, from 0000 to 1111
abbrev pub bit_shifts : List ℕ
bit_shifts = 0 ∷ 0 ∷ 1 ∷ 0 ∷ 2 ∷ 0 ∷ 1 ∷ 3 ∷ 3 ∷ 3 ∷ 0 ∷ 2 ∷ 2 ∷ 1 ∷ 0 ∷ 0 ∷ []

abbrev pub bit_shift : ℕ → ℕ
bit_shift r = get_or bit_shifts r 0

-- q less p, plus 4 if that is below 0
abbrev pub less_by : ℕ → ℕ → ℕ
less_by p q = cond (ltb q p) (q + 4 - p) (q - p)

-- that of w's residue less that of z's
unfoldable pub power_by : ℕ → ℕ → ℕ
power_by z w = less_by (bit_shift z) (bit_shift w)

abbrev pub power_of : Ω → Ω → ℕ
power_of z w = power_by (residue z) (residue w)

abbrev pub power : Triple → ℕ
power t = power_of t.z t.w

-- ---- a step
-- H·T^-m; the eighth power of T is the identity
abbrev pub undo : ℕ → List Letter
undo m = H ∷ times (8 - m) T'

-- from t, whose k is over 0, to s: the reduced triple, n from 0 to 7, of H·T^-m times t's matrix
pub record StepTo (t s : Triple) : Type 0 where
  pub over_0 : 0 < t.k
  pub same : Same (entries s) (word (undo (power t)) · entries t)
  pub reduced : Reduced s
  pub n_small : s.n < 8

-- ---- from t there are i steps to a triple whose k is 0
abbrev pub Takes : ℕ → Triple → Type 0
Takes zero t = t.k ≡ 0
Takes (suc i) t = (s : Triple) × (StepTo t s × Takes i s)
