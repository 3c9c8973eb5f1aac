-- What jobs 1 and 2 promise for every input (docs/SCOPE.md, Jobs); and a machine's triple as the exact one.
use Rattle.std.specs.Prelude.{◌≡◌, List, ℕ, ◌<◌, ℤ, pos, Result}
use Rattle.exact.specs.Meaning.Matrix.{Matrix, Same}
use Rattle.exact.specs.Meaning.Word.{Letter, word, Spelled}
use Rattle.exact.specs.Meaning.Triple.{Triple, entries, Reduced}
use Rattle.exact.specs.Meaning.Limits.{no_refusal}
use Rattle.exact.specs.Meaning.Outcome.{Outcome, none as last, ◌then◌}
use Rattle.exact.specs.Meaning.Refusals.{handed_in, long, letter, deep, checks}
use Rattle.exact.specs.Meaning.Handed.{handed}
use Rattle.exact.specs.declared.Refusal.{Refusal}
use Rattle.ring.specs.Meaning.{quad}
use Rattle.ring.specs.declared.ZOmega.{ZOmega}
use Rattle.unitary.specs.declared.DOmegaUnitary.{DOmegaUnitary}

-- ---- a machine's triple as the exact one
abbrev pub triple : DOmegaUnitary → Triple
triple t = record { k = t.k; n = t.n; z = quad t.z; w = quad t.w }

-- the numbers as they are handed in
abbrev pub given : ℤ → ℕ → ZOmega → ZOmega → Triple
given k n z w = handed_in k n (quad z) (quad w)

-- what a refusal hands back: numbers 0
abbrev zero : ZOmega
zero = record { a = pos 0; b = pos 0; c = pos 0; d = pos 0 }

abbrev pub none : DOmegaUnitary
none = record { z = zero; w = zero; n = 0; k = 0 }

-- ---- an answer
-- t is the reduced triple of the matrix m, n from 0 to 7
pub record Answers (m : Matrix) (t : Triple) : Type 0 where
  pub same : Same (entries t) m
  pub reduced : Reduced t
  pub n_small : t.n < 8

-- ---- job 1
-- what is handed back
pub record Checked : Type 0 where
  pub refusal : ℕ
  pub matrix : DOmegaUnitary

abbrev pub refused : ℕ → ℕ → Checked
refused n p = record { refusal = n; matrix = none }

-- of a result
abbrev pub as_checked : Result DOmegaUnitary Refusal → Checked
as_checked = handed refused (λ (t : DOmegaUnitary). record { refusal = no_refusal; matrix = t })

pub record Reduces (m : Matrix) (r : Checked) : Type 0 where
  pub taken : r.refusal ≡ no_refusal
  pub answer : Answers m (triple r.matrix)

abbrev pub ReduceOutcome : ℤ → ℕ → ZOmega → ZOmega → Checked → Type 0
ReduceOutcome k n z w r = Outcome refused (Reduces (entries (given k n z w))) (checks k (quad z) (quad w)) r

-- ---- job 2
-- what is handed back
pub record FromGates : Type 0 where
  pub refusal : ℕ
  pub place : ℕ
  pub matrix : DOmegaUnitary

abbrev pub stopped : ℕ → ℕ → FromGates
stopped n p = record { refusal = n; place = p; matrix = none }

-- of a result
abbrev pub as_from_gates : Result DOmegaUnitary Refusal → FromGates
as_from_gates = handed stopped (λ (t : DOmegaUnitary). record { refusal = no_refusal; place = 0; matrix = t })

pub record Multiplies (u : List Letter) (r : FromGates) : Type 0 where
  pub taken : r.refusal ≡ no_refusal
  pub nowhere : r.place ≡ 0
  pub answer : Answers (word u) (triple r.matrix)

abbrev pub MatrixOutcome : List ℕ → FromGates → Type 0
MatrixOutcome w r = Outcome stopped (Spelled Multiplies w) (long w then letter w then deep w then last) r
