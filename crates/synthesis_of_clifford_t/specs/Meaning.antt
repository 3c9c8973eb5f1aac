-- What job 4 promises (docs/SCOPE.md, Jobs and Synthesis): its refusals in order, or the normal word of the triple's matrix in the lent bytes and
-- the number of steps to it.
use Rattle.std.specs.Prelude.{List, ℕ, ℤ, length, Result}
use Rattle.exact.specs.declared.Refusal.{Refusal}
use Rattle.exact.specs.Meaning.Matrix.{Matrix}
use Rattle.exact.specs.Meaning.Word.{Letter, tees, bytes}
use Rattle.exact.specs.Meaning.Normal.{NormalOf}
use Rattle.exact.specs.Meaning.Triple.{Triple, entries}
use Rattle.exact.specs.Meaning.Limits.{no_refusal}
use Rattle.exact.specs.Meaning.Outcome.{Refusals, Outcome, none, ◌then◌, ◌also◌}
use Rattle.exact.specs.Meaning.Lent.{lent, untouched, Writes}
use Rattle.exact.specs.Meaning.Handed.{handed}
use Rattle.exact.specs.Meaning.Refusals.{checks, room}
use Rattle.ring.specs.Meaning.{quad}
use Rattle.ring.specs.declared.ZOmega.{ZOmega}
use Rattle.unitary.specs.Meaning.{given, Answers}
use Rattle.steps.specs.Meaning.{Takes}
use Rattle.synthesis_of_clifford_t.specs.declared.Spelt.{Spelt}

-- ---- an answer: a word, and how many steps were taken to it
pub record Spelling : Type 0 where
  pub letters : List Letter
  pub steps : ℕ

abbrev pub text : Spelling → List ℕ
text a = bytes a.letters

-- what job 4 hands back: the refusal or 0, the bytes written, the T letters among them, and the steps that were taken
pub record Synthesis : Type 0 where
  pub refusal : ℕ
  pub bytes : ℕ
  pub tees : ℕ
  pub steps : ℕ

abbrev pub refused : ℕ → ℕ → Synthesis
refused n p = record { refusal = n; bytes = 0; tees = 0; steps = 0 }

abbrev pub counts : Spelling → Synthesis
counts a = record { refusal = no_refusal; bytes = length a.letters; tees = tees a.letters; steps = a.steps }

-- of a result
abbrev pub synthesised : Result Spelt Refusal → Synthesis
synthesised = handed refused (λ s. record { refusal = no_refusal; bytes = s.bytes; tees = s.tees; steps = s.steps })

-- the steps from the reduced triple of the matrix m, which is job 1's answer
pub record StepsOf (m : Matrix) (i : ℕ) : Type 0 where
  pub start : Triple
  pub reduced : Answers m start
  pub takes : Takes i start

pub record SpellingOf (m : Matrix) (a : Spelling) : Type 0 where
  pub normal : NormalOf m a.letters
  pub counted : StepsOf m a.steps

-- ---- refusals 3, 4, 5 and 7, or the normal word with the triple's matrix, written, and its steps
module _ (k : ℤ) (n : ℕ) (z w : ZOmega) (old : List ℕ) where
  abbrev pub asked : Matrix
  asked = entries (given k n z w)

  abbrev pub refusals : Refusals
  refusals = checks k (quad z) (quad w) also (room text (SpellingOf asked) old then none)

  abbrev pub SynthesiseOutcome : Synthesis → List ℕ → Type 0
  SynthesiseOutcome r new = Outcome (untouched refused old) (Writes text counts (SpellingOf asked) old) refusals (lent r new)
