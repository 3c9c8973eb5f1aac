-- What the writer's functions promise one another: a word measured, and its lines put. Assumes nothing.
use Rattle.std.specs.Prelude.{◌≡◌, cond, List, ℕ, ◌+◌, ◌<◌, ◌≤◌, eqb, ltb, length, get_or, Option, Some, None, Result, Ok, Err}
use Rattle.exact.specs.Meaning.Word.{Letter, W, byte, bytes, IsLetter}
use Rattle.exact.specs.Meaning.Limits as Limits
use Rattle.exact.specs.Outcomes.Enums.{Says}
use Rattle.exact.specs.Meaning.Refusals as Refusals
use Rattle.exact.specs.Cases.Letters.{letters_of}
use Rattle.exact.specs.Meaning.Handed.{number, place}
use Rattle.exact.specs.declared.Refusal.{Refusal}
use Rattle.circuit_writer.specs.declared.Measured.{Measured}
use Rattle.circuit.specs.Meaning.{lines, statement_of, circuit}

-- ---- bytes that are letters
pub record Spells (w : List ℕ) : Type 0 where
  pub is : bytes (letters_of w) ≡ w

-- ---- the bytes of a letter's line, and of a word's
abbrev pub size_of : Letter → ℕ
size_of l = length (lines (statement_of l))

abbrev pub size : List Letter → ℕ
size u = length (lines (circuit u))

-- by a letter's byte
pub data SizeIs (b : ℕ) (r : Option ℕ) : Type 0 where
  letter : (l : Letter) → byte l ≡ b → r ≡ Some (size_of l) → SizeIs b r
  no_letter : (IsLetter b → ⊥) → r ≡ None → SizeIs b r

-- ---- a word measured
pub record Measures (w : List ℕ) (n : ℕ) : Type 0 where
  pub spells : Spells w
  pub is : n ≡ size (letters_of w)

-- the place of the first W, or the length
pub record PhaseIs (w : List ℕ) (p : ℕ) : Type 0 where
  pub upto : p ≤ length w
  pub before : (i : ℕ) → i < p → get_or w i 0 ≡ byte W → ⊥
  pub there : p < length w → get_or w p 0 ≡ byte W

abbrev pub past_phase : ℕ → ℕ → ℕ → ℕ
past_phase p i b = cond (ltb p i) p (cond (eqb b 87) i (i + 1))

-- each case by its refusal and place
abbrev pub refusal_of : Result Measured Refusal → ℕ × ℕ
refusal_of (Err e) = (number e, place e)
refusal_of (Ok m) = (Limits.no_refusal, 0)

abbrev pub WordIs : List ℕ → Result Measured Refusal → Type 0
WordIs w (Err e) = ⊥
WordIs w (Ok m) = Measures w m.lines × PhaseIs w m.phase

abbrev pub MeasureIs : List ℕ → Result Measured Refusal → Type 0
MeasureIs w r = Says (refusal_of r) (Refusals.letter w) (WordIs w r)
