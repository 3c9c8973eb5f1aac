-- The refusals (docs/SCOPE.md, Refusals) as values: each a number with its condition, over bytes and whole numbers.
use Rattle.std.specs.Prelude.{List, ℕ, ◌<◌, ℤ, pos, nat_abs, length, ◌≤ℤ◌}
use Rattle.exact.specs.Meaning.Number.{Ω, Sized}
use Rattle.exact.specs.Meaning.Word.{Letter, W, byte, FirstOutside, First, Spelled}
use Rattle.exact.specs.Meaning.Triple.{Triple, Unitary}
use Rattle.exact.specs.Meaning.Endings.{DeepAt}
use Rattle.exact.specs.Meaning.Limits as Limits
use Rattle.exact.specs.Meaning.Limits.{longest, deepest, largest}
use Rattle.exact.specs.Meaning.Record.{Numbers, RightRecord}
use Rattle.exact.specs.Meaning.Text.{Stops}
use Rattle.exact.specs.Meaning.Outcome.{Refusal, Refusals, none, ◌then◌, plain}

-- ---- words
-- 1: over 4,096 letters
abbrev pub long : List ℕ → Refusal
long w = plain Limits.long_refusal (longest < length w)

-- 1, by the letters of an answer
module _ (Answer : List Letter → Type 0) where
  pub record TooLong : Type 0 where
    pub v : List Letter
    pub answer : Answer v
    pub more : longest < length v

  abbrev pub long_answer : Refusal
  long_answer = plain Limits.long_refusal TooLong

-- 2: a byte that is no letter; the place is the first such
abbrev pub letter : List ℕ → Refusal
letter w = record { number = Limits.letter_refusal; At = FirstOutside w }

-- 6: an ending with reduced exponent over 60; the place is the rightmost start of such an ending
abbrev pub deep : List ℕ → Refusal
deep w = record { number = Limits.deep_refusal; At = Spelled DeepAt w }

-- 10: a W; the place is the leftmost
abbrev pub phase : List ℕ → Refusal
phase w = record { number = Limits.phase_refusal; At = First (byte W) w }

-- ---- triples
-- the numbers as they are handed in; k below 0 is refused first
abbrev pub handed_in : ℤ → ℕ → Ω → Ω → Triple
handed_in k n z w = record { k = nat_abs k; n = n; z = z; w = w }

-- 3: k below 0 or over 60
pub record InExponents (k : ℤ) : Type 0 where
  pub low : pos 0 ≤ℤ k
  pub high : k ≤ℤ pos deepest

abbrev pub exponent : ℤ → Refusal
exponent k = plain Limits.exponent_refusal (InExponents k → ⊥)

-- 4: a coefficient below -2^30 or over 2^30
pub record InCoefficients (z w : Ω) : Type 0 where
  pub z_in : Sized largest z
  pub w_in : Sized largest w

abbrev pub coefficient : Ω → Ω → Refusal
coefficient z w = plain Limits.coefficient_refusal (InCoefficients z w → ⊥)

-- 5: not unitary, in which n has no part
abbrev pub unitary : ℤ → Ω → Ω → Refusal
unitary k z w = plain Limits.unitary_refusal (Unitary (handed_in k 0 z w) → ⊥)

-- those three in their order
abbrev pub checks : ℤ → Ω → Ω → Refusals
checks k z w = exponent k then coefficient z w then unitary k z w then none

-- ---- lent memory
-- 7: an answer's text has more bytes than were lent
module _ {A : Type 0} (text : A → List ℕ) (Answer : A → Type 0) (old : List ℕ) where
  pub record TooMany : Type 0 where
    pub v : A
    pub answer : Answer v
    pub more : length old < length (text v)

  abbrev pub room : Refusal
  room = plain Limits.room_refusal TooMany

-- ---- the bench record
-- 8: no numbers have these bytes as their record
abbrev pub malformed : List ℕ → Refusal
malformed s = plain Limits.record_refusal ((x : Numbers) → RightRecord s x → ⊥)

-- ---- circuits
-- 9: not a right text; the place is the first byte that can't continue one, or the length
abbrev pub statement : (List ℕ → Type 0) → List ℕ → Refusal
statement Right s = record { number = Limits.statement_refusal; At = Stops Right s }
