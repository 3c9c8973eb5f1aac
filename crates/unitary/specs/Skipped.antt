-- Programs that climb the ladder wrongly do not meet the promises of jobs 1 and 2: a refusal passed over, two looked at in another order, a place
-- forgotten. Assumes nothing.
use Rattle.std.specs.Prelude.{◌≡◌, refl, ℕ, pos}
use Rattle.std.proofs.Common.{arith}
use Rattle.exact.specs.Meaning.Word.{Spelled}
use Rattle.exact.specs.Meaning.Triple.{entries}
use Rattle.exact.specs.Meaning.Limits as Limits
use Rattle.exact.specs.Meaning.Outcome.{none, ◌then◌}
use Rattle.exact.specs.Meaning.Refusals.{long, letter, deep, InExponents, exponent, coefficient, unitary}
use Rattle.exact.proofs.Cases.Outside.{third, i_third}
use Rattle.exact.proofs.Outcomes.Ladder.{only_refused}
use Rattle.exact.proofs.Outcomes.Places.{one_plain, one_letter}
use Rattle.ring.specs.Meaning.{quad}
use Rattle.ring.specs.declared.ZOmega.{ZOmega}
use Rattle.unitary.specs.Meaning.{Checked, FromGates, given, refused, Reduces, ReduceOutcome, stopped, Multiplies, MatrixOutcome}

-- ---- k over 60 and a coefficient over 2^30: neither accepted nor refused 4, but 3
abbrev number : ℕ → ZOmega
number n = record { a = pos 0; b = pos 0; c = pos 0; d = pos n }

abbrev large : ZOmega
large = number 1073741825

over_sixty : InExponents (pos 61) → ⊥
over_sixty h = h.high.le

pub exponent_first : (r : Checked) → ReduceOutcome (pos 61) 0 large (number 0) r → r ≡ refused Limits.exponent_refusal 0
exponent_first =
    only_refused refused (Reduces (entries (given (pos 61) 0 large (number 0)))) (exponent (pos 61)) one_plain 0 (over_sixty, refl) none
    (coefficient (quad large) (quad (number 0)) then unitary (pos 61) (quad large) (quad (number 0)) then none) tt

-- ---- the word HHi: refused 2, at place 2 and at no other
pub place_kept : (r : FromGates) → MatrixOutcome third r → r ≡ stopped Limits.letter_refusal 2
place_kept =
    only_refused stopped (Spelled Multiplies third) (letter third) one_letter 2 i_third (long third then none) (deep third then none)
    ((λ p h. omega (arith, h.0)), tt)
