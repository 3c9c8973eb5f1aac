-- Jobs 3 and 5 write a cheapest spelling, through their outcomes: what an accepted call wrote has the fewest T letters of all words with the given
-- word's matrix, up to a phase too, the number handed back is theirs, and all such words have its parity. Assumes nothing.
use Rattle.std.specs.Prelude.{◌≡◌, List, ℕ, take}
use Rattle.std.proofs.Common.{ap}
use Rattle.exact.specs.Meaning.Matrix.{ByOmega}
use Rattle.exact.specs.Meaning.Word.{Letter, word, bytes, Spelled}
use Rattle.exact.specs.Meaning.Cheapest.{Cheapest}
use Rattle.exact.specs.Meaning.Limits.{no_refusal}
use Rattle.exact.proofs.Outcomes.Places.{of_bytes}
use Rattle.exact.proofs.Unique.Cheapest.{SpelledCheapest, normal_spelled, phase_free_spelled}
use Rattle.normal_form.specs.Meaning.{Written, Normalises, DropsPhase, NormaliseOutcome, PhaseFreeOutcome}
use Rattle.normal_form.specs.Again.{answer_of_lem, counted, bytes_written}

module _ (u : List Letter) {old : List ℕ} {r : Written} {new : List ℕ} where
  pub normalise_cheapest : NormaliseOutcome (bytes u) old r new → r.refusal ≡ no_refusal → SpelledCheapest (word u) (take r.bytes new) r.tees
  normalise_cheapest o e =
      let a = answer_of_lem Normalises o e in
      normal_spelled a.v (of_bytes u a.answer) (bytes_written Normalises o e) (ap (λ (x : Written). x.tees) (counted Normalises o e))

  pub phase_free_cheapest_5 : PhaseFreeOutcome (bytes u) old r new → r.refusal ≡ no_refusal
      → Spelled (Cheapest ByOmega (word u)) (take r.bytes new) r.tees
  phase_free_cheapest_5 o e =
      let a = answer_of_lem DropsPhase o e in
      phase_free_spelled a.v (of_bytes u a.answer) (bytes_written DropsPhase o e) (ap (λ (x : Written). x.tees) (counted DropsPhase o e))
