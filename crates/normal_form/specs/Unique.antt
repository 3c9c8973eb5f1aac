-- Jobs 3 and 5: an answer is the only one, and two allowed outcomes are equal. Assumes nothing.
use Rattle.std.specs.Prelude.{◌≡◌, List, ℕ}
use Rattle.exact.specs.Meaning.Word.{Letter as Gate, word, bytes, Spelled}
use Rattle.exact.specs.Meaning.Lent.{lent, untouched, Writes}
use Rattle.exact.proofs.Unique.PhaseFree.{phase_free_once}
use Rattle.exact.proofs.Outcomes.Ladder.{Only, one_outcome}
use Rattle.exact.proofs.Outcomes.Places.{one_plain, one_letter, one_spelled, one_normal}
use Rattle.exact.proofs.Outcomes.Lent.{one_written}
use Rattle.normal_form.specs.Meaning.{Written, Normalises, DropsPhase, refused, counts, word_refusals, WordOutcome}

-- ---- an answer is the only one
pub normalises_single : (u : List Gate) → Only (Normalises u)
normalises_single u = one_normal (word u)

pub drops_single : (u : List Gate) → Only (DropsPhase u)
drops_single u v v' = phase_free_once

-- ---- two allowed outcomes are equal
pub outcome_unique : {Answer : List Gate → List Gate → Type 0} → ((u : List Gate) → Only (Answer u))
    → (w old : List ℕ) (r : Written) (new : List ℕ) (r' : Written) (new' : List ℕ)
    → WordOutcome Answer w old r new → WordOutcome Answer w old r' new' → lent r new ≡ lent r' new'
outcome_unique {Answer} one w old r new r' new' =
    one_outcome (untouched refused old) (Writes bytes counts (Spelled Answer w) old)
    (word_refusals Answer w old) (one_plain, (one_letter, (one_plain, tt)))
    (λ h. one_written bytes counts (Spelled Answer w) old (one_spelled Answer one w)) (lent r new) (lent r' new')
