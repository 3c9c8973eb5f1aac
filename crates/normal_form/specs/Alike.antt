-- Two words to which a job has the same answers have one outcome of it, refusal 7 among them. Assumes nothing.
use Rattle.std.specs.Prelude.{◌≡◌, refl, List, ℕ, ◌≤◌, length}
use Rattle.exact.specs.Meaning.Word.{Letter, bytes, Spelled}
use Rattle.exact.specs.Meaning.Limits.{longest}
use Rattle.exact.specs.Meaning.Outcome.{none, ◌then◌}
use Rattle.exact.specs.Meaning.Lent.{lent, untouched, Writes}
use Rattle.exact.specs.Meaning.Refusals as Refusals
use Rattle.exact.specs.Meaning.Refusals.{long, room}
use Rattle.exact.proofs.Outcomes.Ladder.{Only, skip, pass}
use Rattle.exact.proofs.Outcomes.Places.{of_bytes}
use Rattle.exact.proofs.Outcomes.Lent.{written_as}
use Rattle.normal_form.specs.Meaning.{Written, refused, counts, WordOutcome}
use Rattle.normal_form.specs.Unique.{outcome_unique}
use Rattle.normal_form.specs.Ways.{word_passes}

module _ (Answer : List Letter → List Letter → Type 0) (one : (u : List Letter) → Only (Answer u)) (u u' : List Letter)
    (to : (v : List Letter) → Answer u v → Answer u' v) (from : (v : List Letter) → Answer u' v → Answer u v) (l : length u ≤ longest)
    (l' : length u' ≤ longest) (old : List ℕ) where
  spelt : (x x' v : List Letter) → (Answer x v → Answer x' v) → Spelled Answer (bytes x) v → Spelled Answer (bytes x') v
  spelt x x' v f h = record { letters = x'; spelled = refl; holds = f (of_bytes x h) }

  moved : (r : Written) (new : List ℕ) → WordOutcome Answer (bytes u) old r new → WordOutcome Answer (bytes u') old r new
  moved r new o =
      pass (untouched refused old) (Writes bytes counts (Spelled Answer (bytes u')) old)
      (long (bytes u') then Refusals.letter (bytes u') then none) (room bytes (Spelled Answer (bytes u')) old then none) (word_passes u' l') (lent r new)
      (written_as bytes counts counts (Spelled Answer (bytes u)) (Spelled Answer (bytes u')) old refused refused (λ x. x) (λ n p. refl) (λ v. refl)
      (λ v. spelt u u' v (to v)) (λ v. spelt u' u v (from v)) (lent r new)
      (skip (untouched refused old) (Writes bytes counts (Spelled Answer (bytes u)) old)
      (long (bytes u) then Refusals.letter (bytes u) then none) (room bytes (Spelled Answer (bytes u)) old then none) (word_passes u l) (lent r new) o))

  pub alike : (r : Written) (new : List ℕ) (r' : Written) (new' : List ℕ) → WordOutcome Answer (bytes u) old r new
      → WordOutcome Answer (bytes u') old r' new' → lent r new ≡ lent r' new'
  alike r new r' new' o o' = outcome_unique one (bytes u') old r new r' new' (moved r new o) o'
