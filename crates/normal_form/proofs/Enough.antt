-- 5,469 bytes are always enough for job 3 and 5,464 for job 5: with that room neither refuses 7, and a word that is not too long is answered;
-- and no fewer are enough. Assumes nothing.
use Rattle.std.specs.Prelude.{◌≡◌, refl, List, ℕ, ◌<◌, ◌≤◌, length}
use Rattle.std.proofs.Common.{sym, ◌∙◌, ap, arith}
use Rattle.exact.specs.Meaning.Word.{Letter, bytes, Spelled}
use Rattle.exact.specs.Meaning.Limits.{longest, normal_enough, phase_free_enough, no_refusal, long_refusal, letter_refusal, room_refusal}
use Rattle.exact.specs.Meaning.Outcome.{Rung}
use Rattle.exact.specs.Meaning.Lent.{lent, over, untouched, Writes}
use Rattle.exact.proofs.Cases.Letters.{bytes_length, none_outside}
use Rattle.exact.proofs.Outcomes.Ladder.{answered}
use Rattle.exact.proofs.Outcomes.Lent.{handed_same}
use Rattle.lengths.proofs.Longest.{normal_enough_lem, phase_free_enough_lem, normal_attained, phase_free_attained}
use Rattle.normal_form.specs.Meaning.{Written, Normalises, DropsPhase, refused, counts, word_refusals, WordOutcome, NormaliseOutcome, PhaseFreeOutcome}
use Rattle.normal_form.specs.Unique.{normalises_single, drops_single}
use Rattle.normal_form.specs.Theorems.{only_refused}
use Rattle.normal_form.specs.Enough.{fits}

module _ (Answer : List Letter → List Letter → Type 0) (n : ℕ) (few : (u v : List Letter) → length u ≤ longest → Answer u v → length v ≤ n)
    (old : List ℕ) (k : n ≤ length old) where
  module _ (r : Written) (new : List ℕ) where
    -- another number is handed back
    other : (x : Written) (b : List ℕ) → lent r new ≡ lent x b → (x.refusal ≡ room_refusal → ⊥) → r.refusal ≡ room_refusal → ⊥
    other x b e f g = f (sym (ap (λ (y : Written). y.refusal) (handed_same e)) ∙ g)

    never_room : (w : List ℕ) → WordOutcome Answer w old r new → r.refusal ≡ room_refusal → ⊥
    never_room w (Rung.given p h e) g = other (refused long_refusal p) old e (λ f. omega arith) g
    never_room w (Rung.passed s (Rung.given p h e)) g = other (refused letter_refusal p) old e (λ f. omega arith) g
    never_room w (Rung.passed s (Rung.passed i (Rung.given p h e))) g =
        let short : (longest < length w → ⊥) = λ l. s 0 (l, refl) in
        fits Answer n few old k w (omega arith) h.0
    never_room w (Rung.passed s (Rung.passed i (Rung.passed m a))) g = other (counts a.v) (over (bytes a.v) old) a.is (λ f. omega arith) g

    taken : (u : List Letter) → length u ≤ longest → WordOutcome Answer (bytes u) old r new → r.refusal ≡ no_refusal
    taken u l o =
        let a =
        answered (untouched refused old) (Writes bytes counts (Spelled Answer (bytes u)) old) (word_refusals Answer (bytes u) old) (
          (λ p h. omega (arith, h.0, bytes_length u)),
          (none_outside u, ((λ p h. fits Answer n few old k (bytes u) (omega (arith, bytes_length u)) h.0), tt)),
        ) (lent r new) o in
        ap (λ (y : Written). y.refusal) (handed_same a.is)

-- ---- job 3 with 5,469 bytes, job 5 with 5,464
module _ (old : List ℕ) (r : Written) (new : List ℕ) where
  pub normalise_has_room : normal_enough ≤ length old → (w : List ℕ) → NormaliseOutcome w old r new → r.refusal ≡ room_refusal → ⊥
  normalise_has_room k = never_room Normalises normal_enough normal_enough_lem old k r new

  pub normalise_taken : normal_enough ≤ length old → (u : List Letter) → length u ≤ longest → NormaliseOutcome (bytes u) old r new
      → r.refusal ≡ no_refusal
  normalise_taken k = taken Normalises normal_enough normal_enough_lem old k r new

  pub phase_free_has_room : phase_free_enough ≤ length old → (w : List ℕ) → PhaseFreeOutcome w old r new → r.refusal ≡ room_refusal → ⊥
  phase_free_has_room k = never_room DropsPhase phase_free_enough phase_free_enough_lem old k r new

  pub phase_free_taken : phase_free_enough ≤ length old → (u : List Letter) → length u ≤ longest → PhaseFreeOutcome (bytes u) old r new
      → r.refusal ≡ no_refusal
  phase_free_taken k = taken DropsPhase phase_free_enough phase_free_enough_lem old k r new

  -- ---- no less is: with fewer bytes a word of 4,096 letters is refused 7
  pub normalise_needs : length old < normal_enough → NormaliseOutcome (bytes normal_attained.letters) old r new
      → lent r new ≡ lent (refused room_refusal 0) old
  normalise_needs l o =
      let a = normal_attained in
      only_refused Normalises normalises_single a.letters a.answer old a.few a.holds r new
      (omega (arith, bytes_length a.answer, a.size)) o

  pub phase_free_needs : length old < phase_free_enough → PhaseFreeOutcome (bytes phase_free_attained.letters) old r new
      → lent r new ≡ lent (refused room_refusal 0) old
  phase_free_needs l o =
      let a = phase_free_attained in
      only_refused DropsPhase drops_single a.letters a.answer old a.few a.holds r new
      (omega (arith, bytes_length a.answer, a.size)) o
