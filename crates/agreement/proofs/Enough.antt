-- The rooms that are always enough, over the exports: with 5,469 bytes dunrossel_normalise never gives 7, and with 5,464 dunrossel_phase_free does
-- not; a word of at most 4,096 letters is then answered. Assumes nothing.
use Rattle.std.specs.Prelude.{◌≡◌, List, ℕ, ◌≤◌, length}
use Rattle.std.proofs.Common.{sym, ◌∙◌, ap}
use Rattle.exact.specs.Meaning.Word.{Letter, bytes}
use Rattle.exact.specs.Meaning.Limits.{longest, normal_enough, phase_free_enough, no_refusal, room_refusal}
use Rattle.normal_form.specs.Meaning.{Normalises, DropsPhase}
use Rattle.normal_form.proofs.Enough.{normalise_has_room, normalise_taken, phase_free_has_room, phase_free_taken}
use Rattle.dunrossel.specs.Meaning.Exports.{Writes}
use Rattle.agreement.specs.Meaning.Exports.{Wrote}

-- a call's refusal is its job's
refusal_is : (Answer : List Letter → List Letter → Type 0) {w old : List ℕ} {r : Wrote} (x : Writes Answer w old r) → r.0 ≡ x.job.handed.refusal
refusal_is Answer x = ap (λ (y : Wrote). y.0) x.is

module _ (old : List ℕ) (r : Wrote) where
  pub exports_normalise_has_room : normal_enough ≤ length old → (w : List ℕ) → Writes Normalises w old r → r.0 ≡ room_refusal → ⊥
  exports_normalise_has_room k w x e =
      normalise_has_room old x.job.handed x.job.buffer k w x.outcome (sym (refusal_is Normalises x) ∙ e)

  pub exports_normalise_taken : normal_enough ≤ length old → (u : List Letter) → length u ≤ longest → Writes Normalises (bytes u) old r
      → r.0 ≡ no_refusal
  exports_normalise_taken k u l x =
      refusal_is Normalises x ∙ normalise_taken old x.job.handed x.job.buffer k u l x.outcome

  pub exports_phase_free_has_room : phase_free_enough ≤ length old → (w : List ℕ) → Writes DropsPhase w old r → r.0 ≡ room_refusal → ⊥
  exports_phase_free_has_room k w x e =
      phase_free_has_room old x.job.handed x.job.buffer k w x.outcome (sym (refusal_is DropsPhase x) ∙ e)

  pub exports_phase_free_taken : phase_free_enough ≤ length old → (u : List Letter) → length u ≤ longest → Writes DropsPhase (bytes u) old r
      → r.0 ≡ no_refusal
  exports_phase_free_taken k u l x =
      refusal_is DropsPhase x ∙ phase_free_taken old x.job.handed x.job.buffer k u l x.outcome
