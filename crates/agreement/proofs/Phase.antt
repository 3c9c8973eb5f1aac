-- Phases over the exports: two accepted calls of dunrossel_phase_free leave the same bytes exactly when the words' matrices differ by a power of
-- omega; and beside dunrossel_normalise it leaves as many T letters and no more bytes. Assumes nothing.
use Rattle.std.specs.Prelude.{◌≡◌, List, ℕ, ◌≤◌, get_or}
use Rattle.std.proofs.Common.{sym, ◌∙◌, ap, ap₂, arith}
use Rattle.exact.specs.Meaning.Matrix.{ByOmega}
use Rattle.exact.specs.Meaning.Word.{Letter, word, bytes}
use Rattle.exact.specs.Meaning.Limits.{no_refusal}
use Rattle.normal_form.specs.Meaning.{Written, Normalises, DropsPhase}
use Rattle.normal_form.specs.Phase.{written_by_omega, by_omega_written, counts_beside}
use Rattle.handed.specs.Meaning.{counts}
use Rattle.dunrossel.specs.Meaning.Exports.{Writes}
use Rattle.agreement.specs.Meaning.Exports.{Wrote, seen}
use Rattle.agreement.proofs.Again.{text_of}

-- the refusal of a call is its job's
pub job_taken : (Answer : List Letter → List Letter → Type 0) {w old : List ℕ} {r : Wrote} (x : Writes Answer w old r) → r.0 ≡ no_refusal
    → x.job.handed.refusal ≡ no_refusal
job_taken Answer x e = sym (ap (λ (y : Wrote). y.0) x.is) ∙ e

module _ (u u' : List Letter) {old old' : List ℕ} {r r' : Wrote}
    (x : Writes DropsPhase (bytes u) old r) (x' : Writes DropsPhase (bytes u') old' r') (e : r.0 ≡ no_refusal) (e' : r'.0 ≡ no_refusal) where
  pub exports_written_by_omega : text_of r ≡ text_of r' → ByOmega (word u) (word u')
  exports_written_by_omega s =
      written_by_omega u u' x.outcome x'.outcome (job_taken DropsPhase x e) (job_taken DropsPhase x' e')
      (sym (ap text_of x.is) ∙ s ∙ ap text_of x'.is)

  -- the counts are the same too
  pub exports_by_omega_written : ByOmega (word u) (word u') → seen r ≡ seen r'
  exports_by_omega_written d =
      let same = by_omega_written u u' x.outcome x'.outcome (job_taken DropsPhase x e) (job_taken DropsPhase x' e') d in
      ap seen x.is ∙ ap₂ left same.0 same.1 ∙ sym (ap seen x'.is)
    where
      left : Written → List ℕ → ℕ × (List ℕ × List ℕ)
      left h t = (h.refusal, (counts h, t))

-- of place, bytes and T letters
abbrev pub bytes_in : Wrote → ℕ
bytes_in r = get_or r.1.0 1 0

abbrev pub tees_in : Wrote → ℕ
tees_in r = get_or r.1.0 2 0

pub exports_beside : (u : List Letter) {old old' : List ℕ} {r r' : Wrote}
    → Writes Normalises (bytes u) old r → Writes DropsPhase (bytes u) old' r' → r.0 ≡ no_refusal → r'.0 ≡ no_refusal
    → (tees_in r' ≡ tees_in r) × (bytes_in r' ≤ bytes_in r)
exports_beside u x x' e e' =
    let b = counts_beside u x.outcome x'.outcome (job_taken Normalises x e) (job_taken DropsPhase x' e') in
    (ap tees_in x'.is ∙ b.0 ∙ sym (ap tees_in x.is), omega (arith, b.1, ap bytes_in x.is, ap bytes_in x'.is))
