-- Slots over the exports: the length that is answered is the number in the record, and as many bytes dunrossel_normalise writes for any letters that
-- give the record, which are the record's text; and the record at the end of an added letter is that of those letters and it. Assumes nothing.
use Rattle.std.specs.Prelude.{◌≡◌, List, [], ◌∷◌, ◌++◌, ℕ, get_or}
use Rattle.std.proofs.Common.{sym, ◌∙◌, ap, subst}
use Rattle.exact.specs.Meaning.Word.{Letter, byte, bytes}
use Rattle.exact.specs.Meaning.Normal.{Shape, spell}
use Rattle.exact.specs.Meaning.Limits.{no_refusal}
use Rattle.normal_form.specs.Meaning.{Normalises}
use Rattle.slot.specs.Meaning.{slot_of, Shows, GivenBy}
use Rattle.slot.proofs.Theorems.{job_text, job_long, length_own, add_own, add_given}
use Rattle.dunrossel.specs.Meaning.Exports.{Writes, Extends, Measures}
use Rattle.agreement.specs.Meaning.Exports.{Wrote}
use Rattle.agreement.proofs.Again.{text_of}
use Rattle.agreement.proofs.Phase.{job_taken, bytes_in}

-- ---- an accepted call of job 3 on letters that give the record
module _ {u : List Letter} {syllables rest : List ℕ} (g : GivenBy u (slot_of syllables rest)) {old : List ℕ} {r : Wrote}
    (x : Writes Normalises (bytes u) old r) (e : r.0 ≡ no_refusal) where
  pub exports_slot_text : {n : Shape} → Shows n (slot_of syllables rest) → text_of r ≡ bytes (spell n)
  exports_slot_text s = ap text_of x.is ∙ job_text g x.outcome (job_taken Normalises x e) s

  pub exports_slot_bytes : bytes_in r ≡ get_or rest 1 0
  exports_slot_bytes = ap bytes_in x.is ∙ job_long g x.outcome (job_taken Normalises x e)

-- ---- the length
pub exports_slot_length : {syllables rest : List ℕ} {r : ℕ × ℕ} → Measures syllables rest r → r.0 ≡ no_refusal → r.1 ≡ get_or rest 1 0
exports_slot_length y e =
    ap (λ (p : ℕ × ℕ). p.1) y.is ∙ length_own y.outcome (sym (ap (λ (p : ℕ × ℕ). p.0) y.is) ∙ e)

-- ---- a letter added: refusal, codes, numbers, length
abbrev Leaves : Type 0
Leaves = ℕ × (List ℕ × (List ℕ × ℕ))

module _ {b : ℕ} {syllables rest : List ℕ} {r : Leaves} (y : Extends b syllables rest r) (e : r.0 ≡ no_refusal) where
  taken : y.job.answer.refusal ≡ no_refusal
  taken = sym (ap (λ (p : Leaves). p.0) y.is) ∙ e

  pub exports_slot_added : r.1.1.1 ≡ get_or r.1.1.0 1 0
  exports_slot_added =
      ap (λ (p : Leaves). p.1.1.1) y.is ∙ add_own y.outcome taken ∙ sym (ap (λ (p : Leaves). get_or p.1.1.0 1 0) y.is)

  pub exports_slot_given : (u : List Letter) → GivenBy u (slot_of syllables rest) → (l : Letter) → byte l ≡ b
      → GivenBy (u ++ (l ∷ [])) (slot_of r.1.0 r.1.1.0)
  exports_slot_given u g l k =
      subst (λ (p : Leaves). GivenBy (u ++ (l ∷ [])) (slot_of p.1.0 p.1.1.0)) (sym y.is) (add_given y.outcome taken u g l k)
