-- Under demand 3's conditions `agree` answers yes; and what either way says that it wrote is there. Assumes nothing.
use Rattle.std.specs.Prelude.{◌≡◌, refl, Bool, true, false, List, ℕ, ◌≤◌, pos, length, take}
use Rattle.std.proofs.Common.{sym, ◌∙◌, ap, arith}
use Rattle.exact.specs.Meaning.Word.{Letter, bytes, Spelled}
use Rattle.exact.specs.Meaning.Limits.{enough}
use Rattle.exact.specs.Meaning.Outcome.{none, ◌then◌, HandsOn, Decides}
use Rattle.exact.specs.Meaning.Lent.{Lent, lent, over, untouched}
use Rattle.exact.proofs.Cases.Letters.{bytes_length}
use Rattle.exact.proofs.Outcomes.Ladder.{answered, always}
use Rattle.exact.proofs.Outcomes.Lent.{written_there}
use Rattle.unitary.specs.Meaning.{FromGates}
use Rattle.normal_form.specs.Meaning as Job3
use Rattle.normal_form.specs.Meaning.{Written, Normalises, WordOutcome, NormaliseOutcome, word_refusals}
use Rattle.synthesis_of_clifford_t.specs.Meaning.{Synthesis}
use Rattle.synthesis_of_clifford_t.proofs.Enough.{bytes_there}
use Rattle.agreement.specs.Meaning.Demand3.{Within, Agreed}
use Rattle.agreement.specs.Meaning.Agree.{Agreement, earlier, handed_on, Job4Of, Second, AgreeOutcome}
use Rattle.agreement.proofs.Jobs.{taken_2, ways_agree, written}

-- ---- yes
decided : {P : Type 0} (b : Bool) → Decides P b → P → b ≡ true
decided true d p = refl
decided false d p = absurd (d.no refl p)

module _ (u : List Letter) (w : Within u) (old₁ old₂ : List ℕ) (h : enough ≤ length old₁) (k : enough ≤ length old₂) where
  pub agree_yes : (r : Agreement) (new₁ new₂ : List ℕ) → AgreeOutcome (bytes u) old₁ old₂ r new₁ new₂ → r.yes ≡ true
  agree_yes r new₁ new₂ a =
      decided r.yes a.yes_is
      (record {
        first_taken = ap refusal g.first_is;
        second_taken = ap refusal second_is;
        same_bytes = ap taken g.first_is ∙ written v old₁ ∙ sym (ap taken second_is ∙ written v old₂);
      })
    where
      refusal : Lent Written → ℕ
      refusal l = l.handed.refusal

      taken : Lent Written → List ℕ
      taken l = take l.handed.bytes l.buffer

      second : HandsOn (Job4Of a.matrix old₂) handed_on (lent r.second new₂)
      second =
          answered (untouched Job3.refused old₂) (HandsOn (Job4Of a.matrix old₂) handed_on) (earlier a.matrix then none)
          ((λ p e. e.0 (taken_2 u w a.matrix a.matrix_is)), tt) (lent r.second new₂) a.second_is

      both : (v : List Letter) × Agreed u v old₁ old₂ (lent r.first new₁) a.matrix second.job
      both =
          ways_agree w
          (record { room₁ = h; room₂ = k; normalised = a.first_is; multiplied = a.matrix_is; synthesised = second.outcome })

      v : List Letter
      v = both.0

      g : Agreed u v old₁ old₂ (lent r.first new₁) a.matrix second.job
      g = both.1

      second_is : lent r.second new₂ ≡ lent (Job3.counts v) (over (bytes v) old₂)
      second_is = second.is ∙ ap handed_on g.second_is

-- ---- what is written is there
pub word_there : (Answer : List Letter → List Letter → Type 0) (bs old : List ℕ) (r : Written) (new : List ℕ) → WordOutcome Answer bs old r new
    → r.bytes ≤ length new
word_there Answer bs old r new =
    written_there bytes Job3.counts (Spelled Answer bs) old Job3.refused (λ x. x.bytes) (λ n p. refl) (λ v. sym (bytes_length v))
    (word_refusals Answer bs old) (lent r new)

pub first_there : (bs old : List ℕ) (r : Written) (new : List ℕ) → NormaliseOutcome bs old r new → r.bytes ≤ length new
first_there = word_there Normalises

job4_there : (m : FromGates) (old : List ℕ) (j : Lent Synthesis) → Job4Of m old j → j.handed.bytes ≤ length j.buffer
job4_there m old j = bytes_there (pos m.matrix.k) m.matrix.n m.matrix.z m.matrix.w old j.handed j.buffer

pub second_there : (m : FromGates) (old : List ℕ) (r : Written) (new : List ℕ) → Second m old r new → r.bytes ≤ length new
second_there m old r new =
    always (untouched Job3.refused old) (HandsOn (Job4Of m old) handed_on) (λ (x : Lent Written). x.handed.bytes ≤ length x.buffer)
    (λ n p. omega arith) (earlier m then none)
    (λ g x h. rw h.is (job4_there m old h.job h.outcome)) (lent r new)
