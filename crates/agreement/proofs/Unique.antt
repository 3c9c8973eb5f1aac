-- Two outcomes that `agree` allows are equal: both ways' answers, both buffers, and yes or no. Assumes nothing.
use Rattle.std.specs.Prelude.{◌≡◌, refl, Bool, true, false, List, ℕ, pos}
use Rattle.std.proofs.Common.{sym, ◌∙◌, subst}
use Rattle.exact.specs.Meaning.Outcome.{none, ◌then◌, HandsOn, Decides}
use Rattle.exact.specs.Meaning.Lent.{lent, untouched}
use Rattle.exact.proofs.Outcomes.Ladder.{Only, one_outcome, one_handed}
use Rattle.exact.proofs.Outcomes.Lent.{handed_same, bytes_same}
use Rattle.unitary.specs.Meaning.{FromGates}
use Rattle.unitary.specs.Unique.{matrix_unique}
use Rattle.normal_form.specs.Meaning.{Written}
use Rattle.normal_form.specs.Meaning as Job3
use Rattle.normal_form.specs.Theorems.{normalise_unique}
use Rattle.synthesis_of_clifford_t.proofs.Unique.{synthesise_unique}
use Rattle.agreement.specs.Meaning.Agree.{Agreement, earlier, handed_on, Job4Of, Second, Alike, AgreeOutcome}

-- ---- the second way
one_job4 : (m : FromGates) (old : List ℕ) → Only (Job4Of m old)
one_job4 m old r s =
    synthesise_unique (pos m.matrix.k) m.matrix.n m.matrix.z m.matrix.w old r.handed r.buffer s.handed s.buffer

second_unique : (m : FromGates) (old : List ℕ) (r : Written) (new : List ℕ) (r' : Written) (new' : List ℕ) → Second m old r new
    → Second m old r' new' → lent r new ≡ lent r' new'
second_unique m old r new r' new' =
    one_outcome (untouched Job3.refused old) (HandsOn (Job4Of m old) handed_on) (earlier m then none) ((λ p q h k. h.1 ∙ sym k.1), tt)
    (λ h. one_handed (Job4Of m old) handed_on (one_job4 m old)) (lent r new) (lent r' new')

-- ---- yes or no
module _ {a a' b b' : Written} {x x' y y' : List ℕ} where
  alike_same : lent a x ≡ lent a' x' → lent b y ≡ lent b' y' → Alike a x b y → Alike a' x' b' y'
  alike_same e f h = rw (← handed_same e, ← bytes_same e, ← handed_same f, ← bytes_same f) h

decides_unique : {P Q : Type 0} (b c : Bool) → (P → Q) → (Q → P) → Decides P b → Decides Q c → b ≡ c
decides_unique true true f g d e = refl
decides_unique true false f g d e = absurd (e.no refl (f (d.yes refl)))
decides_unique false true f g d e = absurd (d.no refl (g (e.yes refl)))
decides_unique false false f g d e = refl

-- ---- the whole
pub record Equal (r : Agreement) (new₁ new₂ : List ℕ) (r' : Agreement) (new₁' new₂' : List ℕ) : Type 0 where
  pub agreement_same : r ≡ r'
  pub first_same : new₁ ≡ new₁'
  pub second_same : new₂ ≡ new₂'

module _ (bs old₁ old₂ : List ℕ) (r : Agreement) (new₁ new₂ : List ℕ) (r' : Agreement) (new₁' new₂' : List ℕ) where
  pub agree_unique : AgreeOutcome bs old₁ old₂ r new₁ new₂ → AgreeOutcome bs old₁ old₂ r' new₁' new₂' → Equal r new₁ new₂ r' new₁' new₂'
  agree_unique a b =
      record {
        agreement_same = λ i. record { yes = answers i; first = handed_same first i; second = handed_same second i };
        first_same = bytes_same first;
        second_same = bytes_same second;
      }
    where
      first : lent r.first new₁ ≡ lent r'.first new₁'
      first = normalise_unique bs old₁ r.first new₁ r'.first new₁' a.first_is b.first_is

      moved : Second b.matrix old₂ r.second new₂
      moved =
          subst (λ (m : FromGates). Second m old₂ r.second new₂) (matrix_unique bs a.matrix b.matrix a.matrix_is b.matrix_is)
          a.second_is

      second : lent r.second new₂ ≡ lent r'.second new₂'
      second = second_unique b.matrix old₂ r.second new₂ r'.second new₂' moved b.second_is

      answers : r.yes ≡ r'.yes
      answers =
          decides_unique r.yes r'.yes (alike_same first second) (alike_same (sym first) (sym second)) a.yes_is b.yes_is
