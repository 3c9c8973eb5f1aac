-- Job 5 and phases, through its outcomes: two words leave the same bytes exactly when their matrices differ by a power of omega; a W put in changes
-- nothing; and beside job 3 it leaves as many T letters and no more bytes. Assumes nothing.
use Rattle.std.specs.Prelude.{◌≡◌, false, List, [], ◌∷◌, ◌++◌, ℕ, ◌≤◌, length, take}
use Rattle.std.proofs.Common.{sym, ◌∙◌, ap, subst, append_assoc, arith, length-append}
use Rattle.exact.specs.Meaning.Matrix.{ByOmega}
use Rattle.exact.specs.Meaning.Word.{Letter, W, word, tees, bytes}
use Rattle.exact.specs.Meaning.Limits.{longest, no_refusal}
use Rattle.exact.specs.Meaning.Lent.{lent}
use Rattle.exact.proofs.Matrices.Same.{Same-of, Same-trans}
use Rattle.exact.proofs.Matrices.Phase.{ws_behind}
use Rattle.exact.proofs.Unique.PhaseFree.{phase_free_tees, phase_free_length, by_omega_same, same_by_omega, power_named}
use Rattle.exact.proofs.Cases.Letters.{bytes_inj, bytes_length}
use Rattle.exact.proofs.Outcomes.Places.{of_bytes, one_normal}
use Rattle.exact.proofs.Outcomes.Lent.{handed_same}
use Rattle.clifford.proofs.Words.{under, pass}
use Rattle.reading.specs.Readings.{start, run}
use Rattle.writing.specs.Endings.{text_of}
use Rattle.normal_form.specs.Meaning.{Written, Normalises, DropsPhase, counts, NormaliseOutcome, PhaseFreeOutcome}
use Rattle.normal_form.specs.Unique.{drops_single}
use Rattle.normal_form.specs.Theorems.{only_fits}
use Rattle.normal_form.specs.Again.{answer_of_lem, counted, bytes_written}
use Rattle.normal_form.specs.Answers.{answers}
use Rattle.normal_form.specs.Alike.{alike}

-- ---- the same bytes, and a power of omega between the matrices
module _ (u u' : List Letter) {old old' : List ℕ} {r r' : Written} {new new' : List ℕ} (o : PhaseFreeOutcome (bytes u) old r new)
    (o' : PhaseFreeOutcome (bytes u') old' r' new') (e : r.refusal ≡ no_refusal) (e' : r'.refusal ≡ no_refusal) where
  freed : DropsPhase u (answer_of_lem DropsPhase o e).v
  freed = of_bytes u (answer_of_lem DropsPhase o e).answer

  freed' : DropsPhase u' (answer_of_lem DropsPhase o' e').v
  freed' = of_bytes u' (answer_of_lem DropsPhase o' e').answer

  pub written_by_omega : take r.bytes new ≡ take r'.bytes new' → ByOmega (word u) (word u')
  written_by_omega s =
      same_by_omega freed freed'
      (bytes_inj (answer_of_lem DropsPhase o e).v (answer_of_lem DropsPhase o' e').v
      (sym (bytes_written DropsPhase o e) ∙ s ∙ bytes_written DropsPhase o' e'))

  pub by_omega_written : ByOmega (word u) (word u') → (r ≡ r') × (take r.bytes new ≡ take r'.bytes new')
  by_omega_written d =
      let same = by_omega_same freed freed' d in (
        counted DropsPhase o e ∙ ap counts same ∙ sym (counted DropsPhase o' e'),
        bytes_written DropsPhase o e ∙ ap bytes same ∙ sym (bytes_written DropsPhase o' e'),
      )

-- the power between two words is one
pub power_once : (u u' : List Letter) (d d' : ByOmega (word u) (word u')) → d.power ≡ d'.power
power_once u u' d d' = power_named (answers false u) (answers false u') d ∙ sym (power_named (answers false u) (answers false u') d')

-- ---- words that differ by a phase have one outcome, refusal 7 among them
turned : (u u' : List Letter) → ByOmega (word u) (word u') → (v : List Letter) → DropsPhase u v → DropsPhase u' v
turned u u' d v a = subst (DropsPhase u') (sym (by_omega_same a (answers false u') d)) (answers false u')

back : (u u' : List Letter) → ByOmega (word u) (word u') → (v : List Letter) → DropsPhase u' v → DropsPhase u v
back u u' d v a = subst (DropsPhase u) (by_omega_same (answers false u) a d) (answers false u)

module _ (u u' : List Letter) (d : ByOmega (word u) (word u')) (l : length u ≤ longest) (l' : length u' ≤ longest) (old : List ℕ) where
  pub phase_apart : (r : Written) (new : List ℕ) (r' : Written) (new' : List ℕ) → PhaseFreeOutcome (bytes u) old r new
      → PhaseFreeOutcome (bytes u') old r' new' → lent r new ≡ lent r' new'
  phase_apart = alike DropsPhase drops_single u u' (turned u u' d) (back u u' d) l l' old

-- a W put in, before v
W_turns : (u v : List Letter) → ByOmega (word (u ++ (W ∷ v))) (word (u ++ v))
W_turns u v =
    record {
      power = 1;
      few = omega arith;
      same =
          Same-trans (under u (pass 1 v)).same
          (Same-of (ap word (sym (append_assoc u v (W ∷ []))) ∙ ws_behind (u ++ v) 1));
    }

pub W_put_in : (u v : List Letter) → length (u ++ (W ∷ v)) ≤ longest → (old : List ℕ) (r : Written) (new : List ℕ) (r' : Written) (new' : List ℕ)
    → PhaseFreeOutcome (bytes (u ++ (W ∷ v))) old r new → PhaseFreeOutcome (bytes (u ++ v)) old r' new' → lent r new ≡ lent r' new'
W_put_in u v l old =
    phase_apart (u ++ (W ∷ v)) (u ++ v) (W_turns u v) l (omega (arith, length-append u v, length-append u (W ∷ v))) old

-- ---- beside job 3: as many T letters, no more bytes, and so room wherever job 3 had it
pub beside_normal : (u v p : List Letter) → Normalises u v → DropsPhase u p → (tees p ≡ tees v) × (length p ≤ length v)
beside_normal u v p n f =
    let whole = one_normal (word u) f.whole v (record { normal = f.phase_free.normal; same = f.same }) n in
    (phase_free_tees f.phase_free ∙ ap tees whole, omega (arith, phase_free_length f.phase_free, ap length whole))

module _ (u : List Letter) {old old' : List ℕ} {r r' : Written} {new new' : List ℕ} (o : NormaliseOutcome (bytes u) old r new)
    (o' : PhaseFreeOutcome (bytes u) old' r' new') (e : r.refusal ≡ no_refusal) where
  beside : (p : List Letter) → DropsPhase u p → (tees p ≡ r.tees) × (length p ≤ r.bytes)
  beside p f =
      let a = answer_of_lem Normalises o e in
      let b = beside_normal u a.v p (of_bytes u a.answer) f in
      (b.0 ∙ sym (ap (λ (x : Written). x.tees) (counted Normalises o e)), omega (arith, b.1, ap (λ (x : Written). x.bytes) (counted Normalises o e)))

  pub counts_beside : r'.refusal ≡ no_refusal → (r'.tees ≡ r.tees) × (r'.bytes ≤ r.bytes)
  counts_beside e' =
      let a = answer_of_lem DropsPhase o' e' in
      let b = beside a.v (of_bytes u a.answer) in
      let c = counted DropsPhase o' e' in
      (ap (λ (x : Written). x.tees) c ∙ b.0, omega (arith, b.1, ap (λ (x : Written). x.bytes) c))

  pub room_beside : length u ≤ longest → r.bytes ≤ length old' → r'.refusal ≡ no_refusal
  room_beside l k =
      let p = text_of false (run start u) in
      let f = answers false u in
      ap (λ (x : Written). x.refusal)
      (handed_same (only_fits DropsPhase drops_single u p old' l f r' new' (omega (arith, bytes_length p, (beside p f).1)) o'))
