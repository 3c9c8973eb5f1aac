-- Two outcomes that meet the promise of job 1, or of job 2, for one input are equal, and so are the results that they are read from. Assumes nothing.
use Rattle.std.specs.Prelude.{◌≡◌, refl, List, ℕ, ℤ, Result, Ok, Err}
use Rattle.std.proofs.Common.{sym, ◌∙◌, ap}
use Rattle.exact.specs.Meaning.Matrix.{Matrix, Same}
use Rattle.exact.specs.Meaning.Word.{Letter, word, Spelled}
use Rattle.exact.specs.Meaning.Triple.{Triple, entries, Unitary}
use Rattle.exact.specs.Meaning.Outcome.{none, ◌then◌}
use Rattle.exact.specs.Meaning.Handed.{number, place, checked}
use Rattle.exact.specs.declared.Refusal.{Refusal}
use Rattle.exact.proofs.Outcomes.Handed.{one_refusal, number_some, check_place, one_result}
use Rattle.exact.specs.Meaning.Refusals.{long, letter, deep, checks}
use Rattle.exact.proofs.Matrices.Same.{Same-sym, Same-trans, Same-of}
use Rattle.exact.proofs.Matrices.Least.{answer_unique}
use Rattle.exact.proofs.Matrices.Triples.{word_triple, word_unitary, unitary_same}
use Rattle.exact.proofs.Outcomes.Ladder.{Only, one_outcome}
use Rattle.exact.proofs.Outcomes.Places.{one_plain, one_letter, one_deep, one_spelled}
use Rattle.exact.proofs.Outcomes.Checked.{checks_taken, checks_one}
use Rattle.ring.specs.Meaning.{quad}
use Rattle.ring.specs.declared.ZOmega.{ZOmega}
use Rattle.unitary.specs.declared.DOmegaUnitary.{DOmegaUnitary}
use Rattle.unitary.specs.Meaning.{triple, given, Answers, Checked, refused, as_checked, Reduces, ReduceOutcome}
use Rattle.unitary.specs.Meaning.{FromGates, stopped, as_from_gates, Multiplies, MatrixOutcome}
use Rattle.unitary.specs.Checks.{CheckOutcome}
use Rattle.unitary.specs.Results.{result_told}
use Rattle.unitary.specs.Triples.{triple_inj}

-- the answers for a unitary matrix
one_answer : (t : Triple) → Unitary t → (m : Matrix) → Same (entries t) m → (x y : DOmegaUnitary) → Answers m (triple x)
    → Answers m (triple y) → x ≡ y
one_answer t u m e x y a b =
    triple_inj
    (answer_unique (unitary_same (Same-trans e (Same-sym a.same)) u) a.reduced b.reduced a.n_small b.n_small
    (Same-trans a.same (Same-sym b.same)))

-- ---- job 1
one_reduced : (t : Triple) → Unitary t → Only (Reduces (entries t))
one_reduced t u r s a b =
    let e = one_answer t u (entries t) (Same-of refl) r.matrix s.matrix a.answer b.answer in
    λ i. record { refusal = (a.taken ∙ sym b.taken) i; matrix = e i }

pub reduce_unique : (k : ℤ) (n : ℕ) (z w : ZOmega) → Only (ReduceOutcome k n z w)
reduce_unique k n z w =
    one_outcome refused (Reduces (entries (given k n z w))) (checks k (quad z) (quad w)) (checks_one k (quad z) (quad w))
    (λ h. one_reduced (given k n z w) ((checks_taken k (quad z) (quad w) h).unitary_there n))

-- ---- job 2
one_matrix : (u : List Letter) → Only (Multiplies u)
one_matrix u r s a b =
    let e = one_answer _ (word_unitary u) (word u) (Same-of (word_triple u)) r.matrix s.matrix a.answer b.answer in
    λ i. record { refusal = (a.taken ∙ sym b.taken) i; place = (a.nowhere ∙ sym b.nowhere) i; matrix = e i }

pub matrix_unique : (w : List ℕ) → Only (MatrixOutcome w)
matrix_unique w =
    one_outcome stopped (Spelled Multiplies w) (long w then letter w then deep w then none) (one_plain, (one_letter, (one_deep, tt)))
    (λ h. one_spelled Multiplies one_matrix w)

-- ---- reading a result by its number and place loses nothing
module _ (k : ℤ) (z w : ZOmega) where
  number_once : Only (CheckOutcome k z w)
  number_once = one_outcome (λ n p. n) (λ r. r ≡ 0) (checks k (quad z) (quad w)) (checks_one k (quad z) (quad w)) (λ h r s e f. e ∙ sym f)

  nowhere : (e : Refusal) → CheckOutcome k z w (number e) → place e ≡ 0
  nowhere e c = check_place k (quad z) (quad w) {A = Unit {0}} (Err e) c e refl

  one_error : (e f : Refusal) → CheckOutcome k z w (number e) → CheckOutcome k z w (number f) → e ≡ f
  one_error e f c d = one_refusal e f (number_once (number e) (number f) c d) (nowhere e c ∙ sym (nowhere f d))

  pub check_result_unique : Only (λ (r : Result (Unit {0}) Refusal). CheckOutcome k z w (checked r))
  check_result_unique (Ok a) (Ok b) c d = refl
  check_result_unique (Ok a) (Err f) c d = absurd (number_some f (number_once (number f) 0 d c))
  check_result_unique (Err e) (Ok b) c d = absurd (number_some e (number_once (number e) 0 c d))
  check_result_unique (Err e) (Err f) c d = ap Err (one_error e f c d)

  -- job 1
  pub reduce_result_unique : (n : ℕ) → Only (λ (r : Result DOmegaUnitary Refusal). ReduceOutcome k n z w (as_checked r))
  reduce_result_unique n =
      result_told refused (λ (t : DOmegaUnitary). as_checked (Ok t)) (Reduces (entries (given k n z w))) (λ (r : Checked). r.refusal) (λ n p. refl)
      (λ r a. a.taken) (λ a. refl) (λ a b e. ap (λ (r : Checked). r.matrix) e) k z w (reduce_unique k n z w)

-- job 2
pub from_gates_told : (r s : Result DOmegaUnitary Refusal) → as_from_gates r ≡ as_from_gates s → r ≡ s
from_gates_told =
    one_result stopped (λ (t : DOmegaUnitary). as_from_gates (Ok t)) (λ (r : FromGates). r.refusal) (λ (r : FromGates). r.place) (λ n p. refl)
    (λ n p. refl) (λ a. refl) (λ a b e. ap (λ (r : FromGates). r.matrix) e)

pub matrix_result_unique : (w : List ℕ) → Only (λ (r : Result DOmegaUnitary Refusal). MatrixOutcome w (as_from_gates r))
matrix_result_unique w r s o p = from_gates_told r s (matrix_unique w (as_from_gates r) (as_from_gates s) o p)
