-- Reading what was written gives the written letters back but for I, over both editions; and what is read, or written, has the circuit's own
-- matrix. Assumes nothing.
use Rattle.std.specs.Prelude.{◌≡◌, refl, true, false, List, [], ◌∷◌, ℕ, zero, suc, ◌<◌, ◌≤◌, T, length, take, drop, get_or}
use Rattle.std.proofs.Math.Path.{sym}
use Rattle.std.proofs.Common.{◌∙◌, ap, ap₂, subst, arith}
use Rattle.std.proofs.Math.Seq.{take-append_seam}
use Rattle.exact.specs.Meaning.Matrix.{Same}
use Rattle.exact.specs.Meaning.Word.{Letter, I, H, S, X, W, T', word, byte, bytes, First, Spelled}
use Rattle.exact.specs.Meaning.Normal.{NormalOf}
use Rattle.exact.specs.Meaning.Limits.{longest}
use Rattle.exact.specs.Meaning.Lent.{lent, over, untouched, Writes}
use Rattle.exact.proofs.Matrices.Same.{Same-of, Same-trans}
use Rattle.exact.proofs.Cases.Letters.{bytes_length, bytes_inj}
use Rattle.exact.proofs.Outcomes.Ladder.{Passed, answered}
use Rattle.exact.proofs.Outcomes.Lent.{handed_same, bytes_same}
use Rattle.circuit.specs.Meaning.{Edition, two, three, row, Statement, h', s', t', x', allowed, AllAllowed, text, Right, circuit}
use Rattle.circuit.specs.Meaning.{less_i, matrix, Reads}
use Rattle.qasm.specs.Meaning.{Written, refused, accepted, Circuits, write_refusals, WriteOutcome, read_refusals, ReadOutcome}
use Rattle.circuit.proofs.Lines.{allowed_append, each, computed, one_reading}
use Rattle.circuit.proofs.Gates.{letters_circuit, circuit_matrix, word_matrix}

-- ---- a word's circuit is allowed where the edition has a phase, or the word has no W
module _ (l : Letter) (u : List Letter) (other : byte l ≡ byte W → ⊥) where
  -- the first W behind another letter
  first_behind : (p : ℕ) → First (byte W) (bytes u) p → First (byte W) (bytes (l ∷ u)) (suc p)
  first_behind p f = record { there = omega (arith, f.there); is = f.is; before = before }
    where
      before : (i : ℕ) → i < suc p → get_or (bytes (l ∷ u)) i 0 ≡ byte W → ⊥
      before zero m e = other e
      before (suc i) m e = f.before i (omega arith) e

  behind : ((p : ℕ) → First (byte W) (bytes (l ∷ u)) p → ⊥) → (p : ℕ) → First (byte W) (bytes u) p → ⊥
  behind n p f = n (suc p) (first_behind p f)

allowed_none : (u : List Letter) → ((p : ℕ) → First (byte W) (bytes u) p → ⊥) → AllAllowed false (circuit u)
allowed_none [] n = tt
allowed_none (I ∷ u) n = allowed_append false (circuit u) [] (allowed_none u (behind I u (λ e. omega arith) n)) tt
allowed_none (H ∷ u) n = allowed_append false (circuit u) (h' ∷ []) (allowed_none u (behind H u (λ e. omega arith) n)) (tt, tt)
allowed_none (S ∷ u) n = allowed_append false (circuit u) (s' ∷ []) (allowed_none u (behind S u (λ e. omega arith) n)) (tt, tt)
allowed_none (X ∷ u) n = allowed_append false (circuit u) (x' ∷ []) (allowed_none u (behind X u (λ e. omega arith) n)) (tt, tt)
allowed_none (T' ∷ u) n = allowed_append false (circuit u) (t' ∷ []) (allowed_none u (behind T' u (λ e. omega arith) n)) (tt, tt)
allowed_none (W ∷ u) n = absurd (n 0 (record { there = omega arith; is = refl; before = λ i m. absurd (omega arith) }))

allowed_phase : (c : List Statement) → AllAllowed true c
allowed_phase [] = tt
allowed_phase (a ∷ c) = (each (λ a. T (allowed true a)) computed a, allowed_phase c)

allowed_circuit : (e : Edition) (u : List Letter) (old : List ℕ) → Passed (write_refusals e (bytes u) old)
    → AllAllowed (row e).has_phase (circuit u)
allowed_circuit two u old h = allowed_none u h.1.1.0
allowed_circuit three u old h = allowed_phase (circuit u)

less_i_length : (u : List Letter) → length (less_i u) ≤ length u
less_i_length [] = omega arith
less_i_length (I ∷ u) = omega (arith, less_i_length u)
less_i_length (H ∷ u) = omega (arith, less_i_length u)
less_i_length (S ∷ u) = omega (arith, less_i_length u)
less_i_length (X ∷ u) = omega (arith, less_i_length u)
less_i_length (W ∷ u) = omega (arith, less_i_length u)
less_i_length (T' ∷ u) = omega (arith, less_i_length u)

-- ---- a right text with room for its letters, if they are not too many, is read as them, and as nothing else
module _ (s : List ℕ) (v : List Letter) (x : Reads s v) (old : List ℕ) (short : length v ≤ longest) (l : length v ≤ length old) where
  same : (w : List Letter) → Reads s w → length w ≡ length v
  same w y = ap length (one_reading s w v y x)

  passed : Passed (read_refusals s old)
  passed = (
    (λ p k. k.wrong x.right),
    (
      (λ p k. omega (arith, k.0.more, same k.0.v k.0.answer)),
      ((λ p k. omega (arith, k.0.more, same k.0.v k.0.answer, bytes_length k.0.v)), tt),
    ),
  )

  pub only_read : (r : Written) (new : List ℕ) → ReadOutcome s old r new → lent r new ≡ lent (accepted (bytes v)) (over (bytes v) old)
  only_read r new q = b.is ∙ ap (λ w. lent (accepted (bytes w)) (over (bytes w) old)) (one_reading s b.v v b.answer x)
    where
      b : Writes bytes (λ w. accepted (bytes w)) (Reads s) old (lent r new)
      b =
          answered (untouched refused old) (Writes bytes (λ w. accepted (bytes w)) (Reads s) old) (read_refusals s old) passed (lent r new) q

-- ---- what was written, where none of the refusals holds
module _ (e : Edition) (u : List Letter) (old : List ℕ) (h : Passed (write_refusals e (bytes u) old)) where
  abbrev circuit_text : List ℕ
  circuit_text = text e (circuit u)

  pub written : (r : Written) (new : List ℕ) → WriteOutcome e (bytes u) old r new
      → lent r new ≡ lent (accepted circuit_text) (over circuit_text old)
  written r new o =
      a.is
      ∙ ap (λ c. lent (accepted (text e c)) (over (text e c) old))
      (a.answer.holds ∙ ap circuit (bytes_inj a.answer.letters u a.answer.spelled))
    where
      a : Writes (text e) (λ c. accepted (text e c)) (Spelled Circuits (bytes u)) old (lent r new)
      a =
          answered (untouched refused old) (Writes (text e) (λ c. accepted (text e c)) (Spelled Circuits (bytes u)) old)
          (write_refusals e (bytes u) old) h (lent r new) o

  right_written : Right circuit_text
  right_written =
      record { edition = e; circuit = circuit u; right = record { is = refl; all_allowed = allowed_circuit e u old h } }

  reads_written : Reads circuit_text (less_i u)
  unfolding right_written
  reads_written = record { right = right_written; is = sym (letters_circuit u) }

  -- of the lent bytes, as many as are said to be written
  text_there : (r : Written) (new : List ℕ) → WriteOutcome e (bytes u) old r new → take r.bytes new ≡ circuit_text
  text_there r new o =
      ap₂ take (ap (λ (x : Written). x.bytes) (handed_same (written r new o))) (bytes_same (written r new o))
      ∙ take-append_seam circuit_text (drop (length circuit_text) old)

  pub round_trip : (r : Written) (new : List ℕ) → WriteOutcome e (bytes u) old r new
      → (old' : List ℕ) → length (less_i u) ≤ length old' → (r' : Written) (new' : List ℕ) → ReadOutcome (take r.bytes new) old' r' new'
      → lent r' new' ≡ lent (accepted (bytes (less_i u))) (over (bytes (less_i u)) old')
  round_trip r new o old' l r' new' q =
      only_read circuit_text (less_i u) reads_written old' (omega (arith, less_i_length u, bytes_length u, not_long)) l r' new'
      (subst (λ t. ReadOutcome t old' r' new') (text_there r new o) q)
    where
      not_long : longest < length (bytes u) → ⊥
      not_long m = h.0 0 (m, refl)

-- ---- matrices
-- the letters that are read of a text have its circuit's own matrix, phase included
pub reads_matrix : (s : List ℕ) (v : List Letter) (x : Reads s v) → Same (matrix x.right.circuit) (word v)
reads_matrix s v x = Same-trans (circuit_matrix x.right.circuit) (Same-of (ap word (sym x.is)))

-- so the normal word of those letters, by either way of demand 3, is that of the circuit's own matrix
pub reads_normal : (s : List ℕ) (v : List Letter) (x : Reads s v) (n : List Letter) → NormalOf (word v) n → NormalOf (matrix x.right.circuit) n
reads_normal s v x n h = record { normal = h.normal; same = Same-trans (reads_matrix s v x) h.same }

-- and so has the circuit that is written of a word: in 3.0 every word's
pub writes_matrix : (w : List ℕ) (c : List Statement) (x : Spelled Circuits w c) → Same (word x.letters) (matrix c)
writes_matrix w c x = Same-trans (word_matrix x.letters) (Same-of (ap matrix (sym x.holds)))
