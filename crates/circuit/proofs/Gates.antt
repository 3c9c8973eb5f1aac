-- A circuit's own matrix is that of its letters, for every circuit; and a word and its circuit have one matrix. Assumes nothing.
use Rattle.std.specs.Prelude.{◌≡◌, refl, List, [], ◌∷◌, ◌++◌}
use Rattle.std.proofs.Common.{sym, ◌∙◌, ap}
use Rattle.exact.specs.Meaning.Matrix.{unit, ◌·◌, Same}
use Rattle.exact.specs.Meaning.Word.{Letter, I, H, S, X, W, T', letter, word}
use Rattle.exact.proofs.Matrices.Same.{Same-refl, Same-sym, Same-trans, Same-of, Same-mul, unit_mul}
use Rattle.exact.proofs.Matrices.Words.{word_append}
use Rattle.exact.proofs.Matrices.Test.{same_by}
use Rattle.circuit.specs.Meaning.{Statement, s', t', sdg, tdg, gate, matrix, read_as, letters, statement_of, circuit, less_i}
use Rattle.circuit.proofs.Lines.{each, letters_append}

-- ---- sdg and tdg are the inverses of s and t
pub sdg_inverse : Same (gate sdg · gate s') unit
sdg_inverse = same_by (gate sdg · gate s') unit tt

pub tdg_inverse : Same (gate tdg · gate t') unit
tdg_inverse = same_by (gate tdg · gate t') unit tt

-- ---- each statement, and a circuit of them
gate_letters : (a : Statement) → Same (gate a) (word (read_as a))
gate_letters = each (λ a. Same (gate a) (word (read_as a)))
    (same_by _ _ tt, (same_by _ _ tt, (same_by _ _ tt, (same_by _ _ tt, (same_by _ _ tt, (same_by _ _ tt, same_by _ _ tt))))))

pub circuit_matrix : (c : List Statement) → Same (matrix c) (word (letters c))
circuit_matrix [] = Same-refl unit
circuit_matrix (a ∷ c) =
    Same-trans (Same-mul (circuit_matrix c) (gate_letters a)) (Same-of (sym (word_append (letters c) (read_as a))))

-- ---- a word's circuit has its letters but for I, and its matrix
before : (l : Letter) (u : List Letter) → letters (statement_of l) ++ less_i u ≡ less_i (l ∷ u)
before I u = refl
before H u = refl
before S u = refl
before X u = refl
before W u = refl
before T' u = refl

pub letters_circuit : (u : List Letter) → letters (circuit u) ≡ less_i u
letters_circuit [] = refl
letters_circuit (l ∷ u) =
    letters_append (circuit u) (statement_of l) ∙ ap (λ x. letters (statement_of l) ++ x) (letters_circuit u) ∙ before l u

less_same : (l : Letter) (u : List Letter) → Same (word (l ∷ u)) (word (letters (statement_of l) ++ u))
less_same I u = Same-trans (Same-mul (same_by (letter I) unit tt) (Same-refl (word u))) (Same-of (unit_mul (word u)))
less_same H u = Same-refl (word (H ∷ u))
less_same S u = Same-refl (word (S ∷ u))
less_same X u = Same-refl (word (X ∷ u))
less_same W u = Same-refl (word (W ∷ u))
less_same T' u = Same-refl (word (T' ∷ u))

less_i_same : (u : List Letter) → Same (word u) (word (less_i u))
less_i_same [] = Same-refl unit
less_i_same (l ∷ u) =
    Same-trans (Same-mul (Same-refl (letter l)) (less_i_same u))
    (Same-trans (less_same l (less_i u)) (Same-of (ap word (before l u))))

pub word_matrix : (u : List Letter) → Same (word u) (matrix (circuit u))
word_matrix u =
    Same-trans (less_i_same u) (Same-trans (Same-of (ap word (sym (letters_circuit u)))) (Same-sym (circuit_matrix (circuit u))))
