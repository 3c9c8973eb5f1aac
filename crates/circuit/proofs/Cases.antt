-- The definitions run: the whole text of a word's circuit in each edition, and of a circuit with sdg and tdg its letters. Assumes nothing.
use Rattle.std.specs.Prelude.{◌≡◌, refl, [], ◌∷◌}
use Rattle.exact.specs.Meaning.Word.{I, H, S, X, W, T'}
use Rattle.exact.specs.Meaning.Text.{ascii}
use Rattle.circuit.specs.Meaning.{two, three, h', sdg, tdg, text, letters, circuit}

-- HTIS in 2.0: the rightmost letter first, and no statement for I
example_two : text two (circuit (H ∷ T' ∷ I ∷ S ∷ [])) ≡ ascii "OPENQASM 2.0;\ninclude \"qelib1.inc\";\nqreg q[1];\ns q[0];\nt q[0];\nh q[0];\n"
example_two = refl

-- XW in 3.0
example_three : text three (circuit (X ∷ W ∷ [])) ≡ ascii "OPENQASM 3.0;\ninclude \"stdgates.inc\";\nqubit[1] q;\ngphase(pi/4);\nx q[0];\n"
example_three = refl

-- h, then sdg, then tdg
example_letters : letters (h' ∷ sdg ∷ tdg ∷ []) ≡ T' ∷ S ∷ S ∷ S ∷ S ∷ S ∷ S ∷ H ∷ []
example_letters = refl
