-- A syllable's number, its letters, and what it and one more T make. Assumes nothing.
use Rattle.std.specs.Prelude.{◌≡◌, refl, cond, List, [], ◌∷◌, ℕ, ◌≤◌, eqb, length}
use Rattle.std.proofs.Common.{arith, ne_eqb}
use Rattle.exact.specs.Meaning.Word.{Letter, H, S, T'}
use Rattle.exact.specs.Meaning.Normal as normal
use Rattle.clifford.specs.declared.Clifford.{Clifford}
use Rattle.reading.specs.declared.Syllable.{Syllable}
use Rattle.clifford.specs.Cliffords.{clifford_i, clifford_s, clifford_HS, clifford_SHS}
use Rattle.reading.specs.Readings.{syllable}

abbrev pub syllable_number : Syllable → ℕ
syllable_number Syllable.I = 0
syllable_number Syllable.T = 1
syllable_number Syllable.HT = 2
syllable_number Syllable.SHT = 3

abbrev pub syllable_word : Syllable → List Letter
syllable_word Syllable.I = []
syllable_word Syllable.T = T' ∷ []
syllable_word Syllable.HT = H ∷ T' ∷ []
syllable_word Syllable.SHT = S ∷ H ∷ T' ∷ []

abbrev pub syllable_of : ℕ → Syllable
syllable_of n = cond (eqb n 1) Syllable.T (cond (eqb n 2) Syllable.HT (cond (eqb n 3) Syllable.SHT Syllable.I))

-- T-as-T is S, HT-as-T is HS, SHT-as-T is SHS
abbrev pub made : Syllable → Clifford
made Syllable.I = clifford_i
made Syllable.T = clifford_s
made Syllable.HT = clifford_HS
made Syllable.SHT = clifford_SHS

abbrev pub named : normal.Syllable → Syllable
named normal.HT = Syllable.HT
named normal.SHT = Syllable.SHT

pub named_word : (s : normal.Syllable) → syllable_word (named s) ≡ syllable s
named_word normal.HT = refl
named_word normal.SHT = refl

-- a syllable's number is that of its letters
pub syllable_size : (s : Syllable) → length (syllable_word s) ≡ syllable_number s
syllable_size Syllable.I = refl
syllable_size Syllable.T = refl
syllable_size Syllable.HT = refl
syllable_size Syllable.SHT = refl

pub syllable_few : (s : Syllable) → syllable_number s ≤ 3
syllable_few Syllable.I = omega arith
syllable_few Syllable.T = omega arith
syllable_few Syllable.HT = omega arith
syllable_few Syllable.SHT = omega arith

pub syllable_none : (n : ℕ) → (n ≡ 1 → ⊥) → (n ≡ 2 → ⊥) → (n ≡ 3 → ⊥) → Syllable.I ≡ syllable_of n
syllable_none n a b c = rw (ne_eqb n 1 a, ne_eqb n 2 b, ne_eqb n 3 c)
