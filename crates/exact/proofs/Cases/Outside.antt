-- Bytes that are no letters: `i` first, and `HHi`, whose third byte is the first outside. Assumes nothing.
use Rattle.std.specs.Prelude.{◌≡◌, refl, List, [], ◌∷◌, ℕ, zero, suc, ◌<◌, get_or}
use Rattle.std.proofs.Common.{arith}
use Rattle.exact.specs.Meaning.Word.{Letter, I, H, S, X, W, T', byte, IsLetter, FirstOutside}

no_letter : (l : Letter) → byte l ≡ 105 → ⊥
no_letter I e = omega arith
no_letter H e = omega arith
no_letter S e = omega arith
no_letter X e = omega arith
no_letter W e = omega arith
no_letter T' e = omega arith

abbrev pub third : List ℕ
third = 72 ∷ 72 ∷ 105 ∷ []

i_outside : IsLetter 105 → ⊥
i_outside h = no_letter h.letter_there h.is

pub i_first : (w : List ℕ) → FirstOutside (105 ∷ w) 0
i_first w = record { there = omega arith; outside = i_outside; before = λ i l. absurd (omega arith) }

pub i_third : FirstOutside third 2
i_third = record { there = omega arith; outside = i_outside; before = before }
  where
    before : (i : ℕ) → i < 2 → IsLetter (get_or third i 0)
    before zero l = record { letter_there = H; is = refl }
    before (suc zero) l = record { letter_there = H; is = refl }
    before (suc (suc i)) l = absurd (omega arith)
