-- A letter is told by its byte, and a word by its bytes; equality of words by one computed test. Assumes nothing.
use Rattle.std.specs.Prelude.{cond, List, [], ◌∷◌, ℕ, ◌<◌, eqb, get_or}
use Rattle.exact.specs.Meaning.Word.{Letter, I, H, S, X, W, T', IsLetter}

-- the letter of a byte, I for any other byte
abbrev pub letter_of : ℕ → Letter
letter_of b = cond (eqb b 72) H (cond (eqb b 83) S (cond (eqb b 88) X (cond (eqb b 87) W (cond (eqb b 84) T' I))))

abbrev pub letters_of : List ℕ → List Letter
letters_of [] = []
letters_of (b ∷ bs) = letter_of b ∷ letters_of bs

-- the first n bytes are
abbrev pub Inside : List ℕ → ℕ → Type 0
Inside w n = (i : ℕ) → i < n → IsLetter (get_or w i 0)
