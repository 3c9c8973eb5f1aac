-- A word's matrix respects joining words, and each word can be struck from the left. Assumes nothing.
use Rattle.std.specs.Prelude.{◌≡◌, refl, List, [], ◌∷◌, ◌++◌}
use Rattle.std.proofs.Common.{sym, ◌∙◌, ap}
use Rattle.exact.specs.Meaning.Matrix.{◌·◌, Same}
use Rattle.exact.specs.Meaning.Word.{Letter, I, H, S, X, W, T', letter, word}
use Rattle.exact.proofs.Matrices.Same.{mul_assoc, unit_mul, Same-mul}
use Rattle.exact.proofs.Matrices.Star.{Isometry, unit_isometry, mul_isometry, strike}

pub word_append : (u v : List Letter) → word (u ++ v) ≡ word u · word v
word_append [] v = sym (unit_mul (word v))
word_append (l ∷ u) v = ap (λ x. letter l · x) (word_append u v) ∙ sym (mul_assoc (letter l) (word u) (word v))

pub letter_isometry : (l : Letter) → Isometry (letter l)
letter_isometry I = record { inverted = refl }
letter_isometry H = record { inverted = refl }
letter_isometry S = record { inverted = refl }
letter_isometry X = record { inverted = refl }
letter_isometry W = record { inverted = refl }
letter_isometry T' = record { inverted = refl }

pub word_isometry : (u : List Letter) → Isometry (word u)
word_isometry [] = unit_isometry
word_isometry (l ∷ u) = mul_isometry (letter_isometry l) (word_isometry u)

-- words with the same matrices may stand for one another, side by side
pub Same-append : (u u' v v' : List Letter) → Same (word u) (word u') → Same (word v) (word v') → Same (word (u ++ v)) (word (u' ++ v'))
Same-append u u' v v' h k = rw (word_append u v, word_append u' v') (Same-mul h k)

pub strike_word : (w u v : List Letter) → Same (word (w ++ u)) (word (w ++ v)) → Same (word u) (word v)
strike_word w u v h = strike (word_isometry w) (rw (word_append w u, word_append w v) at h)
