-- Normal words (docs/SCOPE.md, Normal form): at most one leading T, then any number of HT and SHT, then a tail: nothing, H or SH, then X at most
-- once, S at most 3 times, W at most 7 times, an empty tail written I; and phase-free words.
use Rattle.std.specs.Prelude.{◌≡◌, Bool, true, false, List, [], ◌∷◌, ◌++◌, ℕ, zero, suc, ◌≤◌}
use Rattle.exact.specs.Meaning.Matrix.{Matrix, Same}
use Rattle.exact.specs.Meaning.Word.{Letter, I, H, S, X, W, T', word}

pub data Syllable : Type 0 where
  HT SHT : Syllable

pub data Front : Type 0 where
  nothing onlyH onlySH : Front

pub record Tail : Type 0 where
  pub front : Front
  pub xs : ℕ
  pub ss : ℕ
  pub ws : ℕ

pub record Shape : Type 0 where
  pub lead : Bool
  pub syllables : List Syllable
  pub tail : Tail

abbrev pub times : ℕ → Letter → List Letter
times zero l = []
times (suc n) l = l ∷ times n l

abbrev pub front_word : Front → List Letter
front_word nothing = []
front_word onlyH = H ∷ []
front_word onlySH = S ∷ H ∷ []

abbrev pub tail_word : Tail → List Letter
tail_word t = front_word t.front ++ (times t.xs X ++ (times t.ss S ++ times t.ws W))

abbrev pub or_i : List Letter → List Letter
or_i [] = I ∷ []
or_i (l ∷ u) = l ∷ u

abbrev pub after : List Syllable → List Letter → List Letter
after [] u = u
after (HT ∷ ss) u = H ∷ T' ∷ after ss u
after (SHT ∷ ss) u = S ∷ H ∷ T' ∷ after ss u

abbrev pub leading : Bool → List Letter → List Letter
leading true u = T' ∷ u
leading false u = u

abbrev pub spell : Shape → List Letter
spell n = leading n.lead (after n.syllables (or_i (tail_word n.tail)))

pub record Fits (t : Tail) : Type 0 where
  pub xs_few : t.xs ≤ 1
  pub ss_few : t.ss ≤ 3
  pub ws_few : t.ws ≤ 7

pub record Normal (u : List Letter) : Type 0 where
  pub shape : Shape
  pub fits : Fits shape.tail
  pub spelled : spell shape ≡ u

-- a normal word with the matrix m
pub record NormalOf (m : Matrix) (u : List Letter) : Type 0 where
  pub normal : Normal u
  pub same : Same m (word u)

-- ---- phase-free words: a normal word's own shape with no W in its tail, spelled as normal words are
abbrev pub no_w : Tail → Tail
no_w t = record { front = t.front; xs = t.xs; ss = t.ss; ws = 0 }

abbrev pub without_w : Shape → Shape
without_w n = record { lead = n.lead; syllables = n.syllables; tail = no_w n.tail }

-- u is the phase-free word of the normal word v
pub record PhaseFree (u v : List Letter) : Type 0 where
  pub normal : Normal v
  pub spelled : spell (without_w normal.shape) ≡ u

-- the phase-free word of the normal word with the matrix m
pub record PhaseFreeOf (m : Matrix) (u : List Letter) : Type 0 where
  pub whole : List Letter
  pub phase_free : PhaseFree u whole
  pub same : Same m (word whole)
