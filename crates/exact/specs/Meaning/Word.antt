-- Letters and words (docs/SCOPE.md, Letters and words): each letter's matrix, the product in reading order, T letters, bytes, and which
-- bytes are letters. The alphabet is one for every job, I H S X W T.
use Rattle.std.specs.Prelude.{◌≡◌, List, [], ◌∷◌, ℕ, ◌+◌, ◌<◌, length, get_or, ℤ, pos, negsuc}
use Rattle.exact.specs.Meaning.Number.{Ops, Quad, ints, const_q, mul_q, omega'}
use Rattle.exact.specs.Meaning.Matrix.{Mat, Matrix, unit, ◌·◌}

pub data Letter : Type 0 where
  I H S X W T' : Letter

module _ (O : Ops) where
  abbrev int : ℤ → Quad O.Car
  int = const_q O

  abbrev diagonal : Quad O.Car → Quad O.Car → Mat (Quad O.Car)
  diagonal x y = record { p = x; q = int (pos 0); r = int (pos 0); s = y }

  -- a letter's matrix, but for H's root two beneath it
  abbrev pub letter_m : Letter → Mat (Quad O.Car)
  letter_m I = diagonal (int (pos 1)) (int (pos 1))
  letter_m H = record { p = int (pos 1); q = int (pos 1); r = int (pos 1); s = int (negsuc 0) }
  letter_m S = diagonal (int (pos 1)) (mul_q O (omega' O) (omega' O))
  letter_m X = record { p = int (pos 0); q = int (pos 1); r = int (pos 1); s = int (pos 0) }
  letter_m W = diagonal (omega' O) (omega' O)
  letter_m T' = diagonal (int (pos 1)) (omega' O)

abbrev pub roots : Letter → ℕ
roots I = 0
roots H = 1
roots S = 0
roots X = 0
roots W = 0
roots T' = 0

abbrev pub letter : Letter → Matrix
letter l = record { m = letter_m ints l; e = roots l }

-- the leftmost letter is the leftmost factor
abbrev pub word : List Letter → Matrix
word [] = unit
word (l ∷ u) = letter l · word u

-- ---- T letters
abbrev pub tee : Letter → ℕ
tee I = 0
tee H = 0
tee S = 0
tee X = 0
tee W = 0
tee T' = 1

abbrev pub tees : List Letter → ℕ
tees [] = 0
tees (l ∷ u) = tee l + tees u

-- ---- bytes: the letters' ASCII
abbrev pub byte : Letter → ℕ
byte I = 73
byte H = 72
byte S = 83
byte X = 88
byte W = 87
byte T' = 84

abbrev pub bytes : List Letter → List ℕ
bytes [] = []
bytes (l ∷ u) = byte l ∷ bytes u

-- a byte is a letter's
pub record IsLetter (b : ℕ) : Type 0 where
  pub letter_there : Letter
  pub is : byte letter_there ≡ b

-- the first place whose byte is no letter's
pub record FirstOutside (bs : List ℕ) (place : ℕ) : Type 0 where
  pub there : place < length bs
  pub outside : IsLetter (get_or bs place 0) → ⊥
  pub before : (i : ℕ) → i < place → IsLetter (get_or bs i 0)

-- the first place that has the byte b
pub record First (b : ℕ) (bs : List ℕ) (place : ℕ) : Type 0 where
  pub there : place < length bs
  pub is : get_or bs place 0 ≡ b
  pub before : (i : ℕ) → i < place → get_or bs i 0 ≡ b → ⊥

-- what holds of the letters that the bytes spell
pub record Spelled {A : Type 0} (Of : List Letter → A → Type 0) (bs : List ℕ) (a : A) : Type 0 where
  pub letters : List Letter
  pub spelled : bytes letters ≡ bs
  pub holds : Of letters a
