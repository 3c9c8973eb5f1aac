-- What job 6 promises: Clifford product, inverse and coset split, by matrices.
use Rattle.std.specs.Prelude.{◌≡◌, List, [], ◌∷◌, ◌++◌, ℕ, ◌-◌, ◌%◌, ℤ, pos, negsuc, get_or}
use Rattle.exact.specs.Meaning.Matrix.{Same}
use Rattle.exact.specs.Meaning.Word.{Letter, H, S, word}
use Rattle.exact.specs.Meaning.Clifford as meaning
use Rattle.exact.specs.Meaning.Clifford.{Within, clifford}
use Rattle.clifford.specs.declared.Axis.{Axis}
use Rattle.clifford.specs.declared.Clifford.{Clifford}
use Rattle.clifford.specs.declared.Coset.{Coset}
use Rattle.clifford.specs.declared.Four.{Four}

-- ---- the program's Cliffords as those of docs/SCOPE.md, Triples
abbrev pub quad : Clifford → meaning.Clifford
quad q = record { a = q.a; b = q.b; c = q.c; d = q.d }

-- a Clifford's letters
abbrev pub letters : Clifford → List Letter
letters q = clifford (quad q)

-- an axis's number and letters
abbrev pub axis_number : Axis → ℕ
axis_number Axis.I = 0
axis_number Axis.H = 1
axis_number Axis.SH = 2

abbrev pub axis_word : Axis → List Letter
axis_word Axis.I = []
axis_word Axis.H = H ∷ []
axis_word Axis.SH = S ∷ H ∷ []

-- ---- arguments
-- four numbers in a list
abbrev pub listed : List ℤ → Four
listed x = record { a = get_or x 0 (pos 0); b = get_or x 1 (pos 0); c = get_or x 2 (pos 0); d = get_or x 3 (pos 0) }

-- the remainder from 0 up: -(n+1) leaves m-1 less what n leaves
abbrev pub modulo : ℤ → ℕ → ℕ
modulo (pos n) m = n % m
modulo (negsuc n) m = m - 1 - n % m

-- four numbers, as Clifford::new reduces them
abbrev pub reduced : ℤ → ℤ → ℤ → ℤ → Clifford
reduced a b c d = record { a = modulo a 3; b = modulo b 2; c = modulo c 4; d = modulo d 8 }

-- ---- answers
-- in their ranges: a in 0..2, b in 0..1, c in 0..3, d in 0..7
abbrev pub Ranged : Clifford → Type 0
Ranged q = Within (quad q)

pub record Product (x y r : Clifford) : Type 0 where
  pub ranged : Ranged r
  pub same : Same (word (letters r)) (word (letters x ++ letters y))

pub record Inverse (x r : Clifford) : Type 0 where
  pub ranged : Ranged r
  pub after : Same (word (letters x ++ letters r)) (word [])
  pub before : Same (word (letters r ++ letters x)) (word [])

-- axis times rest, the rest with a = 0 and the axis that of the argument's a
pub record Split (x : Clifford) (r : Coset) : Type 0 where
  pub ranged : Ranged r.rest
  pub axis_is : axis_number r.axis ≡ x.a
  pub rest_a : r.rest.a ≡ 0
  pub same : Same (word (letters x)) (word (axis_word r.axis ++ letters r.rest))
