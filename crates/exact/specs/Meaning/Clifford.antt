-- Cliffords (docs/SCOPE.md, Triples): (a,b,c,d) is E^a X^b S^c omega^d, a in 0..2, b in 0..1, c in 0..3, d in 0..7, and H = (1,0,1,5),
-- so that E is H·S³·omega³.
use Rattle.std.specs.Prelude.{List, [], ◌∷◌, ◌++◌, ℕ, zero, suc, ◌<◌}
use Rattle.exact.specs.Meaning.Word.{Letter, H, S, X, W}
use Rattle.exact.specs.Meaning.Normal.{times}

pub record Clifford : Type 0 where
  pub a : ℕ
  pub b : ℕ
  pub c : ℕ
  pub d : ℕ

pub record Within (q : Clifford) : Type 0 where
  pub a_few : q.a < 3
  pub b_few : q.b < 2
  pub c_few : q.c < 4
  pub d_few : q.d < 8

abbrev pub cycle : ℕ → List Letter
cycle zero = []
cycle (suc n) = H ∷ S ∷ S ∷ S ∷ W ∷ W ∷ W ∷ cycle n

-- a Clifford's matrix is that of these letters
abbrev pub clifford : Clifford → List Letter
clifford q = cycle q.a ++ (times q.b X ++ (times q.c S ++ times q.d W))
