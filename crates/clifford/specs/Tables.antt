-- The three tables, each proved right for matrices by one computed test over its rows. Assumes nothing.
use Rattle.std.specs.Prelude.{◌≡◌, Bool, true, ◌&&◌, List, [], ◌∷◌, ℕ, zero, suc, ◌<◌, get_or}
use Rattle.clifford.specs.declared.Axis.{Axis}
use Rattle.clifford.specs.declared.Clifford.{Clifford}
use Rattle.clifford.specs.declared.Conj2.{Conj2}
use Rattle.clifford.specs.declared.Tconj.{Tconj}
use Rattle.clifford.specs.Meaning.{Ranged}

abbrev pub quadruple : ℕ → ℕ → ℕ → ℕ → Clifford
quadruple a b c d = record { a = a; b = b; c = c; d = d }

abbrev pub conj2_rows : List Conj2
conj2_rows =
    record { c = 0; d = 0 } ∷
    record { c = 0; d = 0 } ∷
    record { c = 1; d = 0 } ∷
    record { c = 3; d = 2 } ∷
    record { c = 2; d = 0 } ∷
    record { c = 2; d = 4 } ∷
    record { c = 3; d = 0 } ∷
    record { c = 1; d = 6 } ∷
    []

abbrev pub cinv_rows : List Clifford
cinv_rows =
    quadruple 0 0 0 0 ∷
    quadruple 0 0 3 0 ∷
    quadruple 0 0 2 0 ∷
    quadruple 0 0 1 0 ∷
    quadruple 0 1 0 0 ∷
    quadruple 0 1 1 6 ∷
    quadruple 0 1 2 4 ∷
    quadruple 0 1 3 2 ∷
    quadruple 2 0 0 0 ∷
    quadruple 1 0 1 2 ∷
    quadruple 2 1 0 0 ∷
    quadruple 1 1 3 4 ∷
    quadruple 2 1 2 2 ∷
    quadruple 1 1 1 6 ∷
    quadruple 2 0 2 2 ∷
    quadruple 1 0 3 4 ∷
    quadruple 1 0 0 0 ∷
    quadruple 2 1 3 6 ∷
    quadruple 1 1 2 2 ∷
    quadruple 2 0 3 6 ∷
    quadruple 1 0 2 0 ∷
    quadruple 2 1 1 6 ∷
    quadruple 1 1 0 2 ∷
    quadruple 2 0 1 6 ∷
    []

abbrev pub tconj_rows : List Tconj
tconj_rows =
    record { axis = Axis.I; c = 0; d = 0 } ∷
    record { axis = Axis.I; c = 1; d = 7 } ∷
    record { axis = Axis.H; c = 3; d = 3 } ∷
    record { axis = Axis.H; c = 2; d = 0 } ∷
    record { axis = Axis.SH; c = 0; d = 5 } ∷
    record { axis = Axis.SH; c = 1; d = 4 } ∷
    []

-- ---- the rows
abbrev pub conj2 : ℕ → Conj2
conj2 i = get_or conj2_rows i (record { c = 0; d = 0 })

abbrev pub cinv : ℕ → Clifford
cinv i = get_or cinv_rows i (quadruple 0 0 0 0)

abbrev pub tconj : ℕ → Tconj
tconj i = get_or tconj_rows i (record { axis = Axis.I; c = 0; d = 0 })

-- ---- a test at every number below n
abbrev pub all : ℕ → (ℕ → Bool) → Bool
all zero f = true
all (suc n) f = f 0 && all n (λ k. f (suc k))

pub record Row2 (i : ℕ) (r : Conj2) : Type 0 where
  pub is : r ≡ conj2 i
  pub c_few : r.c < 4
  pub d_few : r.d < 8

pub record RowInv (i : ℕ) (r : Clifford) : Type 0 where
  pub is : r ≡ cinv i
  pub ranged : Ranged r

pub record RowT (i : ℕ) (r : Tconj) : Type 0 where
  pub is : r ≡ tconj i
  pub c_few : r.c < 4
  pub d_few : r.d < 8
