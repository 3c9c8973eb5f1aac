-- Equality of closed matrices by computation: one Boolean test says that two matrices are the same. Assumes nothing.
use Rattle.std.specs.Prelude.{◌≡◌, Bool, false, ◌&&◌, T, eqb, ℤ, pos, negsuc}
use Rattle.std.proofs.Common.{ap, eqb→eq}
use Rattle.std.proofs.Math.Facts.{and_yes}
use Rattle.exact.specs.Meaning.Number.{Ω}
use Rattle.exact.specs.Meaning.Matrix.{Mat, Matrix, Same}
use Rattle.exact.proofs.Algebra.Omega.{quad_path}
use Rattle.exact.proofs.Matrices.Laws.{mat_path}
use Rattle.exact.proofs.Matrices.Same.{lifted}

abbrev pub eq_z : ℤ → ℤ → Bool
eq_z (pos m) (pos n) = eqb m n
eq_z (pos m) (negsuc n) = false
eq_z (negsuc m) (pos n) = false
eq_z (negsuc m) (negsuc n) = eqb m n

eq_z_is : (m n : ℤ) → T (eq_z m n) → m ≡ n
eq_z_is (pos m) (pos n) t = ap pos (eqb→eq m n t)
eq_z_is (pos m) (negsuc n) t = absurd t
eq_z_is (negsuc m) (pos n) t = absurd t
eq_z_is (negsuc m) (negsuc n) t = ap negsuc (eqb→eq m n t)

abbrev pub eq_q : Ω → Ω → Bool
eq_q x y = eq_z x.a y.a && (eq_z x.b y.b && (eq_z x.c y.c && eq_z x.d y.d))

eq_q_is : (x y : Ω) → T (eq_q x y) → x ≡ y
eq_q_is x y t =
    let t₁ = and_yes (eq_z x.a y.a) (eq_z x.b y.b && (eq_z x.c y.c && eq_z x.d y.d)) t in
    let t₂ = and_yes (eq_z x.b y.b) (eq_z x.c y.c && eq_z x.d y.d) t₁.1 in
    let t₃ = and_yes (eq_z x.c y.c) (eq_z x.d y.d) t₂.1 in
    quad_path (eq_z_is x.a y.a t₁.0) (eq_z_is x.b y.b t₂.0) (eq_z_is x.c y.c t₃.0) (eq_z_is x.d y.d t₃.1)

abbrev pub eq_m : Mat Ω → Mat Ω → Bool
eq_m x y = eq_q x.p y.p && (eq_q x.q y.q && (eq_q x.r y.r && eq_q x.s y.s))

pub eq_m_is : (x y : Mat Ω) → T (eq_m x y) → x ≡ y
eq_m_is x y t =
    let t₁ = and_yes (eq_q x.p y.p) (eq_q x.q y.q && (eq_q x.r y.r && eq_q x.s y.s)) t in
    let t₂ = and_yes (eq_q x.q y.q) (eq_q x.r y.r && eq_q x.s y.s) t₁.1 in
    let t₃ = and_yes (eq_q x.r y.r) (eq_q x.s y.s) t₂.1 in
    mat_path (eq_q_is x.p y.p t₁.0) (eq_q_is x.q y.q t₂.0) (eq_q_is x.r y.r t₃.0) (eq_q_is x.s y.s t₃.1)

abbrev pub same_test : Matrix → Matrix → Bool
same_test x y = eq_m (lifted y.e x.m) (lifted x.e y.m)

pub same_by : (x y : Matrix) → T (same_test x y) → Same x y
same_by x y t = record { same = eq_m_is (lifted y.e x.m) (lifted x.e y.m) t }
