-- The rotation of a triple, worked out: of (z, w, 0) by squares and products of z and w over root two to the 2k, then turned about Z by n eighths, of
-- which the odd one costs a root two. Assumes nothing.
use Rattle.std.specs.Prelude.{◌≡◌, List, [], ◌++◌, ℕ, zero, suc, ◌+◌, T, ℤ, pos}
use Rattle.std.proofs.Common.{sym, ◌∙◌, ap, subst, add-zero, add-one, arith}
use Rattle.exact.specs.Meaning.Number.{Quad, Ω, ints, omegas, quads, power, mul_q, const_q, omega', omega^, root2^}
use Rattle.exact.specs.Meaning.Matrix.{Mat, mul_m, scale_m, star_m, Matrix, ◌·◌}
use Rattle.exact.specs.Meaning.Word.{Letter, S, T', letter_m, letter, tee}
use Rattle.exact.specs.Meaning.Triple.{rows, entries}
use Rattle.exact.specs.Meaning.Rotation.{Root, Three, Vect, axes, turned_by, Rotation, RotationOf}
use Rattle.exact.proofs.Algebra.Ring.{ints_laws}
use Rattle.exact.proofs.Algebra.Solver.{Expr, exprs, same}
use Rattle.exact.proofs.Algebra.Omega.{omegas_laws, root2^_add, X₀, X₁, X₂, parts}
use Rattle.exact.proofs.Algebra.OmegaPower.{omega^_add}
use Rattle.exact.proofs.Algebra.RootTwo.{eval_r, solve_r}
use Rattle.exact.proofs.Matrices.Laws.{passed, solve_MQ, scale_scale}
use Rattle.exact.proofs.Matrices.Same.{matrix_path, lifted}
use Rattle.exact.proofs.Matrices.Star.{sand}
use Rattle.exact.proofs.Rotation.Vectors.{vect_path, turn_l, sigma, coords}
use Rattle.exact.proofs.Rotation.Turns.{Turns, turns_mul, turns_letter}
use Rattle.exact.proofs.Rotation.Laws.{axes_of_lem, of_axes, turns_all, vect_at}
use Rattle.exact.specs.Rotation.Worked.{columns, with_n, eighth, quarter, quarters}

module _ (k : ℕ) (z w : Ω) where
  abbrev at_0 : Mat (Quad Expr)
  at_0 = rows exprs X₀ X₁ (const_q exprs (pos 1))

  abbrev through : Vect Expr → Mat (Quad Expr)
  through v = mul_m (quads exprs) (mul_m (quads exprs) at_0 (sigma exprs v)) (star_m exprs at_0)

  turns_0 : {v y : Vect ℤ} → sand (entries (with_n k 0 z w)).m (sigma ints v) ≡ sigma ints y → Turns (entries (with_n k 0 z w)) v y (k + k)
  turns_0 {v} {y} e =
      record {
        turned =
            ap (lifted (k + k)) e
            ∙ ap (λ c. scale_m omegas c (sigma ints y)) (root2^_add k k)
            ∙ scale_scale omegas omegas_laws (root2^ k) (root2^ k) (sigma ints y);
      }

  pub columns_rotation : RotationOf (entries (with_n k 0 z w)) (record { m = columns ints z w; e = k + k })
  columns_rotation =
      of_axes
      (record {
        x = turns_0 (solve_MQ ints ints_laws (parts z (parts w [])) (through (axes exprs).x) (sigma exprs (columns exprs X₀ X₁).x) passed);
        y = turns_0 (solve_MQ ints ints_laws (parts z (parts w [])) (through (axes exprs).y) (sigma exprs (columns exprs X₀ X₁).y) passed);
        z = turns_0 (solve_MQ ints ints_laws (parts z (parts w [])) (through (axes exprs).z) (sigma exprs (columns exprs X₀ X₁).z) passed);
      })

abbrev eval_v : List ℤ → Vect Expr → Vect ℤ
eval_v xs v = record { x = eval_r ints xs v.x; y = eval_r ints xs v.y; z = eval_r ints xs v.z }

abbrev SameR : Root Expr → Root Expr → Type 0
SameR a b = T (same a.p b.p) × T (same a.q b.q)

solve_v : (xs : List ℤ) (v w : Vect Expr) → SameR v.x w.x × SameR v.y w.y × SameR v.z w.z → eval_v xs v ≡ eval_v xs w
solve_v xs v w t =
    vect_path
    (solve_r ints ints_laws xs v.x w.x t.0)
    (solve_r ints ints_laws xs v.y w.y t.1)
    (solve_r ints ints_laws xs v.z w.z t.2)

-- the letter's turn of each axis, through m
module _ (m : Three (Vect ℤ)) where
  abbrev vars : List ℤ
  vars = coords m.x ++ (coords m.y ++ coords m.z)

  abbrev M : Three (Vect Expr)
  M = record { x = vect_at 0; y = vect_at 6; z = vect_at 12 }

  abbrev first : Letter → Vect Expr → Vect Expr
  first l v = turned_by exprs M (turn_l exprs l v)

  abbrev ok : (Unit {0} × Unit {0}) × (Unit {0} × Unit {0}) × (Unit {0} × Unit {0})
  ok = ((tt, tt), (tt, tt), (tt, tt))

  module _ {u : Matrix} {e : ℕ} (h : RotationOf u (record { m = m; e = e })) where
    by_letter : (l : Letter) (v y : Vect ℤ) → turned_by ints m (turn_l ints l v) ≡ y → Turns (u · letter l) v y (e + tee l)
    by_letter l v y f = subst (λ y. Turns (u · letter l) v y (e + tee l)) f (turns_mul (turns_all (axes_of_lem h) (turn_l ints l v)) (turns_letter l v))

    pub by_quarter : RotationOf (u · letter S) (record { m = quarter ints m; e = e + 0 })
    by_quarter =
        of_axes
        (record {
          x = by_letter S (axes ints).x (quarter ints m).x (solve_v vars (first S (axes exprs).x) (quarter exprs M).x ok);
          y = by_letter S (axes ints).y (quarter ints m).y (solve_v vars (first S (axes exprs).y) (quarter exprs M).y ok);
          z = by_letter S (axes ints).z (quarter ints m).z (solve_v vars (first S (axes exprs).z) (quarter exprs M).z ok);
        })

    pub by_eighth : RotationOf (u · letter T') (record { m = eighth ints m; e = e + 1 })
    by_eighth =
        of_axes
        (record {
          x = by_letter T' (axes ints).x (eighth ints m).x (solve_v vars (first T' (axes exprs).x) (eighth exprs M).x ok);
          y = by_letter T' (axes ints).y (eighth ints m).y (solve_v vars (first T' (axes exprs).y) (eighth exprs M).y ok);
          z = by_letter T' (axes ints).z (eighth ints m).z (solve_v vars (first T' (axes exprs).z) (eighth exprs M).z ok);
        })

module _ (k n : ℕ) (z w : Ω) where
  abbrev numbers : List ℤ
  numbers = parts z (parts w (parts (omega^ n) []))

  abbrev turned : ℕ → Mat (Quad Expr)
  turned j = rows exprs X₀ X₁ (mul_q exprs X₂ (power (quads exprs) (omega' exprs) j))

  abbrev behind : Letter → Mat (Quad Expr)
  behind l = mul_m (quads exprs) (rows exprs X₀ X₁ X₂) (letter_m exprs l)

  s_more : entries (with_n k (n + 2) z w) ≡ entries (with_n k n z w) · letter S
  s_more = matrix_path (ap (rows ints z w) (omega^_add n 2) ∙ solve_MQ ints ints_laws numbers (turned 2) (behind S) passed) (sym (add-zero k))

  t_more : entries (with_n k (n + 1) z w) ≡ entries (with_n k n z w) · letter T'
  t_more = matrix_path (ap (rows ints z w) (omega^_add n 1) ∙ solve_MQ ints ints_laws numbers (turned 1) (behind T') passed) (sym (add-zero k))

  module _ (m : Three (Vect ℤ)) (e : ℕ) (h : RotationOf (entries (with_n k n z w)) (record { m = m; e = e })) where
    pub quarter_more : RotationOf (entries (with_n k (n + 2) z w)) (record { m = quarter ints m; e = e })
    quarter_more =
        rw s_more
        (subst (λ f. RotationOf (entries (with_n k n z w) · letter S) (record { m = quarter ints m; e = f })) (add-zero e) (by_quarter m h))

    pub eighth_more : RotationOf (entries (with_n k (n + 1) z w)) (record { m = eighth ints m; e = e + 1 })
    eighth_more = rw t_more (by_eighth m h)

pub quarters_more : (k : ℕ) (z w : Ω) (s : Rotation) → RotationOf (entries (with_n k 0 z w)) s → (i : ℕ)
    → RotationOf (entries (with_n k (i + i) z w)) (record { m = quarters i s.m; e = s.e })
quarters_more k z w s h zero = h
quarters_more k z w s h (suc i) =
    let two : i + i + 2 ≡ suc i + suc i = omega arith in
    subst (λ n. RotationOf (entries (with_n k n z w)) (record { m = quarters (suc i) s.m; e = s.e })) two
    (quarter_more k (i + i) z w (quarters i s.m) s.e (quarters_more k z w s h i))

-- ---- so every triple has one: the entries are real, numbers of ℤ[root two] over a power of root two
pub record HasRotation (u : Matrix) : Type 0 where
  pub rotation : Rotation
  pub is : RotationOf u rotation

pub has_rotation : (k n : ℕ) (z w : Ω) → HasRotation (entries (with_n k n z w))
has_rotation k zero z w = record { rotation = record { m = columns ints z w; e = k + k }; is = columns_rotation k z w }
has_rotation k (suc n) z w =
    let h = has_rotation k n z w in
    let r = h.rotation in
    record {
      rotation = record { m = eighth ints r.m; e = r.e + 1 };
      is =
          subst (λ i. RotationOf (entries (with_n k i z w)) (record { m = eighth ints r.m; e = r.e + 1 })) (add-one n)
          (eighth_more k n z w r.m r.e h.is);
    }
