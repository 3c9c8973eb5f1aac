-- The rotation of a matrix that its conjugate transposed inverts is orthogonal: the columns' inner products are those of the axes, by the trace of a
-- product. Assumes nothing.
use Rattle.std.specs.Prelude.{◌≡◌, [], ◌∷◌, ◌++◌, ℕ, zero, suc, ◌+◌, ℤ}
use Rattle.std.proofs.Common.{sym, ◌∙◌, ap, ap₂}
use Rattle.exact.specs.Meaning.Number.{Ops, Quad, Ω, ints, omegas, quads, add_q, mul_q, root2, root2^}
use Rattle.exact.specs.Meaning.Matrix.{Mat, unit_m, mul_m, scale_m, star_m, Matrix}
use Rattle.exact.specs.Meaning.Rotation.{Root, Three, Vect, add_r, mul_r, of_root, lift, axes, Rotation, Orthogonal, RotationOf}
use Rattle.exact.proofs.Whole.Parity.{halved}
use Rattle.exact.proofs.Algebra.Ring.{ints_laws}
use Rattle.exact.proofs.Algebra.Solver.{Expr, var, ◌⊕◌, ◌⊗◌, exprs, solve, ring₂}
use Rattle.exact.proofs.Algebra.Omega.{omegas_laws, quad_path, root2^_cancel, solve_q}
use Rattle.exact.proofs.Algebra.RootTwo.{root_path, of_root_times}
use Rattle.exact.specs.Algebra.RootPower.{lift_r}
use Rattle.exact.proofs.Algebra.RootPower.{lift_r_add}
use Rattle.exact.proofs.Matrices.Laws.{M₀, M₁, M₂, M₃, entries_of}
use Rattle.exact.proofs.Matrices.Star.{Isometry, sand}
use Rattle.exact.proofs.Rotation.Vectors.{sigma, V₀, coords, vect_path, lift_parts}
use Rattle.exact.proofs.Rotation.Turns.{Turns}
use Rattle.exact.proofs.Rotation.Laws.{Axes, axes_of_lem, vect_at}

-- ---- inner products
module _ (O : Ops) where
  abbrev pub dot : Vect O.Car → Vect O.Car → Root O.Car
  dot v w = add_r O (add_r O (mul_r O v.x w.x) (mul_r O v.y w.y)) (mul_r O v.z w.z)

  -- the trace of a product
  abbrev trace : Mat O.Car → Mat O.Car → O.Car
  trace a b = O.add (mul_m O a b).p (mul_m O a b).s

of_lift : (n : ℕ) (r : Root ℤ) → of_root ints (lift_r n r) ≡ mul_q ints (root2^ n) (of_root ints r)
of_lift zero r = sym (omegas_laws.one_mul (of_root ints r))
of_lift (suc n) r =
    of_root_times ints ints_laws (lift_r n r)
    ∙ ap (mul_q ints (root2 ints)) (of_lift n r)
    ∙ sym (omegas_laws.mul_assoc (root2 ints) (root2^ n) (of_root ints r))

-- the trace of two vectors' matrices is twice their inner product
trace_sigma : (v w : Vect ℤ) → trace omegas (sigma ints v) (sigma ints w) ≡ add_q ints (of_root ints (dot ints v w)) (of_root ints (dot ints v w))
trace_sigma v w =
    solve_q ints ints_laws (coords v ++ coords w)
    (add_q exprs product.p product.s) (add_q exprs (of_root exprs (dot exprs V₀ (vect_at 6))) (of_root exprs (dot exprs V₀ (vect_at 6))))
    (tt, tt, tt, tt)
  where
    product : Mat (Quad Expr)
    product = mul_m (quads exprs) (sigma exprs V₀) (sigma exprs (vect_at 6))

-- ---- through a matrix
-- M·s·N and M·t·N
trace_through : (m n s t : Mat Ω)
    → trace omegas (mul_m omegas (mul_m omegas m s) n) (mul_m omegas (mul_m omegas m t) n)
    ≡ trace omegas (mul_m omegas (mul_m omegas n m) s) (mul_m omegas (mul_m omegas n m) t)
trace_through m n s t =
    solve omegas omegas_laws (entries_of m (entries_of n (entries_of s (entries_of t []))))
    (trace exprs (mul_m exprs (mul_m exprs M₀ M₂) M₁) (mul_m exprs (mul_m exprs M₀ M₃) M₁))
    (trace exprs (mul_m exprs (mul_m exprs M₁ M₀) M₂) (mul_m exprs (mul_m exprs M₁ M₀) M₃)) tt

abbrev four : (O : Ops) → O.Car → O.Car → O.Car
four O c x = O.mul c (O.mul c (O.mul c (O.mul c x)))

trace_scaled : (c : Ω) (s t : Mat Ω)
    → trace omegas (mul_m omegas (scale_m omegas c (scale_m omegas c (unit_m omegas))) s) (mul_m omegas (scale_m omegas c (scale_m omegas c (unit_m omegas))) t)
    ≡ four omegas c (trace omegas s t)
trace_scaled c s t =
    solve omegas omegas_laws (entries_of s (entries_of t (c ∷ [])))
    (trace exprs (mul_m exprs twice M₀) (mul_m exprs twice M₁)) (four exprs (var 8) (trace exprs M₀ M₁)) tt
  where
    twice : Mat Expr
    twice = scale_m exprs (var 8) (scale_m exprs (var 8) (unit_m exprs))

trace_twice : (c : Ω) (s t : Mat Ω)
    → trace omegas (scale_m omegas c (scale_m omegas c s)) (scale_m omegas c (scale_m omegas c t)) ≡ four omegas c (trace omegas s t)
trace_twice c s t =
    solve omegas omegas_laws (entries_of s (entries_of t (c ∷ [])))
    (trace exprs (scale_m exprs (var 8) (scale_m exprs (var 8) M₀)) (scale_m exprs (var 8) (scale_m exprs (var 8) M₁)))
    (four exprs (var 8) (trace exprs M₀ M₁)) tt

trace_once : (d : Ω) (s t : Mat Ω) → trace omegas (scale_m omegas d s) (scale_m omegas d t) ≡ mul_q ints d (mul_q ints d (trace omegas s t))
trace_once d s t =
    solve omegas omegas_laws (entries_of s (entries_of t (d ∷ [])))
    (trace exprs (scale_m exprs (var 8) M₀) (scale_m exprs (var 8) M₁)) (var 8 ⊗ (var 8 ⊗ trace exprs M₀ M₁)) tt

four_cancel : (n : ℕ) (x y : Ω) → four omegas (root2^ n) x ≡ four omegas (root2^ n) y → x ≡ y
four_cancel n x y h =
    let c = root2^ n in
    root2^_cancel n x y
    (root2^_cancel n (mul_q ints c x) (mul_q ints c y)
    (root2^_cancel n (mul_q ints c (mul_q ints c x)) (mul_q ints c (mul_q ints c y))
    (root2^_cancel n (mul_q ints c (mul_q ints c (mul_q ints c x))) (mul_q ints c (mul_q ints c (mul_q ints c y))) h)))

module _ {u : Matrix} (i : Isometry u) {v w y y' : Vect ℤ} {f : ℕ} (h : Turns u v y f) (k : Turns u w y' f) where
  abbrev d : Ω
  d = root2^ f

  abbrev c : Ω
  c = root2^ u.e

  abbrev s : Mat Ω
  s = sigma ints v

  abbrev t : Mat Ω
  t = sigma ints w

  kept : trace omegas (sand u.m s) (sand u.m t) ≡ four omegas c (trace omegas s t)
  kept =
      trace_through u.m (star_m ints u.m) s t
      ∙ ap (λ m. trace omegas (mul_m omegas m s) (mul_m omegas m t)) i.inverted
      ∙ trace_scaled c s t

  traces : mul_q ints d (mul_q ints d (trace omegas s t)) ≡ trace omegas (sigma ints y) (sigma ints y')
  traces =
      four_cancel u.e (mul_q ints d (mul_q ints d (trace omegas s t))) (trace omegas (sigma ints y) (sigma ints y'))
      (solve omegas omegas_laws (c ∷ d ∷ trace omegas s t ∷ [])
      (four exprs (var 0) (var 1 ⊗ (var 1 ⊗ var 2))) (var 1 ⊗ (var 1 ⊗ four exprs (var 0) (var 2))) tt
      ∙ ap (λ x. mul_q ints d (mul_q ints d x)) (sym kept)
      ∙ sym (trace_once d (sand u.m s) (sand u.m t))
      ∙ ap₂ (trace omegas) h.turned k.turned
      ∙ trace_twice c (sigma ints y) (sigma ints y'))

  pub dot_kept : dot ints y y' ≡ lift_r (f + f) (dot ints v w)
  dot_kept = root_path (ap (λ x. x.d) whole) (ap (λ x. x.c) whole)
    where
      half : (x y : Ω) → add_q ints x x ≡ add_q ints y y → x ≡ y
      half x y e =
          quad_path
          (halved x.a y.a (ap (λ q. q.a) e))
          (halved x.b y.b (ap (λ q. q.b) e))
          (halved x.c y.c (ap (λ q. q.c) e))
          (halved x.d y.d (ap (λ q. q.d) e))

      g : Ω
      g = of_root ints (dot ints v w)

      whole : of_root ints (dot ints y y') ≡ of_root ints (lift_r (f + f) (dot ints v w))
      whole =
          half (of_root ints (dot ints y y')) (of_root ints (lift_r (f + f) (dot ints v w)))
          (sym (trace_sigma y y')
          ∙ sym traces
          ∙ ap (λ x. mul_q ints d (mul_q ints d x)) (trace_sigma v w)
          ∙ ring₂ omegas omegas_laws (λ d g. d ⊗ (d ⊗ (g ⊕ g))) (λ d g. d ⊗ (d ⊗ g) ⊕ d ⊗ (d ⊗ g)) tt d g
          ∙ ap (λ x. add_q ints x x)
          (ap (mul_q ints d) (sym (of_lift f (dot ints v w)))
          ∙ sym (of_lift f (lift_r f (dot ints v w)))
          ∙ ap (of_root ints) (sym (lift_r_add f f (dot ints v w)))))

-- ---- the theorem
abbrev dots : Vect ℤ → Three (Vect ℤ) → Vect ℤ
dots v m = record { x = dot ints v m.x; y = dot ints v m.y; z = dot ints v m.z }

pub orthogonal : {u : Matrix} {r : Rotation} → Isometry u → RotationOf u r → Orthogonal r
orthogonal {u} {r} i h = record { inverted = record { x_same = column g.x; y_same = column g.y; z_same = column g.z } }
  where
    g : Axes u r
    g = axes_of_lem h

    n : ℕ
    n = r.e + r.e

    -- its inner products with a rotation's columns
    column : {v y : Vect ℤ} → Turns u v y r.e → dots y r.m ≡ lift n (dots v (axes ints))
    column {v} {y} t = vect_path (dot_kept i t g.x) (dot_kept i t g.y) (dot_kept i t g.z) ∙ sym (lift_parts n (dots v (axes ints)))
