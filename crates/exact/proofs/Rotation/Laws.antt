-- The laws of the rotation (Meaning/Rotation): what a matrix makes of the axes says what it makes of every vector, so that one matrix has one rotation,
-- a product's is the product, a phase changes nothing and the identity's is none. Of words and of triples too. Assumes nothing.
use Rattle.std.specs.Prelude.{◌≡◌, List, [], ◌∷◌, ◌++◌, ℕ, ◌+◌, ℤ, pos}
use Rattle.std.proofs.Common.{sym, ◌∙◌, ap, ap₂, add-zero, add_comm}
use Rattle.exact.specs.Meaning.Number.{Ops, Quad, Ω, ints, omegas, quads, mul_q, conj_q, const_q, omega^, root2^}
use Rattle.exact.specs.Meaning.Matrix.{Mat, add_m, mul_m, scale_m, star_m, Matrix, unit, ◌·◌, star, Same, scaled}
use Rattle.exact.specs.Meaning.Word.{Letter, word, tees}
use Rattle.exact.specs.Meaning.Triple.{Triple, entries}
use Rattle.exact.specs.Meaning.Rotation.{Three, Vect, of_root, along, turned_by, lift, Rotation, axes, still, ◌∘◌, SameRotation, RotationOf}
use Rattle.exact.proofs.Algebra.Ring.{ints_laws}
use Rattle.exact.proofs.Algebra.Solver.{Expr, var, exprs}
use Rattle.exact.proofs.Algebra.Omega.{omegas_laws, conj_mul, root2^_add}
use Rattle.exact.proofs.Algebra.OmegaPower.{omega^_conj}
use Rattle.exact.proofs.Matrices.Laws.{mat_path, M₀, M₁, M₂, M₃, entries_of, solve_m, passed, solve_MQ}
use Rattle.exact.proofs.Matrices.Laws.{scale_mul_m, scale_scale, scale_swap, scale_past, scale_both, scale_one}
use Rattle.exact.proofs.Matrices.Same.{lifted, lifted_cancel, Same-of}
use Rattle.exact.proofs.Matrices.Star.{sand, lifted_sand}
use Rattle.exact.proofs.Matrices.Words.{word_append}
use Rattle.exact.proofs.Matrices.Triples.{mul_t, mul_t_is}
use Rattle.exact.proofs.Rotation.Vectors.{turn, sigma, V₀, coords, lift_add, lift_cancel, lifted_sigma}
use Rattle.exact.proofs.Rotation.Turns.{Turns, turns_unit, turns_mul, turns_same, turns_word}

-- ---- by the axes, as `Turns`
along_is : (v : Vect ℤ) → along ints v ≡ sigma ints v
along_is v = solve_MQ ints ints_laws (coords v) (along exprs V₀) (sigma exprs V₀) passed

twice : (e : ℕ) (m : Mat Ω) → lifted (e + 0 + e) m ≡ lifted e (lifted e m)
twice e m =
    ap (λ n. lifted (n + e) m) (add-zero e)
    ∙ ap (λ c. scale_m omegas c m) (root2^_add e e)
    ∙ scale_scale omegas omegas_laws (root2^ e) (root2^ e) m

abbrev Becomes : Matrix → Mat Ω → Vect ℤ → ℕ → Type 0
Becomes u p y f = Same (u · record { m = p; e = 0 } · star u) (record { m = along ints y; e = f })

turns_of_lem : (u : Matrix) (v y : Vect ℤ) (f : ℕ) → Becomes u (sigma ints v) y f → Turns u v y f
turns_of_lem u v y f h = record { turned = h.same ∙ ap (lifted (u.e + 0 + u.e)) (along_is y) ∙ twice u.e (sigma ints y) }

of_turns : (u : Matrix) (v y : Vect ℤ) (f : ℕ) → Turns u v y f → Becomes u (sigma ints v) y f
of_turns u v y f h = record { same = h.turned ∙ sym (twice u.e (sigma ints y)) ∙ ap (lifted (u.e + 0 + u.e)) (sym (along_is y)) }

-- what it makes of each axis
pub record Axes (u : Matrix) (r : Rotation) : Type 0 where
  pub x : Turns u (axes ints).x r.m.x r.e
  pub y : Turns u (axes ints).y r.m.y r.e
  pub z : Turns u (axes ints).z r.m.z r.e

pub axes_of_lem : {u : Matrix} {r : Rotation} → RotationOf u r → Axes u r
axes_of_lem {u} {r} h =
    record {
      x = turns_of_lem u (axes ints).x r.m.x r.e h.of_x;
      y = turns_of_lem u (axes ints).y r.m.y r.e h.of_y;
      z = turns_of_lem u (axes ints).z r.m.z r.e h.of_z;
    }

pub of_axes : {u : Matrix} {r : Rotation} → Axes u r → RotationOf u r
of_axes {u} {r} h =
    record {
      of_x = of_turns u (axes ints).x r.m.x r.e h.x;
      of_y = of_turns u (axes ints).y r.m.y r.e h.y;
      of_z = of_turns u (axes ints).z r.m.z r.e h.z;
    }

-- ---- every vector
module _ (O : Ops) where
  -- a·A + b·B + c·C
  abbrev mix : O.Car → O.Car → O.Car → Mat O.Car → Mat O.Car → Mat O.Car → Mat O.Car
  mix a b c A B C = add_m O (add_m O (scale_m O a A) (scale_m O b B)) (scale_m O c C)

abbrev M₄ : Mat Expr
M₄ = record { p = var 16; q = var 17; r = var 18; s = var 19 }

module _ (a b c : Ω) (A B C : Mat Ω) where
  mix_sand : (m : Mat Ω) → sand m (mix omegas a b c A B C) ≡ mix omegas a b c (sand m A) (sand m B) (sand m C)
  mix_sand m =
      solve_m omegas omegas_laws (entries_of m (entries_of (star_m ints m) (entries_of A (entries_of B (entries_of C (a ∷ b ∷ c ∷ []))))))
      (through (mix exprs (var 20) (var 21) (var 22) M₂ M₃ M₄)) (mix exprs (var 20) (var 21) (var 22) (through M₂) (through M₃) (through M₄))
      (tt, tt, tt, tt)
    where
      through : Mat Expr → Mat Expr
      through s = mul_m exprs (mul_m exprs M₀ s) M₁

  mix_scale : (d : Ω) → scale_m omegas d (mix omegas a b c A B C) ≡ mix omegas a b c (scale_m omegas d A) (scale_m omegas d B) (scale_m omegas d C)
  mix_scale d =
      solve_m omegas omegas_laws (entries_of A (entries_of B (entries_of C (a ∷ b ∷ c ∷ d ∷ []))))
      (scale_m exprs (var 15) (mix exprs (var 12) (var 13) (var 14) M₀ M₁ M₂))
      (mix exprs (var 12) (var 13) (var 14) (scale_m exprs (var 15) M₀) (scale_m exprs (var 15) M₁) (scale_m exprs (var 15) M₂))
      (tt, tt, tt, tt)

-- a vector along the axes, and along what they become
abbrev combined : (O : Ops) → Vect O.Car → Three (Vect O.Car) → Mat (Quad O.Car)
combined O v m = mix (quads O) (of_root O v.x) (of_root O v.y) (of_root O v.z) (sigma O m.x) (sigma O m.y) (sigma O m.z)

abbrev pub vect_at : ℕ → Vect Expr
vect_at i = record {
  x = record { p = var i; q = var (i + 1) };
  y = record { p = var (i + 2); q = var (i + 3) };
  z = record { p = var (i + 4); q = var (i + 5) };
}

by_axes : (v : Vect ℤ) → sigma ints v ≡ combined ints v (axes ints)
by_axes v = solve_MQ ints ints_laws (coords v) (sigma exprs V₀) (combined exprs V₀ (axes exprs)) passed

turned_is : (v : Vect ℤ) (m : Three (Vect ℤ)) → combined ints v m ≡ sigma ints (turned_by ints m v)
turned_is v m =
    solve_MQ ints ints_laws (coords v ++ (coords m.x ++ (coords m.y ++ coords m.z)))
    (combined exprs V₀ M) (sigma exprs (turned_by exprs M V₀)) passed
  where
    M : Three (Vect Expr)
    M = record { x = vect_at 6; y = vect_at 12; z = vect_at 18 }

pub turns_all : {u : Matrix} {r : Rotation} → Axes u r → (v : Vect ℤ) → Turns u v (turned_by ints r.m v) r.e
turns_all {u} {r} h v =
    record {
      turned =
          ap (λ s. lifted r.e (sand u.m s)) (by_axes v)
          ∙ ap (lifted r.e) (mix_sand a b c (sigma ints (axes ints).x) (sigma ints (axes ints).y) (sigma ints (axes ints).z) u.m)
          ∙ mix_scale a b c (through (axes ints).x) (through (axes ints).y) (through (axes ints).z) (root2^ r.e)
          ∙ (λ i. mix omegas a b c (h.x.turned i) (h.y.turned i) (h.z.turned i))
          ∙ sym (mix_scale a b c (once r.m.x) (once r.m.y) (once r.m.z) (root2^ u.e))
          ∙ ap (lifted u.e) (sym (mix_scale a b c (sigma ints r.m.x) (sigma ints r.m.y) (sigma ints r.m.z) (root2^ u.e)))
          ∙ ap (λ s. lifted u.e (lifted u.e s)) (turned_is v r.m);
    }
  where
    a : Ω
    a = of_root ints v.x

    b : Ω
    b = of_root ints v.y

    c : Ω
    c = of_root ints v.z

    through : Vect ℤ → Mat Ω
    through w = sand u.m (sigma ints w)

    once : Vect ℤ → Mat Ω
    once w = lifted u.e (sigma ints w)

-- ---- the same rotation, the other way and by a third
pub rotation_sym : {r s : Rotation} → SameRotation r s → SameRotation s r
rotation_sym h = record { x_same = sym h.x_same; y_same = sym h.y_same; z_same = sym h.z_same }

lift_swap : (m n : ℕ) (v : Vect ℤ) → lift m (lift n v) ≡ lift n (lift m v)
lift_swap m n v = sym (lift_add m n v) ∙ ap (λ k. lift k v) (add_comm m n) ∙ lift_add n m v

pub rotation_trans : {r s t : Rotation} → SameRotation r s → SameRotation s t → SameRotation r t
rotation_trans {r} {s} {t} h k =
    record {
      x_same = over r.m.x s.m.x t.m.x h.x_same k.x_same;
      y_same = over r.m.y s.m.y t.m.y h.y_same k.y_same;
      z_same = over r.m.z s.m.z t.m.z h.z_same k.z_same;
    }
  where
    over : (u v w : Vect ℤ) → lift s.e u ≡ lift r.e v → lift t.e v ≡ lift s.e w → lift t.e u ≡ lift r.e w
    over u v w f g =
        lift_cancel s.e (lift t.e u) (lift r.e w)
        (lift_swap s.e t.e u
        ∙ ap (lift t.e) f
        ∙ lift_swap t.e r.e v
        ∙ ap (lift r.e) g
        ∙ lift_swap r.e s.e w)

-- at one exponent they are equal
pub one_rotation : {r s : Rotation} → SameRotation r s → r.e ≡ s.e → r ≡ s
one_rotation {r} {s} h k =
    let x_is = part r.m.x s.m.x h.x_same in
    let y_is = part r.m.y s.m.y h.y_same in
    let z_is = part r.m.z s.m.z h.z_same in
    λ i. record { m = record { x = x_is i; y = y_is i; z = z_is i }; e = k i }
  where
    part : (v w : Vect ℤ) → lift s.e v ≡ lift r.e w → v ≡ w
    part v w e = lift_cancel s.e v w (e ∙ ap (λ n. lift n w) k)

-- ---- one matrix has one rotation, however it is written
pub rotation_same : {x y : Matrix} {r s : Rotation} → Same x y → RotationOf x r → RotationOf y s → SameRotation r s
rotation_same {x} {y} {r} {s} e h k =
    let f = axes_of_lem h in
    let g = axes_of_lem k in
    record { x_same = turns_same e f.x g.x; y_same = turns_same e f.y g.y; z_same = turns_same e f.z g.z }

rewritten : {u : Matrix} {v y y' : Vect ℤ} {f f' : ℕ} → Turns u v y f → lift f' y ≡ lift f y' → Turns u v y' f'
rewritten {u} {v} {y} {y'} {f} {f'} h e =
    record {
      turned =
          lifted_cancel f (lifted f' s) (lifted u.e (lifted u.e (sigma ints y')))
          (scale_swap omegas omegas_laws (root2^ f) (root2^ f') s
          ∙ ap (lifted f') h.turned
          ∙ scale_past omegas omegas_laws (root2^ f') (root2^ u.e) (sigma ints y)
          ∙ ap (λ m. lifted u.e (lifted u.e m)) (lifted_sigma f' y ∙ ap (sigma ints) e ∙ sym (lifted_sigma f y'))
          ∙ sym (scale_past omegas omegas_laws (root2^ f) (root2^ u.e) (sigma ints y')));
    }
  where
    s : Mat Ω
    s = sand u.m (sigma ints v)

pub rotation_written : {x : Matrix} {r s : Rotation} → RotationOf x r → SameRotation r s → RotationOf x s
rotation_written h e =
    let f = axes_of_lem h in
    of_axes (record { x = rewritten f.x e.x_same; y = rewritten f.y e.y_same; z = rewritten f.z e.z_same })

moved : {x y : Matrix} {v w : Vect ℤ} {f : ℕ} → Same x y → Turns x v w f → Turns y v w f
moved {x} {y} {v} {w} {f} s h =
    record {
      turned =
          lifted_cancel x.e (lifted f t) (lifted y.e (lifted y.e (sigma ints w)))
          (lifted_cancel x.e (lifted x.e (lifted f t)) (lifted x.e (lifted y.e (lifted y.e (sigma ints w))))
          (sym (scale_past omegas omegas_laws (root2^ f) (root2^ x.e) t)
          ∙ ap (lifted f)
          (sym (lifted_sand x.e y.m (sigma ints v)) ∙ ap (λ m. sand m (sigma ints v)) (sym s.same) ∙ lifted_sand y.e x.m (sigma ints v))
          ∙ scale_past omegas omegas_laws (root2^ f) (root2^ y.e) (sand x.m (sigma ints v))
          ∙ ap (λ m. lifted y.e (lifted y.e m)) h.turned
          ∙ ap (lifted y.e) (scale_past omegas omegas_laws (root2^ y.e) (root2^ x.e) (sigma ints w))
          ∙ scale_past omegas omegas_laws (root2^ y.e) (root2^ x.e) (lifted y.e (sigma ints w))));
    }
  where
    t : Mat Ω
    t = sand y.m (sigma ints v)

pub rotation_moved : {x y : Matrix} {r : Rotation} → Same x y → RotationOf x r → RotationOf y r
rotation_moved e h = let f = axes_of_lem h in of_axes (record { x = moved e f.x; y = moved e f.y; z = moved e f.z })

-- ---- the product
pub rotation_mul : {x y : Matrix} {r s : Rotation} → RotationOf x r → RotationOf y s → RotationOf (x · y) (r ∘ s)
rotation_mul {x} {y} {r} {s} h k =
    let f = axes_of_lem h in
    let g = axes_of_lem k in
    of_axes
    (record {
      x = turns_mul (turns_all f s.m.x) g.x;
      y = turns_mul (turns_all f s.m.y) g.y;
      z = turns_mul (turns_all f s.m.z) g.z;
    })

pub rotation_unit : RotationOf unit still
rotation_unit = of_axes (record { x = turns_unit (axes ints).x; y = turns_unit (axes ints).y; z = turns_unit (axes ints).z })

-- ---- a number of size 1 in front changes nothing
turns_scaled : (c : Ω) → mul_q ints c (conj_q ints c) ≡ const_q ints (pos 1) → {x : Matrix} {v y : Vect ℤ} {f : ℕ} → Turns x v y f
    → Turns (scaled c x) v y f
turns_scaled c one {x} {v} {y} {f} h = record { turned = ap (lifted f) away ∙ h.turned }
  where
    star_scaled : star_m ints (scale_m omegas c x.m) ≡ scale_m omegas (conj_q ints c) (star_m ints x.m)
    star_scaled =
        mat_path
        (conj_mul ints ints_laws c x.m.p)
        (conj_mul ints ints_laws c x.m.r)
        (conj_mul ints ints_laws c x.m.q)
        (conj_mul ints ints_laws c x.m.s)

    away : sand (scale_m omegas c x.m) (sigma ints v) ≡ sand x.m (sigma ints v)
    away =
        ap₂ (mul_m omegas) (scale_mul_m omegas omegas_laws c x.m (sigma ints v)) star_scaled
        ∙ scale_both omegas omegas_laws c (conj_q ints c) (mul_m omegas x.m (sigma ints v)) (star_m ints x.m)
        ∙ ap (λ d. scale_m omegas d (sand x.m (sigma ints v))) one
        ∙ scale_one omegas omegas_laws (sand x.m (sigma ints v))

pub rotation_phase : (n : ℕ) {x : Matrix} {r : Rotation} → RotationOf x r → RotationOf (scaled (omega^ n) x) r
rotation_phase n h =
    let f = axes_of_lem h in
    let one = omega^_conj n in
    of_axes (record { x = turns_scaled (omega^ n) one f.x; y = turns_scaled (omega^ n) one f.y; z = turns_scaled (omega^ n) one f.z })

-- ---- words
abbrev pub word_rotation : List Letter → Rotation
word_rotation u = record { m = record { x = turn u (axes ints).x; y = turn u (axes ints).y; z = turn u (axes ints).z }; e = tees u }

pub rotation_word : (u : List Letter) → RotationOf (word u) (word_rotation u)
rotation_word u = of_axes (record { x = turns_word u (axes ints).x; y = turns_word u (axes ints).y; z = turns_word u (axes ints).z })

pub rotation_append : (u v : List Letter) → SameRotation (word_rotation (u ++ v)) (word_rotation u ∘ word_rotation v)
rotation_append u v = rotation_same (Same-of (word_append u v)) (rotation_word (u ++ v)) (rotation_mul (rotation_word u) (rotation_word v))

-- ---- triples
pub rotation_mul_t : (s t : Triple) {r q : Rotation} → RotationOf (entries s) r → RotationOf (entries t) q → RotationOf (entries (mul_t s t)) (r ∘ q)
rotation_mul_t s t h k = rw (mul_t_is s t) (rotation_mul h k)
