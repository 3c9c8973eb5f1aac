-- Rotations (docs/SCOPE.md, Rotation): what U·P·U* makes of the axes X, Y and Z, three by three numbers of ℤ[root two] over a power of root two;
-- when two are the same; their product; the least exponent.
use Rattle.std.specs.Prelude.{◌≡◌, ℕ, zero, suc, ◌+◌, ◌≤◌, ℤ, pos, negsuc}
use Rattle.exact.specs.Meaning.Number.{Ops, Quad, ints, quads, const_q, neg_q, mul_q, omega'}
use Rattle.exact.specs.Meaning.Matrix.{Mat, add_m, scale_m, Matrix, ◌·◌, star, Same}

-- ---- ℤ[root two]
-- p + q·root two
pub record Root (A : Type 0) : Type 0 where
  pub p : A
  pub q : A

module _ (O : Ops) where
  open O use {Car, add as ◌+'◌, mul as ◌*'◌, neg, const}

  infixl 6 ◌+'◌
  infixl 7 ◌*'◌
  abbrev pub const_r : ℤ → Root Car
  const_r n = record { p = const n; q = const (pos 0) }

  abbrev pub add_r : Root Car → Root Car → Root Car
  add_r x y = record { p = x.p +' y.p; q = x.q +' y.q }

  abbrev pub mul_r : Root Car → Root Car → Root Car
  mul_r x y = record { p = x.p *' y.p +' (x.q *' y.q +' x.q *' y.q); q = x.p *' y.q +' x.q *' y.p }

  -- root two times
  abbrev pub times_r : Root Car → Root Car
  times_r x = record { p = x.q +' x.q; q = x.p }

  -- as a ring number, root two being omega - omega³
  abbrev pub of_root : Root Car → Quad Car
  of_root x = record { a = neg x.q; b = const (pos 0); c = x.q; d = x.p }

-- ---- vectors, by their parts along X, Y and Z
pub record Three (A : Type 0) : Type 0 where
  pub x : A
  pub y : A
  pub z : A

abbrev pub Vect : Type 0 → Type 0
Vect A = Three (Root A)

module _ (O : Ops) where
  abbrev int : ℤ → Quad O.Car
  int = const_q O

  abbrev i : Quad O.Car
  i = mul_q O (omega' O) (omega' O)

  -- X is [0 1; 1 0], Y is [0 -i; i 0], Z is [1 0; 0 -1]
  abbrev pub paulis : Three (Mat (Quad O.Car))
  paulis = record {
    x = record { p = int (pos 0); q = int (pos 1); r = int (pos 1); s = int (pos 0) };
    y = record { p = int (pos 0); q = neg_q O i; r = i; s = int (pos 0) };
    z = record { p = int (pos 1); q = int (pos 0); r = int (pos 0); s = int (negsuc 0) };
  }

  -- x·X + y·Y + z·Z
  abbrev pub along : Vect O.Car → Mat (Quad O.Car)
  along v =
      add_m (quads O)
      (add_m (quads O) (scale_m (quads O) (of_root O v.x) paulis.x) (scale_m (quads O) (of_root O v.y) paulis.y))
      (scale_m (quads O) (of_root O v.z) paulis.z)

  abbrev vector : ℤ → ℤ → ℤ → Vect O.Car
  vector a b c = record { x = const_r O a; y = const_r O b; z = const_r O c }

  -- the axes as they are
  abbrev pub axes : Three (Vect O.Car)
  axes = record { x = vector (pos 1) (pos 0) (pos 0); y = vector (pos 0) (pos 1) (pos 0); z = vector (pos 0) (pos 0) (pos 1) }

  abbrev pub times_v : Vect O.Car → Vect O.Car
  times_v v = record { x = times_r O v.x; y = times_r O v.y; z = times_r O v.z }

  abbrev pub add_v : Vect O.Car → Vect O.Car → Vect O.Car
  add_v v w = record { x = add_r O v.x w.x; y = add_r O v.y w.y; z = add_r O v.z w.z }

  abbrev pub scale_v : Root O.Car → Vect O.Car → Vect O.Car
  scale_v c v = record { x = mul_r O c v.x; y = mul_r O c v.y; z = mul_r O c v.z }

  -- what a vector becomes where the axes become m's three
  abbrev pub turned_by : Three (Vect O.Car) → Vect O.Car → Vect O.Car
  turned_by m v = add_v (add_v (scale_v v.x m.x) (scale_v v.y m.y)) (scale_v v.z m.z)

-- root two to the n times
abbrev pub lift : ℕ → Vect ℤ → Vect ℤ
lift zero v = v
lift (suc n) v = times_v ints (lift n v)

-- ---- rotations: what X becomes, what Y and what Z, the three columns, over root two to the e
pub record Rotation : Type 0 where
  pub m : Three (Vect ℤ)
  pub e : ℕ

abbrev pub still : Rotation
still = record { m = axes ints; e = 0 }

-- s first, then r
infixl 7 ◌∘◌
abbrev pub ◌∘◌ : Rotation → Rotation → Rotation
r ∘ s =
    record {
      m = record { x = turned_by ints r.m s.m.x; y = turned_by ints r.m s.m.y; z = turned_by ints r.m s.m.z };
      e = r.e + s.e;
    }

-- rows for columns
abbrev pub transposed : Rotation → Rotation
transposed r =
    record {
      m = record {
        x = record { x = r.m.x.x; y = r.m.y.x; z = r.m.z.x };
        y = record { x = r.m.x.y; y = r.m.y.y; z = r.m.z.y };
        z = record { x = r.m.x.z; y = r.m.y.z; z = r.m.z.z };
      };
      e = r.e;
    }

-- the same rotation: they agree after each is multiplied by root two to the other's exponent
pub record SameRotation (r s : Rotation) : Type 0 where
  pub x_same : lift s.e r.m.x ≡ lift r.e s.m.x
  pub y_same : lift s.e r.m.y ≡ lift r.e s.m.y
  pub z_same : lift s.e r.m.z ≡ lift r.e s.m.z

pub record Orthogonal (r : Rotation) : Type 0 where
  pub inverted : SameRotation (transposed r ∘ r) still

-- e is the least exponent that the rotation can be written with
pub record LeastExponent (r : Rotation) (e : ℕ) : Type 0 where
  pub written : Three (Vect ℤ)
  pub same : SameRotation r (record { m = written; e = e })
  pub least : (s : Rotation) → SameRotation r s → e ≤ s.e

-- ---- the rotation of a matrix: U·X·U*, U·Y·U* and U·Z·U* along X, Y and Z
abbrev axis : Mat (Quad ℤ) → Matrix
axis m = record { m = m; e = 0 }

abbrev along_axes : Vect ℤ → ℕ → Matrix
along_axes v e = record { m = along ints v; e = e }

pub record RotationOf (u : Matrix) (r : Rotation) : Type 0 where
  pub of_x : Same (u · axis (paulis ints).x · star u) (along_axes r.m.x r.e)
  pub of_y : Same (u · axis (paulis ints).y · star u) (along_axes r.m.y r.e)
  pub of_z : Same (u · axis (paulis ints).z · star u) (along_axes r.m.z r.e)
