-- The least exponent of a rotation: there is one; of a normal word's matrix it is the number of its T letters (Giles and Selinger), and no word with
-- that matrix has fewer; and how it is found in a rotation that is written with another exponent. Assumes nothing.
use Rattle.std.specs.Prelude.{◌≡◌, refl, List, ℕ, zero, suc, ◌+◌, ◌-◌, ◌/◌, ◌%◌, ◌≤◌, ◌<◌, ℤ}
use Rattle.std.proofs.Common.{sym, ◌∙◌, ap, subst, arith}
use Rattle.exact.specs.Meaning.Number.{ints}
use Rattle.exact.specs.Meaning.Matrix.{Matrix, Same}
use Rattle.exact.specs.Meaning.Word.{Letter, word, tees}
use Rattle.exact.specs.Meaning.Normal.{Normal}
use Rattle.exact.specs.Meaning.Rotation.{Root, Three, Vect, turned_by, lift, Rotation, SameRotation, LeastExponent, RotationOf}
use Rattle.exact.specs.Algebra.RootPower.{lift_r, DividesR}
use Rattle.exact.proofs.Algebra.RootPower.{lift_divides, less_divides, evenly, oddly, evenly_lift, oddly_lift}
use Rattle.exact.proofs.Matrices.Same.{Same-refl}
use Rattle.exact.proofs.Rotation.Vectors.{vect_path, turn, lift_add, lift_cancel, lift_parts}
use Rattle.exact.proofs.Rotation.Turns.{turns_same, turns_word}
use Rattle.exact.proofs.Rotation.Parity.{Seen, least}
use Rattle.exact.proofs.Rotation.Laws.{axes_of_lem, turns_all, rotation_sym, rotation_trans, rotation_same, rotation_written}
use Rattle.exact.proofs.Rotation.Laws.{word_rotation, rotation_word}
use Rattle.exact.proofs.Unique.Normal.{normal_seen}
use Rattle.exact.specs.Rotation.Least.{DividesV, Divides, Deepest, lifts}

-- ---- there is one
pub least_once : {r : Rotation} {j k : ℕ} → LeastExponent r j → LeastExponent r k → j ≡ k
least_once {r} {j} {k} g h =
    omega (arith, g.least (record { m = h.written; e = k }) h.same, h.least (record { m = g.written; e = j }) g.same)

pub least_moved : {r s : Rotation} {e : ℕ} → SameRotation r s → LeastExponent r e → LeastExponent s e
least_moved h l =
    record { written = l.written; same = rotation_trans (rotation_sym h) l.same; least = λ t k. l.least t (rotation_trans h k) }

-- ---- words
-- what can be struck on both sides
struck : (m n : ℕ) (v w : Vect ℤ) → m < n → lift m v ≡ lift n w → v ≡ lift (suc (n - suc m)) w
struck m n v w l e =
    lift_cancel m v (lift (suc (n - suc m)) w) (e ∙ ap (λ k. lift k w) whole ∙ lift_add m (suc (n - suc m)) w)
  where
    whole : n ≡ m + suc (n - suc m)
    whole = omega arith

pub seen_least : (u : List Letter) → Seen u → {r : Rotation} → RotationOf (word u) r → LeastExponent r (tees u)
seen_least u seen {r} h =
    record { written = (word_rotation u).m; same = rotation_same (Same-refl (word u)) h (rotation_word u); least = λ s e. omega (arith, no_less s e) }
  where
    no_less : (s : Rotation) → SameRotation r s → s.e < tees u → ⊥
    no_less s e l =
        least u seen (tees u - suc s.e) y
        (struck s.e (tees u) (turn u seen.at) y l
        (turns_same (Same-refl (word u)) (turns_word u seen.at) (turns_all (axes_of_lem (rotation_written h e)) seen.at)))
      where
        y : Vect ℤ
        y = turned_by ints s.m seen.at

pub normal_least : {u : List Letter} → Normal u → {r : Rotation} → RotationOf (word u) r → LeastExponent r (tees u)
normal_least {u} n = seen_least u (normal_seen n)

pub none_fewer : (u : List Letter) {x : Matrix} {r : Rotation} {e : ℕ} → Same x (word u) → RotationOf x r → LeastExponent r e → e ≤ tees u
none_fewer u h k l = l.least (word_rotation u) (rotation_same h k (rotation_word u))

of_lift : (j n : ℕ) (v w : Vect ℤ) → j ≤ n → v ≡ lift n w → DividesV j v
of_lift j n v w l e =
    let f = e ∙ lift_parts n w in
    record { x_so = part w.x (ap (λ u. u.x) f); y_so = part w.y (ap (λ u. u.y) f); z_so = part w.z (ap (λ u. u.z) f) }
  where
    part : {a : Root ℤ} (b : Root ℤ) → a ≡ lift_r n b → DividesR j a
    part b g = subst (DividesR j) (sym g) (less_divides j n (lift_r n b) l (lift_divides n b))

module _ (f n : ℕ) (m low : Three (Vect ℤ)) (is : lifts n low ≡ m) where
  pub lowered_same : n ≤ f → SameRotation (record { m = m; e = f }) (record { m = low; e = f - n })
  lowered_same within =
      record { x_same = back low.x (ap (λ c. c.x) is); y_same = back low.y (ap (λ c. c.y) is); z_same = back low.z (ap (λ c. c.z) is) }
    where
      whole : f - n + n ≡ f
      whole = omega arith

      back : (v : Vect ℤ) {w : Vect ℤ} → lift n v ≡ w → lift (f - n) w ≡ lift f v
      back v e = ap (lift (f - n)) (sym e) ∙ sym (lift_add (f - n) n v) ∙ ap (λ k. lift k v) whole

  pub lowered_least : Deepest f m n → LeastExponent (record { m = m; e = f }) (f - n)
  lowered_least d = record { written = low; same = lowered_same d.within; least = λ s e. omega (arith, no_less s e) }
    where
      no_less : (s : Rotation) → SameRotation (record { m = m; e = f }) s → s.e < f - n → ⊥
      no_less s e l =
          let k = suc (f - suc s.e) in
          d.no_more (omega arith)
          (record {
            x_so = of_lift (suc n) k m.x s.m.x (omega arith) (struck s.e f m.x s.m.x (omega arith) e.x_same);
            y_so = of_lift (suc n) k m.y s.m.y (omega arith) (struck s.e f m.y s.m.y (omega arith) e.y_same);
            z_so = of_lift (suc n) k m.z s.m.z (omega arith) (struck s.e f m.z s.m.z (omega arith) e.z_same);
          })

-- the quotient, where root two to the n divides them
pub record Quotient (n : ℕ) (m : Three (Vect ℤ)) : Type 0 where
  pub low : Three (Vect ℤ)
  pub is : lifts n low ≡ m

pub quotient : (n : ℕ) (m : Three (Vect ℤ)) → Divides n m → Quotient n m
quotient n m d = go (n % 2) refl
  where
    by : (over : Root ℤ → Root ℤ) → ((r : Root ℤ) → DividesR n r → lift_r n (over r) ≡ r) → Quotient n m
    by over back =
        record {
          low = record {
            x = record { x = over m.x.x; y = over m.x.y; z = over m.x.z };
            y = record { x = over m.y.x; y = over m.y.y; z = over m.y.z };
            z = record { x = over m.z.x; y = over m.z.y; z = over m.z.z };
          };
          is = λ i. record { x = whole m.x d.x_so i; y = whole m.y d.y_so i; z = whole m.z d.z_so i };
        }
      where
        whole : (v : Vect ℤ) → DividesV n v → lift n (record { x = over v.x; y = over v.y; z = over v.z }) ≡ v
        whole v h =
            lift_parts n (record { x = over v.x; y = over v.y; z = over v.z })
            ∙ vect_path (back v.x h.x_so) (back v.y h.y_so) (back v.z h.z_so)

    go : (b : ℕ) → n % 2 ≡ b → Quotient n m
    go zero e = by (evenly (n / 2)) (λ r. evenly_lift n (n / 2) r (omega arith))
    go (suc b) e = by (oddly (n / 2)) (λ r. oddly_lift n (n / 2) r (omega arith))
