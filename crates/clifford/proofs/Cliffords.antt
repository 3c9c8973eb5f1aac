-- Products, inverses, splits and the passing of a T, as the moves and the tables give them, are right for matrices. Assumes nothing.
use Rattle.std.specs.Prelude.{◌≡◌, refl, List, [], ◌∷◌, ◌++◌, ℕ, zero, suc, ◌+◌, ◌-◌, ◌*◌, ◌<◌, ◌≤◌, ℤ}
use Rattle.std.proofs.Common.{sym, ◌∙◌, ap, append_assoc, append-nil, arith}
use Rattle.exact.specs.Meaning.Word.{Letter, H, S, X, W, T'}
use Rattle.exact.specs.Meaning.Normal.{times}
use Rattle.exact.specs.Meaning.Clifford.{cycle}
use Rattle.clifford.specs.declared.Axis.{Axis}
use Rattle.clifford.specs.declared.Clifford.{Clifford}
use Rattle.clifford.specs.declared.Coset.{Coset}
use Rattle.clifford.specs.declared.Tconj.{Tconj}
use Rattle.clifford.specs.Meaning.{letters, axis_word, reduced, Ranged, Product, Inverse, Split}
use Rattle.clifford.specs.Arguments.{Reduced}
use Rattle.clifford.specs.Words.{◌≈◌}
use Rattle.clifford.proofs.Words.{by_test, by_refl, by_eq, by_sym, ◌⨾◌, join, under, before, other_side, lessened, cycles, exes, esses}
use Rattle.clifford.proofs.Words.{doubleyous, pass, pass_S}
use Rattle.clifford.specs.Tables.{quadruple, cinv, tconj, RowInv, RowT}
use Rattle.clifford.proofs.Tables.{cinv_right, tconj_right}
use Rattle.clifford.specs.Moves.{Preceded}
use Rattle.clifford.proofs.Moves.{preceded_right}
use Rattle.clifford.specs.Cliffords.{reduce, after, mul_c, inv_c, clifford_h, clifford_SH, clifford_HS, clifford_SHS, split_at, split_c, tconj_c}

pub reduce_ranged : (a b c d : ℕ) → Ranged (reduce a b c d)
reduce_ranged a b c d = record { a_few = omega arith; b_few = omega arith; c_few = omega arith; d_few = omega arith }

pub reduce_same : (a b c d : ℕ) → letters (quadruple a b c d) ≈ letters (reduce a b c d)
reduce_same a b c d = join (lessened cycles a) (join (lessened exes b) (join (lessened esses c) (lessened doubleyous d)))

-- what follows a Clifford passes its omegas
turned : (A B C R : List Letter) (d : ℕ) → (A ++ (B ++ (C ++ times d W))) ++ R ≈ (A ++ (B ++ (C ++ R))) ++ times d W
turned A B C R d =
    by_eq {v = A ++ (B ++ (C ++ (times d W ++ R)))} (simp append_assoc)
    ⨾ under A (under B (under C (pass d R)))
    ⨾ by_eq (simp append_assoc)

pub mul_ranged : (x y : Clifford) → Ranged (mul_c x y)
unfolding mul_c
mul_ranged x y = let q = after x y in reduce_ranged (x.a + q.a) q.b q.c (q.d + x.d)

pub mul_right : (x y : Clifford) → Ranged x → Ranged y → Product x y (mul_c x y)
unfolding mul_c
mul_right x y hx hy = record { ranged = mul_ranged x y; same = (by_sym whole).same }
  where
    q : Clifford
    q = after x y

    gathered : (a a' d d' : ℕ) (B C : List Letter)
        → cycle a ++ ((cycle a' ++ (B ++ (C ++ times d W))) ++ times d' W) ≡ cycle (a + a') ++ (B ++ (C ++ times (d + d') W))
    gathered a a' d d' B C = rw (cycles.add a a', doubleyous.add d d') (simp append_assoc)

    whole : letters x ++ letters y ≈ letters (mul_c x y)
    whole =
        turned (cycle x.a) (times x.b X) (times x.c S) (letters y) x.d
        ⨾ by_eq {v = cycle x.a ++ ((times x.b X ++ (times x.c S ++ letters y)) ++ times x.d W)} (simp append_assoc)
        ⨾ under (cycle x.a) (before (preceded_right x.b x.c y hy) (times x.d W))
        ⨾ by_eq (gathered x.a q.a q.d x.d (times q.b X) (times q.c S))
        ⨾ reduce_same (x.a + q.a) q.b q.c (q.d + x.d)

pub inv_ranged : (x : Clifford) → Ranged (inv_c x)
unfolding inv_c
inv_ranged x = let r = cinv (x.a * 8 + x.b * 4 + x.c) in reduce_ranged r.a r.b r.c (r.d + (8 - x.d))

pub inv_right : (x : Clifford) → Ranged x → Inverse x (inv_c x)
unfolding inv_c
inv_right x hx = record { ranged = inv_ranged x; after = undone.same; before = (other_side (letters x) (letters (inv_c x)) undone).same }
  where
    r : Clifford
    r = cinv (x.a * 8 + x.b * 4 + x.c)

    -- eight omegas more are none
    filled : (A B C : List Letter) (n d : ℕ) → d ≤ 8 → (A ++ (B ++ (C ++ times (n + (8 - d)) W))) ++ times d W ≈ A ++ (B ++ (C ++ times n W))
    filled A B C n d h =
        by_eq {v = A ++ (B ++ (C ++ (times (n + (8 - d)) W ++ times d W)))} (simp append_assoc)
        ⨾ under A (under B (under C round))
      where
        eight : n + (8 - d) + d ≡ n + 8
        eight = omega arith

        round : times (n + (8 - d)) W ++ times d W ≈ times n W
        round =
            by_eq (sym (doubleyous.add (n + (8 - d)) d) ∙ ap (λ k. times k W) eight ∙ doubleyous.add n 8)
            ⨾ under (times n W) doubleyous.round
            ⨾ by_eq (append-nil (times n W))

    front : List Letter
    front = cycle x.a ++ (times x.b X ++ times x.c S)

    row : List Letter
    row = letters (quadruple r.a r.b r.c (r.d + (8 - x.d)))

    undone : letters x ++ letters (inv_c x) ≈ []
    undone =
        under (letters x) (by_sym (reduce_same r.a r.b r.c (r.d + (8 - x.d))))
        ⨾ turned (cycle x.a) (times x.b X) (times x.c S) row x.d
        ⨾ by_eq {v = front ++ (row ++ times x.d W)} (simp append_assoc)
        ⨾ under front (filled (cycle r.a) (times r.b X) (times r.c S) r.d x.d (omega (arith, hx.d_few)))
        ⨾ by_eq (simp append_assoc)
        ⨾ cinv_right x.a x.b x.c hx.a_few hx.b_few hx.c_few

pub H_is : letters clifford_h ≈ H ∷ []
H_is = by_test (letters clifford_h) (H ∷ []) tt

pub SH_is : letters clifford_SH ≈ S ∷ H ∷ []
SH_is = by_test (letters clifford_SH) (S ∷ H ∷ []) tt

pub HS_is : letters clifford_HS ≈ H ∷ S ∷ []
HS_is = by_test (letters clifford_HS) (H ∷ S ∷ []) tt

pub SHS_is : letters clifford_SHS ≈ S ∷ H ∷ S ∷ []
SHS_is = by_test (letters clifford_SHS) (S ∷ H ∷ S ∷ []) tt

pub few : (a b c d : ℕ) → a < 3 → b < 2 → c < 4 → d < 8 → Ranged (quadruple a b c d)
few a b c d ha hb hc hd = record { a_few = ha; b_few = hb; c_few = hc; d_few = hd }

pub H_ranged : Ranged clifford_h
H_ranged = few 1 0 1 5 (omega arith) (omega arith) (omega arith) (omega arith)

pub SH_ranged : Ranged clifford_SH
SH_ranged = few 2 0 0 3 (omega arith) (omega arith) (omega arith) (omega arith)

-- an axis taken from the left leaves the rest
taken : (q x : Clifford) (u : List Letter) → Ranged q → Ranged x → letters q ≈ u → letters x ≈ u ++ letters (mul_c (inv_c q) x)
taken q x u hq hx h =
    by_sym
    (under u (record { same = (mul_right (inv_c q) x (inv_ranged q) hx).same })
    ⨾ by_eq (sym (append_assoc u (letters (inv_c q)) (letters x)))
    ⨾ before {v = []} (before (by_sym h) (letters (inv_c q)) ⨾ record { same = (inv_right q hq).after }) (letters x))

split_is : (n : ℕ) (x : Clifford) → Ranged x → x.a ≡ n → Split x (split_at n x)
unfolding mul_c inv_c
split_is zero x hx e = record { ranged = hx; axis_is = sym e; rest_a = e; same = (by_refl (letters x)).same }
split_is (suc zero) x hx e = record {
  ranged = mul_ranged (inv_c clifford_h) x;
  axis_is = sym e;
  rest_a = rw e;
  same = (taken clifford_h x (H ∷ []) H_ranged hx H_is).same;
}
split_is (suc (suc zero)) x hx e = record {
  ranged = mul_ranged (inv_c clifford_SH) x;
  axis_is = sym e;
  rest_a = rw e;
  same = (taken clifford_SH x (S ∷ H ∷ []) SH_ranged hx SH_is).same;
}
split_is (suc (suc (suc n))) x hx e = absurd (omega (arith, hx.a_few))

pub split_right : (x : Clifford) → Ranged x → Split x (split_c x)
split_right x hx = split_is x.a x hx refl

pub tconj_ranged : (x : Clifford) → Ranged (tconj_c x).rest
unfolding tconj_c
tconj_ranged x = let r = tconj (x.a * 2 + x.b) in reduce_ranged 0 x.b (x.c + r.c) (x.d + r.d)

pub tconj_same : (x : Clifford) → Ranged x → letters x ++ (T' ∷ []) ≈ axis_word (tconj_c x).axis ++ (T' ∷ letters (tconj_c x).rest)
unfolding tconj_c
tconj_same x hx =
    passed (cycle x.a) (times x.b X) (axis_word r.axis) x.c x.d r.c r.d (tconj_right x.a x.b hx.a_few hx.b_few)
    ⨾ under (axis_word r.axis) (under (T' ∷ []) (reduce_same 0 x.b (x.c + r.c) (x.d + r.d)))
  where
    r : Tconj
    r = tconj (x.a * 2 + x.b)

    passed : (A B F : List Letter) (c d c' d' : ℕ) → A ++ (B ++ (T' ∷ [])) ≈ F ++ (T' ∷ (B ++ (times c' S ++ times d' W)))
        → (A ++ (B ++ (times c S ++ times d W))) ++ (T' ∷ []) ≈ F ++ (T' ∷ (B ++ (times (c + c') S ++ times (d + d') W)))
    passed A B F c d c' d' h =
        by_eq {v = A ++ (B ++ (times c S ++ (times d W ++ (T' ∷ []))))} (simp append_assoc)
        ⨾ under A (under B (under (times c S) (pass d (T' ∷ []))))
        ⨾ by_eq {v = A ++ (B ++ ((times c S ++ (T' ∷ [])) ++ times d W))} (simp append_assoc)
        ⨾ under A (under B (before (pass_S c) (times d W)))
        ⨾ by_eq {v = (A ++ (B ++ (T' ∷ []))) ++ (times c S ++ times d W)} (simp append_assoc)
        ⨾ before h (times c S ++ times d W)
        ⨾ by_eq {v = F ++ (T' ∷ (B ++ (times c' S ++ (times d' W ++ (times c S ++ times d W)))))} (simp append_assoc)
        ⨾ under F (under (T' ∷ []) (under B (under (times c' S) (pass d' (times c S ++ times d W)))))
        ⨾ by_eq {v = F ++ (T' ∷ (B ++ ((times c' S ++ times c S) ++ (times d W ++ times d' W))))} (simp append_assoc)
        ⨾ by_eq (rw (← esses.add c' c, ← doubleyous.add d d', native.Mathlib.Nat.add_comm c' c))

-- ---- what the program does, row by row
abbrev coset : Axis → Clifford → Coset
coset w r = record { axis = w; rest = r }

pub mul_by : (x y q r : Clifford) → Preceded x.b x.c y q → r ≡ reduce (x.a + q.a) q.b q.c (q.d + x.d) → r ≡ mul_c x y
unfolding mul_c
mul_by x y q r p e = e ∙ rw p.is

pub inv_by : (x r q : Clifford) → RowInv (x.a * 8 + x.b * 4 + x.c) r → q ≡ reduce r.a r.b r.c (r.d + (8 - x.d)) → q ≡ inv_c x
unfolding inv_c
inv_by x r q row e = e ∙ rw row.is

pub tconj_by : (x q : Clifford) (r : Tconj) → RowT (x.a * 2 + x.b) r → q ≡ reduce 0 x.b (x.c + r.c) (x.d + r.d)
    → coset r.axis q ≡ tconj_c x
unfolding tconj_c
tconj_by x q r p e = rw (e, p.is)

-- what is neither 0 nor 1 is 2
last : (x : Clifford) → (x.a ≡ 0 → ⊥) → (x.a ≡ 1 → ⊥) → split_at 2 x ≡ split_c x
last x f g = go x.a f g
  where
    go : (n : ℕ) → (n ≡ 0 → ⊥) → (n ≡ 1 → ⊥) → split_at 2 x ≡ split_at n x
    go zero f g = absurd (f refl)
    go (suc zero) f g = absurd (g refl)
    go (suc (suc n)) f g = refl

-- q is the axis's inverse and r is q times x
module _ (x : Clifford) where
  pub split_none : x.a ≡ 0 → coset Axis.I x ≡ split_c x
  split_none e = rw e

  pub split_H : x.a ≡ 1 → (q r : Clifford) → q ≡ inv_c clifford_h → r ≡ mul_c q x → coset Axis.H r ≡ split_c x
  split_H e q r f g = rw (g, f, e)

  pub split_SH : (x.a ≡ 0 → ⊥) → (x.a ≡ 1 → ⊥) → (q r : Clifford) → q ≡ inv_c clifford_SH → r ≡ mul_c q x → coset Axis.SH r ≡ split_c x
  split_SH m n q r f g = rw (g, f) (last x m n)

-- ---- job 6: x is what the program made of four numbers
module _ (a b c d : ℤ) (x : Clifford) (read : Reduced a b c d x) where
  pub inverse_job : (r : Clifford) → r ≡ inv_c x → Inverse (reduced a b c d) r
  inverse_job r g = rw (sym read.is, g) (inv_right x read.ranged)

  pub split_job : (r : Coset) → r ≡ split_c x → Split (reduced a b c d) r
  split_job r g = rw (sym read.is, g) (split_right x read.ranged)

  pub product_job : (e f g h : ℤ) → (y r : Clifford) → Reduced e f g h y → r ≡ mul_c x y → Product (reduced a b c d) (reduced e f g h) r
  product_job e f g h y r other i = rw (sym read.is, sym other.is, i) (mul_right x y read.ranged other.ranged)
