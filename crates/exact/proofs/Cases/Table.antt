-- The cases of docs/SCOPE.md, Either side, as computed tables: for normalising, each right side is normal and has the left side's matrix; the
-- Cliffords that SCOPE names; and the reading order. Assumes nothing.
use Rattle.std.specs.Prelude.{◌≡◌, refl, Bool, true, false, ◌&&◌, List, [], ◌∷◌, ℕ, T, pos}
use Rattle.std.proofs.Math.Facts.{and_yes}
use Rattle.exact.specs.Meaning.Number.{ints, const_q, neg_q, omega'}
use Rattle.exact.specs.Meaning.Matrix.{Matrix, Same}
use Rattle.exact.specs.Meaning.Word.{Letter, I, H, S, X, W, T', word}
use Rattle.exact.specs.Meaning.Normal.{Normal}
use Rattle.exact.specs.Meaning.Clifford.{clifford}
use Rattle.exact.proofs.Matrices.Test.{same_test, same_by}
use Rattle.exact.proofs.Cases.NormalTest.{normal_test, normal_by}

pub record Row : Type 0 where
  pub left : List Letter
  pub right : List Letter

-- what holds of each row of a table, and its test
abbrev pub Each : {R : Type 0} → (R → Type 0) → List R → Type 0
Each P [] = Unit {0}
Each P (r ∷ rs) = P r × Each P rs

abbrev pub every : {R : Type 0} → (R → Bool) → List R → Bool
every f [] = true
every f (r ∷ rs) = f r && every f rs

pub each : {R : Type 0} (f : R → Bool) (P : R → Type 0) → ((r : R) → T (f r) → P r) → (rs : List R) → T (every f rs) → Each P rs
each f P g [] t = tt
each f P g (r ∷ rs) t = let s = and_yes (f r) (every f rs) t in (g r s.0, each f P g rs s.1)

-- from what holds of each row, and a test
pub each_more : {R : Type 0} (f : R → Bool) (P Q : R → Type 0) → ((r : R) → T (f r) → P r → Q r) → (rs : List R) → T (every f rs) → Each P rs
    → Each Q rs
each_more f P Q g [] t e = tt
each_more f P Q g (r ∷ rs) t e = let s = and_yes (f r) (every f rs) t in (g r s.0 e.0, each_more f P Q g rs s.1 e.1)

-- ---- the reading order: TH has rows [1, 1] and [omega, -omega] over root two
abbrev tee_aitch : Matrix
tee_aitch = record { m = record { p = const_q ints (pos 1); q = const_q ints (pos 1); r = omega' ints; s = neg_q ints (omega' ints) }; e = 1 }

pub reading_order : Same (word (T' ∷ H ∷ [])) tee_aitch
reading_order = same_by (word (T' ∷ H ∷ [])) tee_aitch tt

-- ---- normalising
pub record Normalised (r : Row) : Type 0 where
  pub normal : Normal r.right
  pub same : Same (word r.left) (word r.right)

abbrev row_test : Row → Bool
row_test r = normal_test r.right && same_test (word r.left) (word r.right)

row_by : (r : Row) → T (row_test r) → Normalised r
row_by r t =
    let s = and_yes (normal_test r.right) (same_test (word r.left) (word r.right)) t in
    record { normal = normal_by r.right s.0; same = same_by (word r.left) (word r.right) s.1 }

unfoldable pub cases : List Row
cases =
    record { left = []; right = I ∷ [] } ∷
    record { left = T' ∷ []; right = T' ∷ I ∷ [] } ∷
    record { left = T' ∷ T' ∷ []; right = S ∷ [] } ∷
    record { left = T' ∷ T' ∷ T' ∷ T' ∷ []; right = S ∷ S ∷ [] } ∷
    record { left = H ∷ H ∷ []; right = I ∷ [] } ∷
    record { left = H ∷ T' ∷ T' ∷ []; right = H ∷ S ∷ [] } ∷
    record { left = S ∷ H ∷ T' ∷ T' ∷ []; right = S ∷ H ∷ S ∷ [] } ∷
    record { left = H ∷ S ∷ H ∷ []; right = S ∷ H ∷ X ∷ S ∷ S ∷ S ∷ W ∷ [] } ∷
    record { left = X ∷ T' ∷ []; right = T' ∷ X ∷ S ∷ W ∷ W ∷ W ∷ W ∷ W ∷ W ∷ W ∷ [] } ∷
    record { left = W ∷ T' ∷ []; right = T' ∷ W ∷ [] } ∷
    record { left = H ∷ T' ∷ H ∷ T' ∷ []; right = H ∷ T' ∷ H ∷ T' ∷ I ∷ [] } ∷
    []

pub all_cases : Each Normalised cases
unfolding cases
all_cases = each row_test Normalised row_by cases tt

-- the Rust's answer to SHTT has another matrix
pub not_the_same : same_test (word (S ∷ H ∷ T' ∷ T' ∷ [])) (word (S ∷ H ∷ X ∷ S ∷ S ∷ S ∷ W ∷ [])) ≡ false
not_the_same = refl

-- ---- Cliffords: H is (1,0,1,5), S is (0,0,1,0), S-as-H is (2,0,0,3), H-as-S is (1,0,2,5)
abbrev quadruple : ℕ → ℕ → ℕ → ℕ → List Letter
quadruple a b c d = clifford (record { a = a; b = b; c = c; d = d })

pub record SameRow (r : Row) : Type 0 where
  pub same : Same (word r.left) (word r.right)

unfoldable pub products : List Row
products =
    record { left = H ∷ []; right = quadruple 1 0 1 5 } ∷
    record { left = S ∷ []; right = quadruple 0 0 1 0 } ∷
    record { left = S ∷ H ∷ []; right = quadruple 2 0 0 3 } ∷
    record { left = H ∷ S ∷ []; right = quadruple 1 0 2 5 } ∷
    []

pub all_products : Each SameRow products
unfolding products
all_products =
    each (λ r. same_test (word r.left) (word r.right)) SameRow
    (λ r t. record { same = same_by (word r.left) (word r.right) t }) products tt
