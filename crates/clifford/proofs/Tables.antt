-- The three tables, each proved right for matrices by one computed test over its rows. Assumes nothing.
use Rattle.std.specs.Prelude.{refl, Bool, ◌&&◌, List, [], ◌∷◌, ◌++◌, ℕ, zero, suc, ◌+◌, ◌*◌, ◌<◌, T, ltb}
use Rattle.std.proofs.Common.{arith, ltb→lt}
use Rattle.std.proofs.Math.Facts.{and_yes}
use Rattle.exact.specs.Meaning.Word.{Letter, S, X, W, T', word}
use Rattle.exact.specs.Meaning.Normal.{times}
use Rattle.exact.specs.Meaning.Clifford.{cycle}
use Rattle.exact.proofs.Matrices.Test.{same_test}
use Rattle.clifford.specs.declared.Clifford.{Clifford}
use Rattle.clifford.specs.Meaning.{letters, axis_word, Ranged}
use Rattle.clifford.specs.Words.{◌≈◌}
use Rattle.clifford.proofs.Words.{by_test}
use Rattle.clifford.specs.Tables.{conj2, cinv, tconj, all, Row2, RowInv, RowT}

pub at : (n : ℕ) (f : ℕ → Bool) → T (all n f) → (k : ℕ) → k < n → T (f k)
at zero f t k h = absurd (omega arith)
at (suc n) f t zero h = (and_yes (f 0) (all n (λ k. f (suc k))) t).0
at (suc n) f t (suc k) h = at n (λ k. f (suc k)) (and_yes (f 0) (all n (λ k. f (suc k))) t).1 k (omega arith)

-- at each a, b and c of a Clifford
abbrev pub all3 : (ℕ → ℕ → ℕ → Bool) → Bool
all3 f = all 3 (λ a. all 2 (λ b. all 4 (λ c. f a b c)))

pub at3 : (f : ℕ → ℕ → ℕ → Bool) → T (all3 f) → (a b c : ℕ) → a < 3 → b < 2 → c < 4 → T (f a b c)
at3 f t a b c ha hb hc = at 4 (λ c. f a b c) (at 2 (λ b. all 4 (λ c. f a b c)) (at 3 (λ a. all 2 (λ b. all 4 (λ c. f a b c))) t a ha) b hb) c hc

abbrev pub ranged_test : Clifford → Bool
ranged_test q = ltb q.a 3 && (ltb q.b 2 && (ltb q.c 4 && ltb q.d 8))

pub ranged_test_is : (q : Clifford) → T (ranged_test q) → Ranged q
ranged_test_is q t =
    let u = and_yes (ltb q.a 3) (ltb q.b 2 && (ltb q.c 4 && ltb q.d 8)) t in
    let v = and_yes (ltb q.b 2) (ltb q.c 4 && ltb q.d 8) u.1 in
    let w = and_yes (ltb q.c 4) (ltb q.d 8) v.1 in
    record { a_few = ltb→lt q.a 3 u.0; b_few = ltb→lt q.b 2 v.0; c_few = ltb→lt q.c 4 w.0; d_few = ltb→lt q.d 8 w.1 }

-- ---- CONJ2_TABLE: S^c X^b is X^b S^c' omega^d'
abbrev conj2_left : ℕ → ℕ → List Letter
conj2_left c b = times c S ++ times b X

abbrev conj2_word : ℕ → ℕ → List Letter
conj2_word c b = times b X ++ (times (conj2 (c * 2 + b)).c S ++ times (conj2 (c * 2 + b)).d W)

conj2_table : T (all 4 (λ c. all 2 (λ b. same_test (word (conj2_left c b)) (word (conj2_word c b)))))
conj2_table = tt

pub conj2_right : (c b : ℕ) → c < 4 → b < 2 → times c S ++ times b X ≈ times b X ++ (times (conj2 (c * 2 + b)).c S ++ times (conj2 (c * 2 + b)).d W)
conj2_right c b hc hb =
    by_test (conj2_left c b) (conj2_word c b)
    (at 2 (λ b. same_test (word (conj2_left c b)) (word (conj2_word c b)))
    (at 4 (λ c. all 2 (λ b. same_test (word (conj2_left c b)) (word (conj2_word c b)))) conj2_table c hc) b hb)

pub conj2_row : (i : ℕ) → i < 8 → Row2 i (conj2 i)
conj2_row i h =
    let t = and_yes (ltb (conj2 i).c 4) (ltb (conj2 i).d 8) (at 8 (λ i. ltb (conj2 i).c 4 && ltb (conj2 i).d 8) tt i h) in
    record { is = refl; c_few = ltb→lt (conj2 i).c 4 t.0; d_few = ltb→lt (conj2 i).d 8 t.1 }

-- ---- CINV_TABLE: E^a X^b S^c times its row is the unit
abbrev cinv_word : ℕ → ℕ → ℕ → List Letter
cinv_word a b c = cycle a ++ (times b X ++ (times c S ++ letters (cinv (a * 8 + b * 4 + c))))

cinv_table : T (all3 (λ a b c. same_test (word (cinv_word a b c)) (word [])))
cinv_table = tt

pub cinv_right : (a b c : ℕ) → a < 3 → b < 2 → c < 4 → cycle a ++ (times b X ++ (times c S ++ letters (cinv (a * 8 + b * 4 + c)))) ≈ []
cinv_right a b c ha hb hc = by_test (cinv_word a b c) [] (at3 (λ a b c. same_test (word (cinv_word a b c)) (word [])) cinv_table a b c ha hb hc)

pub cinv_row : (i : ℕ) → i < 24 → RowInv i (cinv i)
cinv_row i h = record { is = refl; ranged = ranged_test_is (cinv i) (at 24 (λ i. ranged_test (cinv i)) tt i h) }

-- ---- TCONJ_TABLE: E^a X^b T is axis T X^b S^c' omega^d'
abbrev tconj_left : ℕ → ℕ → List Letter
tconj_left a b = cycle a ++ (times b X ++ (T' ∷ []))

abbrev tconj_word : ℕ → ℕ → List Letter
tconj_word a b = axis_word (tconj (a * 2 + b)).axis ++ (T' ∷ (times b X ++ (times (tconj (a * 2 + b)).c S ++ times (tconj (a * 2 + b)).d W)))

tconj_table : T (all 3 (λ a. all 2 (λ b. same_test (word (tconj_left a b)) (word (tconj_word a b)))))
tconj_table = tt

pub tconj_right : (a b : ℕ) → a < 3 → b < 2
    → cycle a ++ (times b X ++ (T' ∷ []))
    ≈ axis_word (tconj (a * 2 + b)).axis ++ (T' ∷ (times b X ++ (times (tconj (a * 2 + b)).c S ++ times (tconj (a * 2 + b)).d W)))
tconj_right a b ha hb =
    by_test (tconj_left a b) (tconj_word a b)
    (at 2 (λ b. same_test (word (tconj_left a b)) (word (tconj_word a b)))
    (at 3 (λ a. all 2 (λ b. same_test (word (tconj_left a b)) (word (tconj_word a b)))) tconj_table a ha) b hb)

pub tconj_row : (i : ℕ) → i < 6 → RowT i (tconj i)
tconj_row i h =
    let t = and_yes (ltb (tconj i).c 4) (ltb (tconj i).d 8) (at 6 (λ i. ltb (tconj i).c 4 && ltb (tconj i).d 8) tt i h) in
    record { is = refl; c_few = ltb→lt (tconj i).c 4 t.0; d_few = ltb→lt (tconj i).d 8 t.1 }
