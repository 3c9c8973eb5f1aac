-- X and S before a Clifford, moved into it one letter at a time: past E, which leaves a phase, and then past X. Assumes nothing.
use Rattle.std.specs.Prelude.{◌≡◌, refl, Bool, true, false, ◌&&◌, List, [], ◌∷◌, ◌++◌, ℕ, zero, suc, ◌+◌, ◌-◌, ◌*◌, ◌<◌, ◌≤◌, T, ltb, get_or}
use Rattle.std.proofs.Common.{sym, ◌∙◌, ap, append_assoc, append-nil, add_comm, add-zero, add-suc, arith, ltb-true, ltb-false}
use Rattle.std.proofs.Math.Facts.{and_yes}
use Rattle.exact.specs.Meaning.Word.{Letter, S, X, W, word}
use Rattle.exact.specs.Meaning.Normal.{times}
use Rattle.exact.specs.Meaning.Clifford.{cycle}
use Rattle.exact.proofs.Matrices.Test.{same_test}
use Rattle.clifford.specs.declared.Clifford.{Clifford}
use Rattle.clifford.specs.declared.Conj2.{Conj2}
use Rattle.clifford.specs.declared.Passing.{Passing}
use Rattle.clifford.specs.Meaning.{letters, Ranged}
use Rattle.clifford.specs.Words.{◌≈◌}
use Rattle.clifford.proofs.Words.{by_test, by_refl, by_eq, by_sym, ◌⨾◌, join, under, before, lessened, exes, esses, doubleyous, pass}
use Rattle.clifford.specs.Tables.{quadruple, conj2, Row2}
use Rattle.clifford.proofs.Tables.{at, ranged_test, ranged_test_is, conj2_right}
use Rattle.clifford.proofs.Unique.{one_Clifford}
use Rattle.clifford.specs.Moves.{letter, Past, move_rows, move_at, past, joined, moved, chosen, letter_at, fold, Preceded}

abbrev move_test : Passing → ℕ → Bool
move_test l a = ranged_test (past l a) && same_test (word (letter l ∷ cycle a)) (word (letters (past l a)))

move_right : (l : Passing) (a : ℕ) → T (move_test l a) → Past l a (past l a)
move_right l a t =
    let u = and_yes (ranged_test (past l a)) (same_test (word (letter l ∷ cycle a)) (word (letters (past l a)))) t in
    record { ranged = ranged_test_is (past l a) u.0; same = by_test (letter l ∷ cycle a) (letters (past l a)) u.1 }

pub past_right : (l : Passing) (a : ℕ) → a < 3 → Past l a (past l a)
past_right Passing.X a h = move_right Passing.X a (at 3 (move_test Passing.X) tt a h)
past_right Passing.S a h = move_right Passing.S a (at 3 (move_test Passing.S) tt a h)

-- what it became passes X, with every omega at the end
behind : (E X₁ S₁ S₂ B C : List Letter) (d₁ d₂ d : ℕ)
    → S₁ ++ B ≈ B ++ (S₂ ++ times d₂ W)
    → (E ++ (X₁ ++ (S₁ ++ times d₁ W))) ++ (B ++ (C ++ times d W))
    ≈ E ++ ((X₁ ++ B) ++ ((S₂ ++ C) ++ (times d W ++ (times d₁ W ++ times d₂ W))))
behind E X₁ S₁ S₂ B C d₁ d₂ d two =
    by_eq {v = E ++ (X₁ ++ (S₁ ++ (times d₁ W ++ (B ++ (C ++ times d W)))))} (simp append_assoc)
    ⨾ under E (under X₁ (under S₁ (pass d₁ (B ++ (C ++ times d W)))))
    ⨾ by_eq {v = E ++ (X₁ ++ ((S₁ ++ B) ++ R))} (simp append_assoc)
    ⨾ under E (under X₁ (before two R))
    ⨾ by_eq {v = E ++ (X₁ ++ (B ++ (S₂ ++ (times d₂ W ++ R))))} (simp append_assoc)
    ⨾ under E (under X₁ (under B (under S₂ (pass d₂ R))))
    ⨾ by_eq (simp append_assoc)
  where
    R : List Letter
    R = C ++ (times d W ++ times d₁ W)

gathered : (e : ℕ) (b b' c c' d d₁ d₂ : ℕ)
    → cycle e ++ ((times b X ++ times b' X) ++ ((times c S ++ times c' S) ++ (times d W ++ (times d₁ W ++ times d₂ W))))
    ≡ letters (quadruple e (b + b') (c + c') (d₁ + d₂ + d))
gathered e b b' c c' d d₁ d₂ =
    rw (exes.add b b', esses.add c c', add_comm (d₁ + d₂) d, doubleyous.add d (d₁ + d₂), doubleyous.add d₁ d₂)

pub moved_right : (l : Passing) (q : Clifford) → Ranged q → letter l ∷ letters q ≈ letters (moved l q)
moved_right l q h =
    before passed.same (times q.b X ++ (times q.c S ++ times q.d W))
    ⨾ behind (cycle e.a) (times e.b X) (times e.c S) (times s.c S) (times q.b X) (times q.c S) e.d s.d q.d
    (conj2_right e.c q.b passed.ranged.c_few h.b_few)
    ⨾ by_eq (gathered e.a e.b q.b s.c q.c q.d e.d s.d)
    ⨾ under (cycle e.a) (join (lessened exes (e.b + q.b)) (join (lessened esses (s.c + q.c)) (lessened doubleyous (e.d + s.d + q.d))))
  where
    e : Clifford
    e = past l q.a

    s : Conj2
    s = conj2 (e.c * 2 + q.b)

    passed : Past l q.a (past l q.a)
    passed = past_right l q.a h.a_few

pub moved_ranged : (l : Passing) (q : Clifford) → Ranged q → Ranged (moved l q)
moved_ranged l q h = record { a_few = (past_right l q.a h.a_few).ranged.a_few; b_few = omega arith; c_few = omega arith; d_few = omega arith }

abbrev front : ℕ → ℕ → List Letter
front b zero = []
front b (suc n) = front b n ++ (letter (letter_at b n) ∷ [])

fold_right : (b n : ℕ) (q : Clifford) → Ranged q → front b n ++ letters q ≈ letters (fold b n q)
fold_right b zero q h = by_refl (letters q)
fold_right b (suc n) q h =
    by_eq (append_assoc (front b n) (letter (letter_at b n) ∷ []) (letters q))
    ⨾ under (front b n) (moved_right (letter_at b n) q h)
    ⨾ fold_right b n (moved (letter_at b n) q) (moved_ranged (letter_at b n) q h)

-- they are X^b S^c
pub is_X : (b n : ℕ) → n < b → Passing.X ≡ letter_at b n
is_X b n h = go (ltb n b) refl
  where
    go : (t : Bool) → ltb n b ≡ t → Passing.X ≡ chosen t
    go true e = refl
    go false e = absurd (omega (arith, ltb-false n b e))

pub is_S : (b n : ℕ) → b ≤ n → Passing.S ≡ letter_at b n
is_S b n h = go (ltb n b) refl
  where
    go : (t : Bool) → ltb n b ≡ t → Passing.S ≡ chosen t
    go true e = absurd (omega (arith, ltb-true n b e))
    go false e = refl

one_more : (l : Letter) (n : ℕ) → times n l ++ (l ∷ []) ≡ l ∷ times n l
one_more l zero = refl
one_more l (suc n) = ap (λ u. l ∷ u) (one_more l n)

front_X : (b n : ℕ) → n ≤ b → front b n ≡ times n X
front_X b zero h = refl
front_X b (suc n) h = rw (front_X b n (omega arith), ← is_X b n (omega arith)) (one_more X n)

front_is : (b c : ℕ) → front b (b + c) ≡ times b X ++ times c S
front_is b zero = ap (front b) (add-zero b) ∙ front_X b b (omega arith) ∙ sym (append-nil (times b X))
front_is b (suc c) =
    ap (front b) (add-suc b c)
    ∙ rw (front_is b c, ← is_S b (b + c) (omega arith)) (append_assoc (times b X) (times c S) (S ∷ []))
    ∙ ap (λ u. times b X ++ u) (one_more S c)

pub preceded_right : (b c : ℕ) (q : Clifford) → Ranged q → times b X ++ (times c S ++ letters q) ≈ letters (fold b (b + c) q)
preceded_right b c q h =
    by_eq (sym (append_assoc (times b X) (times c S) (letters q)) ∙ ap (λ u. u ++ letters q) (sym (front_is b c)))
    ⨾ fold_right b (b + c) q h

-- before E^a alone: the rows of the table that the Rust has for it
abbrev row : ℕ → ℕ → ℕ → Clifford
row a b c = fold b (b + c) (quadruple a 0 0 0)

pub row_right : (a b c : ℕ) → a < 3 → times b X ++ (times c S ++ cycle a) ≈ letters (row a b c)
row_right a b c h =
    under (times b X) (under (times c S) (by_eq (sym (append-nil (cycle a)))))
    ⨾ preceded_right b c (quadruple a 0 0 0) (record { a_few = h; b_few = omega arith; c_few = omega arith; d_few = omega arith })

-- ---- what the program does
pub at_S : (l : Passing) (a : ℕ) → l ≡ Passing.S → a + 3 ≡ move_at l a
at_S l a e = rw e

pub move_few : (l : Passing) (a i : ℕ) → a < 3 → i ≡ move_at l a → i < 6
move_few Passing.X a i h e = omega arith
move_few Passing.S a i h e = omega arith

pub past_by : (l : Passing) (a i : ℕ) → a < 3 → i ≡ move_at l a → Past l a (get_or move_rows i (quadruple 0 0 0 0))
past_by l a i h e = rw e (past_right l a h)

pub past_is : (l : Passing) (a : ℕ) (r : Clifford) → a < 3 → Past l a r → r ≡ past l a
past_is l a r h p =
    let q = past_right l a h in
    one_Clifford r (past l a) p.ranged q.ranged (by_sym p.same ⨾ q.same).same

pub moved_by : (l : Passing) (q e : Clifford) (s : Conj2) → Ranged q → Past l q.a e → Row2 (e.c * 2 + q.b) s → joined e s q ≡ moved l q
moved_by l q e s h p two = rw (two.is, past_is l q.a e h.a_few p)

-- what is left of the letters, before q, is all of them before q₀
pub record Going (b n : ℕ) (q₀ q : Clifford) (left : ℕ) : Type 0 where
  pub still : fold b left q ≡ fold b n q₀
  pub ranged : Ranged q

pub going_on : (l : Passing) (b n left : ℕ) (q₀ q r : Clifford)
    → 0 < left
    → Going b n q₀ q left
    → l ≡ letter_at b (left - 1)
    → r ≡ moved l q
    → Going b n q₀ r (left - 1)
going_on l b n zero q₀ q r h g e f = absurd (omega arith)
going_on l b n (suc left) q₀ q r h g e f =
    let less : suc left - 1 ≡ left = omega arith in
    rw (f, e, less) (record { still = g.still; ranged = moved_ranged (letter_at b left) q g.ranged })

pub gone : (b c left : ℕ) (q₀ q : Clifford) → left ≤ 0 → Going b (b + c) q₀ q left → Preceded b c q₀ q
gone b c zero q₀ q h g = record { is = g.still; ranged = g.ranged }
gone b c (suc left) q₀ q h g = absurd (omega arith)
