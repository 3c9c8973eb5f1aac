-- The letter at a place of a tail, by how many of its runs end there or before. Assumes nothing.
use Rattle.std.specs.Prelude.{◌≡◌, refl, Bool, true, false, cond, ℕ, zero, suc, ◌+◌, ◌≤◌, ltb}
use Rattle.std.proofs.Common.{◌∙◌, arith, ltb-true, lt-ltb}
use Rattle.exact.proofs.Whole.Parity.{false_true}
use Rattle.writing.specs.declared.Ending.{Ending}
use Rattle.writing.specs.Endings.{to_h, to_i, to_x, to_s, letter_in}

abbrev pub past_of : ℕ → ℕ → ℕ
past_of j end = cond (ltb j end) 0 1

abbrev pub run_letter : ℕ → ℕ
run_letter zero = 83
run_letter (suc zero) = 72
run_letter (suc (suc zero)) = 73
run_letter (suc (suc (suc zero))) = 88
run_letter (suc (suc (suc (suc zero)))) = 83
run_letter (suc (suc (suc (suc (suc n))))) = 87

pub run_last : (n : ℕ) → (n ≡ 0 → ⊥) → (n ≡ 1 → ⊥) → (n ≡ 2 → ⊥) → (n ≡ 3 → ⊥) → (n ≡ 4 → ⊥) → 87 ≡ run_letter n
run_last zero a b c d e = absurd (a refl)
run_last (suc zero) a b c d e = absurd (b refl)
run_last (suc (suc zero)) a b c d e = absurd (c refl)
run_last (suc (suc (suc zero))) a b c d e = absurd (d refl)
run_last (suc (suc (suc (suc zero)))) a b c d e = absurd (e refl)
run_last (suc (suc (suc (suc (suc n))))) a b c d e = refl

-- before the end of a run is before the end of the next
abbrev Then : Bool → Bool → Type 0
Then a b = a ≡ true → b ≡ true

not_then : Then true false → ⊥
not_then h = false_true (h refl)

by_runs : (a b c d e : Bool) → Then a b → Then b c → Then c d → Then d e
    → run_letter (cond a 0 1 + cond b 0 1 + cond c 0 1 + cond d 0 1 + cond e 0 1)
    ≡ cond a 83 (cond b 72 (cond c 73 (cond d 88 (cond e 83 87))))
by_runs true true true true true p q r s = refl
by_runs false true true true true p q r s = refl
by_runs false false true true true p q r s = refl
by_runs false false false true true p q r s = refl
by_runs false false false false true p q r s = refl
by_runs false false false false false p q r s = refl
by_runs true false c d e p q r s = absurd (not_then p)
by_runs true true false d e p q r s = absurd (not_then q)
by_runs true true true false e p q r s = absurd (not_then r)
by_runs true true true true false p q r s = absurd (not_then s)
by_runs false true false d e p q r s = absurd (not_then q)
by_runs false true true false e p q r s = absurd (not_then r)
by_runs false true true true false p q r s = absurd (not_then s)
by_runs false false true false e p q r s = absurd (not_then r)
by_runs false false true true false p q r s = absurd (not_then s)
by_runs false false false true false p q r s = absurd (not_then s)

sooner : (j m n : ℕ) → m ≤ n → Then (ltb j m) (ltb j n)
sooner j m n l h = lt-ltb j n (omega (arith, ltb-true j m h))

pub run_letter_lem : (e : Ending) (j a b c d f r : ℕ)
    → a ≡ past_of j e.first
    → b ≡ past_of j (to_h e)
    → c ≡ past_of j (to_i e)
    → d ≡ past_of j (to_x e)
    → f ≡ past_of j (to_s e)
    → r ≡ run_letter (a + b + c + d + f)
    → r ≡ letter_in e j
run_letter_lem e j a b c d f r p q s t u v =
    v
    ∙ rw (p, q, s, t, u)
    (by_runs (ltb j e.first) (ltb j (to_h e)) (ltb j (to_i e)) (ltb j (to_x e)) (ltb j (to_s e))
    (sooner j e.first (to_h e) (omega arith)) (sooner j (to_h e) (to_i e) (omega arith))
    (sooner j (to_i e) (to_x e) (omega arith)) (sooner j (to_x e) (to_s e) (omega arith)))
